-- What a run rests on, and the memory that it changes.
use Rattle.std.specs.Prelude.{Bool, ℕ}
use Rattle.language.specs.Syntax.{Ty, t_int, t_err, t_pkg, t_sum, t_pair, Value}

-- What a run rests on: the types and the order of labels that the sheet gives, and which labels the authority
-- reads and writes.
pub record World : Type 0 where
  pub ty : ℕ → Ty
  pub below : ℕ → ℕ → Bool
  pub reads : ℕ → Bool
  pub writes : ℕ → Bool

-- The value at each location.
abbrev pub Mem : Type 0
Mem = ℕ → Value

-- A location takes this many words; a value of more is too long.
abbrev pub cell_words : ℕ
cell_words = 16

-- the wanted type of an unpack that names the sum type t: the left part of t. (No accepted script names another type; a
-- pair's first part then, and int where there are no parts.)
unfoldable pub wanted : Ty → Ty
wanted t_int = t_int
wanted t_err = t_int
wanted t_pkg = t_int
wanted (t_sum a b) = a
wanted (t_pair a b) = a

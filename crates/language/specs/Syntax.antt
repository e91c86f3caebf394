-- SImp's syntax (the paper, section 2, with the pairs of request (f)): types, values, expressions, commands; and
-- scripts.
-- Locations, types and labels are named by their numbers on the sheet.
use Rattle.std.specs.Prelude.{Bool, true, false, ℕ, suc, ◌+◌}
use Rattle.std.proofs.Math.Option.{Option}
use Rattle.logic.specs.Booleans.{both}

-- int, error, pkg, and the sum and the pair of two types.
pub data Ty : Type 0 where
  t_int t_err t_pkg : Ty
  t_sum t_pair : Ty → Ty → Ty
  deriving Discrete as Ty-discrete

-- What a package says of its content: the label that its pack names.
pub record Head : Type 0 where
  pub label : ℕ

-- the head of a package that a pack of label l makes
abbrev pub head_of : ℕ → Head
head_of l = record { label = l }

-- The words that a head takes in memory.
abbrev pub head_size : ℕ
head_size = 1

-- An integer; an error (1 insufficientAuth, 2 illegalFlow, 3 typeMismatch); left and right; a package with its head;
-- a pair of two values.
-- `blank` stands for content that a view hides, and for words that are read and are no value's; no run meets it.
pub data Value : Type 0 where
  int : ℕ → Value
  err : ℕ → Value
  inl : Value → Value
  inr : Value → Value
  pkg : Head → Value → Value
  pair : Value → Value → Value
  blank : Value

-- The parts of a pair.
pub data Part : Type 0 where
  first second : Part

-- that part of two things
unfoldable pub pick {ℓ} : {A : Type ℓ} → Part → A → A → A
pick first a b = a
pick second a b = b

-- A value is an expression; a script's only values are integers, and substitution brings in the others.
-- `var d` is bound by the d-th enclosing case, innermost 0. `left t`, `right t` and `unpack t` name the sum type t that
-- they make, `pairing t` the pair type t. `proj p` is a part of a pair: its projection.
pub data Expr : Type 0 where
  val : Value → Expr
  loc : ℕ → Expr
  var : ℕ → Expr
  plus : Expr → Expr → Expr
  left right : ℕ → Expr → Expr
  pack : ℕ → Expr → Expr
  unpack : ℕ → ℕ → Expr → Expr
  pairing : ℕ → Expr → Expr → Expr
  proj : Part → Expr → Expr

pub data Cmd : Type 0 where
  skip : Cmd
  seq : Cmd → Cmd → Cmd
  assign : ℕ → Expr → Cmd
  while : Expr → Cmd → Cmd
  case : Expr → Cmd → Cmd → Cmd

-- What a script says ahead of its command: the label that it starts at, by number, or none (request (d)).
pub record Opening : Type 0 where
  pub start : Option ℕ

-- A script is an opening and one command.
pub record Script : Type 0 where
  pub opening : Opening
  pub command : Cmd

-- The words that a value takes in memory.
unfoldable pub size : Value → ℕ
size (int n) = 2
size (err n) = 2
size (inl v) = suc (size v)
size (inr v) = suc (size v)
size (pkg h v) = suc (head_size + size v)
size (pair v w) = suc (size v + size w)
size blank = 1

-- Whether a value has a type: that of a pair is tested in both parts, down to the leaves. What a package holds is not
-- looked at: its content may be any value.
unfoldable pub has : Value → Ty → Bool
has (int n) t_int = true
has (int n) t_err = false
has (int n) t_pkg = false
has (int n) (t_sum a b) = false
has (int n) (t_pair a b) = false
has (err n) t_int = false
has (err n) t_err = true
has (err n) t_pkg = false
has (err n) (t_sum a b) = false
has (err n) (t_pair a b) = false
has (inl v) t_int = false
has (inl v) t_err = false
has (inl v) t_pkg = false
has (inl v) (t_sum a b) = has v a
has (inl v) (t_pair a b) = false
has (inr v) t_int = false
has (inr v) t_err = false
has (inr v) t_pkg = false
has (inr v) (t_sum a b) = has v b
has (inr v) (t_pair a b) = false
has (pkg h v) t_int = false
has (pkg h v) t_err = false
has (pkg h v) t_pkg = true
has (pkg h v) (t_sum a b) = false
has (pkg h v) (t_pair a b) = false
has (pair v w) t_int = false
has (pair v w) t_err = false
has (pair v w) t_pkg = false
has (pair v w) (t_sum a b) = false
has (pair v w) (t_pair a b) = both (has v a) (has w b)
has blank t = false

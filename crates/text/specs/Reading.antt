-- A reading goes over a text, or the rest of one, as a list of bytes, and hands back a value and what follows it.
use Rattle.std.specs.Prelude.{ℕ, Bool, cond, List, [], ◌∷◌, length, leb, eqb}

-- a value and what follows it, or a refusal
pub data Read (A : Type 0) : Type 0 where
  got : A → List ℕ → Read A
  bad : Read A

-- one reading after another
unfoldable pub and_then : {A B : Type 0} → Read A → (A → List ℕ → Read B) → Read B
and_then (got v t) f = f v t
and_then bad f = bad

-- the byte b at the front
unfoldable pub byte : ℕ → List ℕ → Read Unit
byte b [] = bad
byte b (c ∷ t) = cond (eqb c b) (got tt t) bad

-- the longest text, in bytes ("The three texts")
abbrev pub limit : ℕ
limit = 16384

-- a text that is not longer
unfoldable pub fits : List ℕ → Bool
fits t = leb (length t) limit

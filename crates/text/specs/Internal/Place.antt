-- The code reads at a place of a text s and answers the place after what it read.
use Rattle.std.specs.Prelude.{ℕ, ◌-◌, cond, ltb, List, length, Option, Some, None}
use Rattle.text.specs.Reading.{Read}
use Rattle.text.specs.Reading.Read.{got, bad}
use Rattle.text.specs.Set.{hex_digit}

-- a reading in s as an answer: the value and the place where what follows starts, or none (what follows is the end of
-- s)
unfoldable pub placed : {A : Type 0} → List ℕ → Read A → Option (A × ℕ)
placed s (got v t) = Some (v, length s - length t)
placed s bad = None

-- the same of a reading whose value says nothing: the place alone
unfoldable pub placed_end : List ℕ → Read Unit → Option ℕ
placed_end s (got v t) = Some (length s - length t)
placed_end s bad = None

-- the value of a hexadecimal digit, or none where it is 16
unfoldable pub hex_value : ℕ → Option ℕ
hex_value c = cond (ltb 15 (hex_digit c)) None (Some (hex_digit c))

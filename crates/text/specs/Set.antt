-- Sets are lowercase hexadecimal digits, exactly four of them at a width of 16 ("The three texts").
use Rattle.std.specs.Prelude.{ℕ, zero, suc, ◌+◌, ◌*◌, ◌-◌, ◌/◌, ◌%◌, cond, List, [], ◌∷◌, ◌++◌, ltb}
use Rattle.sets.specs.Sets.{width}
use Rattle.text.specs.Reading.{Read}
use Rattle.text.specs.Reading.Read.{got, bad}

-- the value of a digit 0 to 9 or a to f, 16 for any other byte
unfoldable pub hex_digit : ℕ → ℕ
hex_digit c = cond (ltb c 48) 16 (cond (ltb c 58) (c - 48) (cond (ltb c 97) 16 (cond (ltb c 103) (c - 87) 16)))

-- v with k digits after it
unfoldable pub hex_digits : ℕ → ℕ → List ℕ → Read ℕ
hex_digits zero v t = got v t
hex_digits (suc k) v [] = bad
hex_digits (suc k) v (c ∷ t) = cond (ltb 15 (hex_digit c)) bad (hex_digits k (v * 16 + hex_digit c) t)

-- the number of digits of a set: four bits each
abbrev pub set_digits : ℕ
set_digits = width / 4

-- a set of principals
abbrev pub hex_set : List ℕ → Read ℕ
hex_set t = hex_digits set_digits 0 t

-- the byte of a digit
unfoldable pub hex_byte : ℕ → ℕ
hex_byte d = cond (ltb d 10) (48 + d) (87 + d)

-- m in k digits
unfoldable pub hex_form : ℕ → ℕ → List ℕ
hex_form zero m = []
hex_form (suc k) m = hex_form k (m / 16) ++ hex_byte (m % 16) ∷ []

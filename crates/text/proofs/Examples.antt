-- The forms on a few texts, by computing.
use mathlib.Core.Path.{◌≡◌, refl}
use mathlib.Core.Bool.{true, false}
use mathlib.Core.List.{[], ◌∷◌}
use lib.ListN.{replicate}
use Rattle.text.specs.Reading.{and_then, byte, fits}
use Rattle.text.specs.Reading.Read.{got, bad}
use Rattle.text.specs.Number.{digit, opens_digit, digits, number, decimal_on, decimal, most}
use Rattle.text.specs.Set.{hex_digit, hex_digits, hex_set, hex_byte, hex_form}
use Rattle.text.specs.Field.{number_field, set_field, line_end, last_number}
use Rattle.logic.specs.Booleans.{both}

number_examples :
    -- 63 and 64 of at most 63, 0 and 00, 05, 4294967295 and 4294967296, twenty digits
    (number 63 (54 ∷ 51 ∷ 10 ∷ []) ≡ got 63 (10 ∷ []))
    × (number 63 (54 ∷ 52 ∷ 10 ∷ []) ≡ bad)
    × (number 0 (48 ∷ []) ≡ got 0 [])
    × (number 63 (48 ∷ 48 ∷ []) ≡ bad)
    × (number 63 (48 ∷ 53 ∷ []) ≡ bad)
    × (number most (52 ∷ 50 ∷ 57 ∷ 52 ∷ 57 ∷ 54 ∷ 55 ∷ 50 ∷ 57 ∷ 53 ∷ []) ≡ got 4294967295 [])
    × (number most (52 ∷ 50 ∷ 57 ∷ 52 ∷ 57 ∷ 54 ∷ 55 ∷ 50 ∷ 57 ∷ 54 ∷ []) ≡ bad)
    × (number most (replicate 20 49) ≡ bad)
    -- nothing, a carriage return, a byte above 127
    × (number most [] ≡ bad)
    × (number most (13 ∷ 10 ∷ []) ≡ bad)
    × (number most (200 ∷ []) ≡ bad)
unfolding number digits digit opens_digit both
number_examples = (refl, refl, refl, refl, refl, refl, refl, refl, refl, refl, refl)

decimal_examples :
    (decimal 0 ≡ 48 ∷ [])
    × (decimal 4294967295 ≡ 52 ∷ 50 ∷ 57 ∷ 52 ∷ 57 ∷ 54 ∷ 55 ∷ 50 ∷ 57 ∷ 53 ∷ [])
unfolding decimal decimal_on
decimal_examples = (refl, refl)

set_examples :
    -- 0a7f, 0A7f, three digits, five digits
    (hex_set (48 ∷ 97 ∷ 55 ∷ 102 ∷ 10 ∷ []) ≡ got 2687 (10 ∷ []))
    × (hex_set (48 ∷ 65 ∷ 55 ∷ 102 ∷ 10 ∷ []) ≡ bad)
    × (hex_set (48 ∷ 48 ∷ 55 ∷ 10 ∷ []) ≡ bad)
    × (hex_set (48 ∷ 48 ∷ 48 ∷ 55 ∷ 55 ∷ []) ≡ got 7 (55 ∷ []))
    × (hex_form 4 2687 ≡ 48 ∷ 97 ∷ 55 ∷ 102 ∷ [])
unfolding hex_digits hex_digit hex_form hex_byte
set_examples = (refl, refl, refl, refl, refl)

field_examples :
    -- a tab and 7, two tabs, no tab; 7 and the end of the line, 7 and a carriage return, no end
    (number_field 9 (9 ∷ 55 ∷ 10 ∷ []) ≡ got 7 (10 ∷ []))
    × (number_field 9 (9 ∷ 9 ∷ 55 ∷ 10 ∷ []) ≡ bad)
    × (number_field 9 (55 ∷ 10 ∷ []) ≡ bad)
    × (last_number 9 (9 ∷ 55 ∷ 10 ∷ 80 ∷ []) ≡ got 7 (80 ∷ []))
    × (last_number 9 (9 ∷ 55 ∷ 13 ∷ 10 ∷ []) ≡ bad)
    × (last_number 9 (9 ∷ 55 ∷ []) ≡ bad)
    × (set_field (9 ∷ 48 ∷ 48 ∷ 48 ∷ 55 ∷ []) ≡ got 7 [])
    × (line_end [] ≡ bad)
unfolding number_field set_field last_number and_then byte number digits digit opens_digit hex_digits hex_digit both
field_examples = (refl, refl, refl, refl, refl, refl, refl, refl)

fits_examples : (fits (replicate 16384 65) ≡ true) × (fits (replicate 16385 65) ≡ false)
unfolding fits
fits_examples = (refl, refl)

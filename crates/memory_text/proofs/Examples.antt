-- Memory texts by computing.
use Prim.Native.Nat.{ℕ, ◌+◌}
use mathlib.Core.Path.{◌≡◌, refl}
use mathlib.Core.List.{List, [], ◌∷◌, ◌++◌}
use lib.ListN.{replicate}
use Rattle.text.specs.Reading.{and_then, byte, fits}
use Rattle.text.specs.Reading.Read.{got, bad}
use Rattle.text.specs.Number.{digit, opens_digit, digits, number, decimal_on, decimal}
use Rattle.text.specs.Lines.{front, onward, lines_up_to, print_lines}
use Rattle.memory_text.specs.Printing.{cons_trimmed, trim, fields, line, rows, memory_text}
use Rattle.sheet.specs.Sheet.{max_locations}
use Rattle.sheet.specs.Padding.{padded}
use Rattle.memory_text.specs.Sizes.{memory_words}
use Rattle.memory_text.specs.Reading.{following, words, blank_or, filled_line, location, all_words, words_of_rows}
use Rattle.memory_text.specs.Reading.{locations, memory}
use Rattle.logic.specs.Booleans.{both}

-- the view that the scope shows: `1 5`, an empty line, `3 5 2`, an empty line
view : List ℕ
view = padded 16 (1 ∷ 5 ∷ []) ++ (padded 16 [] ++ (padded 16 (3 ∷ 5 ∷ 2 ∷ []) ++ padded 16 []))

view_text : List ℕ
view_text = 49 ∷ 9 ∷ 53 ∷ 10 ∷ 10 ∷ 51 ∷ 9 ∷ 53 ∷ 9 ∷ 50 ∷ 10 ∷ 10 ∷ []

printed-view : memory_text view ≡ view_text
unfolding view view_text memory_text print_lines rows line fields trim cons_trimmed padded decimal decimal_on
printed-view = refl

read_examples :
    (memory view_text ≡ got view [])
    -- no locations; no end of line; a zero word at the end; a zero inside; two tabs; a carriage return;
    -- a tab at the end
    × (memory [] ≡ got [] [])
    × (memory (49 ∷ []) ≡ bad)
    × (memory (49 ∷ 9 ∷ 48 ∷ 10 ∷ []) ≡ bad)
    × (memory (49 ∷ 9 ∷ 48 ∷ 9 ∷ 50 ∷ 10 ∷ []) ≡ got (padded 16 (1 ∷ 0 ∷ 2 ∷ [])) [])
    × (memory (49 ∷ 9 ∷ 9 ∷ 50 ∷ 10 ∷ []) ≡ bad)
    × (memory (49 ∷ 13 ∷ 10 ∷ []) ≡ bad)
    × (memory (49 ∷ 9 ∷ 10 ∷ []) ≡ bad)
    -- the most locations and one more, 17 words
    × (memory (replicate max_locations 10) ≡ got (replicate memory_words 0) [])
    × (memory (replicate (max_locations + 1) 10) ≡ bad)
    × (memory (49 ∷ 9 ∷ 49 ∷ 9 ∷ 49 ∷ 9 ∷ 49 ∷ 9 ∷ 49 ∷ 9 ∷ 49 ∷ 9 ∷ 49 ∷ 9 ∷ 49 ∷ 9 ∷ 49 ∷ 9 ∷ 49 ∷ 9 ∷ 49 ∷ 9 ∷ 49 ∷
    9 ∷ 49 ∷ 9 ∷ 49 ∷ 9 ∷ 49 ∷ 9 ∷ 49 ∷ 9 ∷ 49 ∷ 10 ∷ []) ≡ bad)
unfolding view view_text memory locations words_of_rows all_words front onward lines_up_to location blank_or filled_line
    words
    following padded and_then byte fits number digits digit opens_digit both
read_examples = (refl, refl, refl, refl, refl, refl, refl, refl, refl, refl, refl)

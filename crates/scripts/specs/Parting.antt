-- Several scripts in one text, parted by its empty lines (request (a), rounds). It takes no sheet.
use Rattle.std.specs.Prelude.{ℕ, Bool, true, cond, List, [], ◌∷◌, eqb}
use Rattle.logic.specs.Booleans.{both}

-- the byte in front of the first text
unfoldable pub to_first : ℕ → List (List ℕ) → List (List ℕ)
to_first b [] = (b ∷ []) ∷ []
to_first b (p ∷ ps) = (b ∷ p) ∷ ps

-- The texts of the scripts in the rest of a text; `start`: a line starts here. Every line without a byte parts two of
-- them, and its end belongs to neither.
unfoldable pub script_texts_from : Bool → List ℕ → List (List ℕ)
script_texts_from start [] = [] ∷ []
script_texts_from start (b ∷ t) =
    cond (both start (eqb b 10)) ([] ∷ script_texts_from true t) (to_first b (script_texts_from (eqb b 10) t))

-- the texts of a round's scripts: one more than it has empty lines
unfoldable pub script_texts : List ℕ → List (List ℕ)
script_texts text = script_texts_from true text

-- the most scripts of a round
abbrev pub most_scripts : ℕ
most_scripts = 32

-- Texts of a few bytes, parted by computing.
use mathlib.Core.Path.{◌≡◌, refl}
use mathlib.Core.List.{[], ◌∷◌}
use Rattle.logic.specs.Booleans.{both}
use Rattle.scripts.specs.Parting.{to_first, script_texts_from, script_texts}

-- no byte: one empty script
none : script_texts [] ≡ [] ∷ []
unfolding script_texts script_texts_from to_first both
none = refl

-- two scripts, the last without the end of its line
two : script_texts (115 ∷ 10 ∷ 10 ∷ 115 ∷ []) ≡ (115 ∷ 10 ∷ []) ∷ (115 ∷ []) ∷ []
unfolding script_texts script_texts_from to_first both
two = refl

-- an empty line at the start, two in a row, one at the end: empty scripts
empty_lines : script_texts (10 ∷ 115 ∷ 10 ∷ 10 ∷ 10 ∷ 115 ∷ 10 ∷ 10 ∷ [])
    ≡ [] ∷ (115 ∷ 10 ∷ []) ∷ [] ∷ (115 ∷ 10 ∷ []) ∷ [] ∷ []
unfolding script_texts script_texts_from to_first both
empty_lines = refl

-- a line with a tab is not empty
tab : script_texts (9 ∷ 10 ∷ 10 ∷ []) ≡ (9 ∷ 10 ∷ []) ∷ [] ∷ []
unfolding script_texts script_texts_from to_first both
tab = refl

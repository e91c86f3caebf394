-- Inputs of a few bytes, parted by computing.
use Prim.Native.Nat.{ℕ}
use mathlib.Core.Path.{◌≡◌, refl}
use mathlib.Core.List.{List, [], ◌∷◌}
use Rattle.parts.specs.Parts.{parting, byte_if, text_from, text_of}
use Rattle.logic.specs.Booleans.{both}

-- the three texts of an input
abbrev three : List ℕ → List (List ℕ)
three input = text_of 2 0 input ∷ text_of 2 1 input ∷ text_of 2 2 input ∷ []

-- two empty lines; each text keeps the end of its last line
whole : three (80 ∷ 10 ∷ 10 ∷ 49 ∷ 10 ∷ 10 ∷ 48 ∷ 10 ∷ []) ≡ (80 ∷ 10 ∷ []) ∷ (49 ∷ 10 ∷ []) ∷ (48 ∷ 10 ∷ []) ∷ []
unfolding text_of text_from parting byte_if both
whole = refl

-- the first text is empty, and the empty lines of the last belong to it
inner : three (10 ∷ 49 ∷ 10 ∷ 10 ∷ 10 ∷ 48 ∷ []) ≡ [] ∷ (49 ∷ 10 ∷ []) ∷ (10 ∷ 48 ∷ []) ∷ []
unfolding text_of text_from parting byte_if both
inner = refl

-- no empty line: the second and the third text are missing
missing : three (80 ∷ 10 ∷ 49 ∷ 10 ∷ []) ≡ (80 ∷ 10 ∷ 49 ∷ 10 ∷ []) ∷ [] ∷ [] ∷ []
unfolding text_of text_from parting byte_if both
missing = refl

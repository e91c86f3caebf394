-- What is shown of the texts of an input.
use Rattle.std.specs.Prelude.{ℕ, suc, ◌*◌, ◌≤◌, ◌<◌, ◌≡◌, true, List, [], ◌∷◌, ◌++◌, length, get_or}
use Rattle.parts.specs.Parts.{text_of, keep, kept_of, no_empty_line, line_ended, joined}
use Rattle.parts.specs.Feeding.{texts, beginning, Held, held, fed, text_held}

-- lines that are not empty, each with its end
pub record Lines (t : List ℕ) : Type 0 where
  pub no_empty : no_empty_line true t ≡ true
  pub whole : line_ended true t ≡ true

unfoldable pub AllWhole : List (List ℕ) → Type 0
AllWhole [] = Unit {0}
AllWhole (t ∷ ts) = Lines t × AllWhole ts

-- Texts without empty lines, joined by empty lines, are parted into these again; empty lines in the last text belong
-- to it.
abbrev pub JoinedApart : Type 0
JoinedApart = (ts : List (List ℕ)) (end : List ℕ) → AllWhole ts → (i : ℕ)
    → text_of (length ts) i (joined ts end) ≡ get_or (ts ++ (end ∷ [])) i []

-- Where there are fewer empty lines than the texts need, the missing texts are empty.
abbrev pub MissingEmpty : Type 0
MissingEmpty =
    (ts : List (List ℕ)) (end : List ℕ) → AllWhole ts → no_empty_line true end ≡ true → (last : ℕ) → length ts ≤ last
    → (i : ℕ) → text_of last i (joined ts end) ≡ get_or (ts ++ (end ∷ [])) i []

-- Chunks fed one after another are their concatenation.
abbrev pub Chunks : Type 0
Chunks = (last : ℕ) (h : Held) (xs ys : List ℕ) → fed last h (xs ++ ys) ≡ fed last (fed last h xs) ys

-- A buffer that is long enough then holds what is kept of each text.
abbrev pub HoldsTexts : Type 0
HoldsTexts =
    (last : ℕ) (buffer input : List ℕ) → last < texts → suc last * keep ≤ length buffer → (i : ℕ) → i ≤ last
    → let h = fed last (held beginning buffer) input in
    text_held h.state h.buffer i ≡ kept_of last i input

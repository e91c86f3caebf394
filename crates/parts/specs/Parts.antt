-- Several texts in one input, parted by its first empty lines; a missing text is empty (the scope, the program show).
use Rattle.std.specs.Prelude.{ℕ, suc, ◌+◌, Bool, true, cond, not, List, [], ◌∷◌, ◌++◌, take, eqb, ltb}
use Rattle.text.specs.Reading.{limit}
use Rattle.logic.specs.Booleans.{both}

-- The byte b parts text j from the next: a line starts with it and ends, and text j is not the last.
unfoldable pub parting : ℕ → ℕ → Bool → ℕ → Bool
parting last j start b = both start (both (eqb b 10) (ltb j last))

-- the byte in front, where it belongs to the text
unfoldable pub byte_if : Bool → ℕ → List ℕ → List ℕ
byte_if mine b t = cond mine (b ∷ t) t

-- The bytes of text i in the rest of the input, where text j goes on; `start`: a line starts here.
unfoldable pub text_from : ℕ → ℕ → ℕ → Bool → List ℕ → List ℕ
text_from last i j start [] = []
text_from last i j start (b ∷ t) =
    let next = text_from last i (j + 1) true t in
    let same = text_from last i j (eqb b 10) t in
    cond (parting last j start b) next (byte_if (eqb j i) b same)

-- text i of an input with the texts 0 to last
unfoldable pub text_of : ℕ → ℕ → List ℕ → List ℕ
text_of last i input = text_from last i 0 true input

-- What is kept of a text: one byte more than a text may have, so that a text which is too long stays too long.
abbrev pub keep : ℕ
keep = suc limit

unfoldable pub kept_of : ℕ → ℕ → List ℕ → List ℕ
kept_of last i input = take keep (text_of last i input)

-- ---- texts put together again

-- no line of t is empty; `start`: a line starts with t
unfoldable pub no_empty_line : Bool → List ℕ → Bool
no_empty_line start [] = true
no_empty_line start (b ∷ t) = both (not (both start (eqb b 10))) (no_empty_line (eqb b 10) t)

-- the last line of t has its end
unfoldable pub line_ended : Bool → List ℕ → Bool
line_ended start [] = start
line_ended start (b ∷ t) = line_ended (eqb b 10) t

-- the texts, each with an empty line after it, and the last text
unfoldable pub joined : List (List ℕ) → List ℕ → List ℕ
joined [] end = end
joined (t ∷ ts) end = t ++ (10 ∷ joined ts end)

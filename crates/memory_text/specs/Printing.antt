-- One line a location, words in decimal parted by one tab, zeros at the end dropped ("The three texts", Memory).
use Rattle.std.specs.Prelude.{ℕ, zero, suc, ◌/◌, cond, List, [], ◌∷◌, ◌++◌, length, take, drop, eqb}
use Rattle.text.specs.Number.{decimal}
use Rattle.text.specs.Field.{print_number_field, print_line_end}
use Rattle.text.specs.Lines.{print_lines}
use Rattle.language.specs.World.{cell_words}

-- w before words without zeros at their end
unfoldable pub cons_trimmed : ℕ → List ℕ → List ℕ
cons_trimmed w [] = cond (eqb w 0) [] (w ∷ [])
cons_trimmed w (v ∷ vs) = w ∷ v ∷ vs

-- the words without the zeros at their end
unfoldable pub trim : List ℕ → List ℕ
trim [] = []
trim (w ∷ ws) = cons_trimmed w (trim ws)

-- each word after a tab, before t
unfoldable pub fields : List ℕ → List ℕ → List ℕ
fields [] t = t
fields (w ∷ ws) t = print_number_field w (fields ws t)

-- a line of words, before t
unfoldable pub line : List ℕ → List ℕ → List ℕ
line [] t = print_line_end t
line (w ∷ ws) t = decimal w ++ fields ws (print_line_end t)

-- a location's line, before t
abbrev pub row_line : List ℕ → List ℕ → List ℕ
row_line row t = line (trim row) t

-- the words of k locations, 16 for each
unfoldable pub rows : ℕ → List ℕ → List (List ℕ)
rows zero ws = []
rows (suc k) ws = take cell_words ws ∷ rows k (drop cell_words ws)

-- the lines of k locations
abbrev pub lines : ℕ → List ℕ → List ℕ
lines k ws = print_lines row_line (rows k ws)

-- a memory, 16 words for each location
unfoldable pub memory_text : List ℕ → List ℕ
memory_text ws = lines (length ws / cell_words) ws

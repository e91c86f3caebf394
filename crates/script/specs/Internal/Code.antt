-- The code of a script: three words a line, its kind's number and two operands; a word without an operand is 0.
use Rattle.std.specs.Prelude.{cond, List, [], ◌∷◌, ℕ, ◌+◌, ◌-◌, ◌/◌, leb, length, get_or}
use Rattle.language.specs.Syntax.{pick}
use Rattle.script.specs.declared.Row.{Row}
use Rattle.script.specs.Lines.{ScriptLine, l_skip, l_seq, l_assign, l_while, l_case, l_int, l_loc, l_var, l_plus}
use Rattle.script.specs.Lines.{l_left, l_right, l_pack, l_unpack, l_pair, l_proj}

-- a row by its words
abbrev pub row_with : ℕ → ℕ → ℕ → Row
row_with k a b = record { kind = k; a = a; b = b }

-- the row of a line
unfoldable pub row_of : ScriptLine → Row
row_of l_skip = row_with 1 0 0
row_of l_seq = row_with 2 0 0
row_of (l_assign x) = row_with 3 x 0
row_of l_while = row_with 4 0 0
row_of l_case = row_with 5 0 0
row_of (l_int n) = row_with 6 n 0
row_of (l_loc x) = row_with 7 x 0
row_of (l_var d) = row_with 8 d 0
row_of l_plus = row_with 9 0 0
row_of (l_left t) = row_with 10 t 0
row_of (l_right t) = row_with 11 t 0
row_of (l_pack l) = row_with 12 l 0
row_of (l_unpack t l) = row_with 13 t l
row_of (l_pair t) = row_with 14 t 0
row_of (l_proj p) = row_with (pick p 15 16) 0 0

-- the code of lines
unfoldable pub code : List ScriptLine → List ℕ
code [] = []
code (l ∷ ls) = (row_of l).kind ∷ (row_of l).a ∷ (row_of l).b ∷ code ls

-- the row that starts at a word, if three words are there; else a row of kind 0, which no line has
unfoldable pub row_at : List ℕ → ℕ → Row
row_at ws at =
    cond (leb (at + 3) (length ws)) (row_with (get_or ws at 0) (get_or ws (at + 1) 0) (get_or ws (at + 2) 0))
    (row_with 0 0 0)

-- The rows left from a word on. It is the measure of every walk over the code: each call stands at a later row than the
-- one that made it.
abbrev pub rows_left : List ℕ → ℕ → ℕ
rows_left ws at = (length ws - at) / 3

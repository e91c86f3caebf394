-- A line of up to 16 words that doesn't end in a zero word is a location, and at most 64 of them are a memory.
use Rattle.std.specs.Prelude.{ℕ, zero, suc, cond, List, [], ◌∷◌, ◌++◌, replicate, eqb}
use Rattle.std.proofs.Math.Option.{Option, none, some}
use Rattle.text.specs.Reading.{Read, and_then, fits}
use Rattle.text.specs.Reading.Read.{got, bad}
use Rattle.text.specs.Number.{number, most}
use Rattle.text.specs.Field.{line_end}
use Rattle.text.specs.Lines.{lines_up_to}
use Rattle.language.specs.World.{cell_words}
use Rattle.sheet.specs.Sheet.{max_locations}
use Rattle.sheet.specs.Padding.{padded}

-- the word v with what its line goes on with: the end, unless v is zero, or a tab and more words
unfoldable pub following : ℕ → List ℕ → (List ℕ → Read (List ℕ)) → Read (List ℕ)
following v [] more = bad
following v (c ∷ t) more =
    cond (eqb c 10) (cond (eqb v 0) bad (got (v ∷ []) t))
    (cond (eqb c 9) (and_then (more t) (λ vs u. got (v ∷ vs) u)) bad)

-- the words of a line, at most k
unfoldable pub words : ℕ → List ℕ → Read (List ℕ)
words zero t = bad
words (suc k) t = and_then (number most t) (λ v u. following v u (λ w. words k w))

-- the 16 words of a line that is not empty
unfoldable pub filled_line : List ℕ → Read (List ℕ)
filled_line t = and_then (words cell_words t) (λ ws u. got (padded cell_words ws) u)

-- a location of zeros where the line is empty, else what is read otherwise
unfoldable pub blank_or : Read Unit → Read (List ℕ) → Read (List ℕ)
blank_or (got _ u) other = got (replicate cell_words 0) u
blank_or bad other = other

-- the 16 words of a location
unfoldable pub location : List ℕ → Read (List ℕ)
location t = blank_or (line_end t) (filled_line t)

-- the words of locations, one after another
unfoldable pub all_words : List (List ℕ) → List ℕ
all_words [] = []
all_words (row ∷ rows) = row ++ all_words rows

-- those of a whole text, after which nothing follows
unfoldable pub words_of_rows : Option (List (List ℕ)) → Read (List ℕ)
words_of_rows none = bad
words_of_rows (some rows) = got (all_words rows) []

-- the words of the locations of a whole text, at most k locations
unfoldable pub locations : ℕ → List ℕ → Read (List ℕ)
locations k t = words_of_rows (lines_up_to location k t)

-- the words of a memory
unfoldable pub memory : List ℕ → Read (List ℕ)
memory t = cond (fits t) (locations max_locations t) bad

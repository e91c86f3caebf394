-- Where the scripts of a text stand in it.
use Rattle.std.specs.Prelude.{ℕ, suc, ◌+◌, min, Bool, true, cond, List, [], ◌∷◌, eqb, leb, length, drop, replicate}
use Rattle.std.proofs.lemmas.List.Edits.{sets}
use Rattle.logic.specs.Booleans.{both}
use Rattle.scripts.specs.Parting.{script_texts, most_scripts}

-- how many bytes there are up to the next empty line, or to the end; `start`: a line starts here
unfoldable pub script_length : Bool → List ℕ → ℕ
script_length start [] = 0
script_length start (b ∷ t) = cond (both start (eqb b 10)) 0 (suc (script_length (eqb b 10) t))

-- where the script that starts at `from` ends
unfoldable pub script_end : List ℕ → ℕ → ℕ
script_end text from = from + script_length true (drop from text)

-- the texts of the scripts that start at `from` and later: none past the end of the text
unfoldable pub script_texts_after : List ℕ → ℕ → List (List ℕ)
script_texts_after text from = cond (leb from (length text)) (script_texts (drop from text)) []

-- where texts end that follow one another from byte `at` on, with one byte between two
unfoldable pub ends_from : ℕ → List (List ℕ) → List ℕ
ends_from at [] = []
ends_from at (p ∷ ps) = (at + length p) ∷ ends_from (at + length p + 1) ps

-- the ends of a text's scripts, of those that have a place; zeros in the places past the last
unfoldable pub kept_ends : List ℕ → List ℕ
kept_ends text = sets (replicate most_scripts 0) 0 (ends_from 0 (script_texts text))

-- how many scripts a text has, counted up to one more than have a place
unfoldable pub scripts_counted : List ℕ → ℕ
scripts_counted text = min (suc most_scripts) (length (script_texts text))

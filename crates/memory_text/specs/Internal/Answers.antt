-- What the code parses a text to, and what it puts into a lent buffer.
use Rattle.std.specs.Prelude.{ℕ, ◌/◌, ◌%◌, Bool, cond, List, Option, Some, None, length, eqb, leb}
use Rattle.std.proofs.lemmas.List.Edits.{sets}
use Rattle.text.specs.Reading.{Read}
use Rattle.text.specs.Reading.Read.{got, bad}
use Rattle.language.specs.World.{cell_words}
use Rattle.memory_text.specs.Sizes.{line_room}
use Rattle.memory_text.specs.Sizes.{memory_words}
use Rattle.memory_text.specs.declared.Memory.{Memory}
use Rattle.memory_text.specs.Printing.{memory_text}
use Rattle.sheet.specs.Padding.{padded}
use Rattle.memory_text.specs.Reading.{memory}
use Rattle.logic.specs.Booleans.{both}

-- the number of locations and their words, with zeros up to 64 locations, or none
unfoldable pub table : Read (List ℕ) → Option Memory
table (got ws _) = Some (record { count = length ws / cell_words; words = padded memory_words ws })
table bad = None

unfoldable pub parsed_memory : List ℕ → Option Memory
parsed_memory t = table (memory t)

-- 16 words for each location, and 176 bytes of buffer for its line
abbrev pub printable : List ℕ → List ℕ → Bool
printable ws out = both (eqb (length ws % cell_words) 0) (leb (length ws / cell_words) (length out / line_room))

-- the length of the text and the buffer that holds it, or 0 and the buffer as it was
unfoldable pub printed_length : List ℕ → List ℕ → ℕ
printed_length ws out = cond (printable ws out) (length (memory_text ws)) 0

unfoldable pub printed : List ℕ → List ℕ → List ℕ
printed ws out = cond (printable ws out) (sets out 0 (memory_text ws)) out

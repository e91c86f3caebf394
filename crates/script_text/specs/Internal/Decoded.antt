-- What the code parses a script's text to: how many lines its command has, where it starts, and the words of the
-- lines' code.
use Rattle.std.specs.Prelude.{List, [], ℕ, ◌*◌, length, replicate, Option, Some, None}
use Rattle.std.proofs.Math.Option.{Option as Maybe, none, some}
use Rattle.language.specs.Syntax.{Script}
use Rattle.script.specs.Lines.{ScriptLine, cmd_lines}
use Rattle.script.specs.Internal.Code.{code}
use Rattle.script.specs.Names.{Counts, max_lines}
use Rattle.sheet.specs.Padding.{padded}
use Rattle.sheet.specs.Internal.Tables.{types_in, labels_in, locations_in}
use Rattle.script_text.specs.Reading.{Written}
use Rattle.script_text.specs.declared.Decoded.{Decoded}

-- how many types, labels and locations there are by what a table says
abbrev pub counts_in : List ℕ → Counts
counts_in t = record { types = types_in t; labels = labels_in t; locations = locations_in t }

-- the words of a script's code in all
abbrev pub code_words : ℕ
code_words = 3 * max_lines

-- what the lent words hold of a refused text
unfoldable pub no_code : List ℕ
no_code = replicate code_words 0

-- the label that a script starts at, as the code holds it
unfoldable pub started_at : Maybe ℕ → Option ℕ
started_at none = None
started_at (some l) = Some l

-- lines as they are decoded: how many they are, and the lent words with their code
unfoldable pub coded_lines : Maybe (List ScriptLine) → Option (ℕ × List ℕ)
coded_lines none = None
coded_lines (some ls) = Some (length ls, padded code_words (code ls))

-- lines after a start: how many they are and that start, and the lent words with their code
unfoldable pub coded : Maybe ℕ → List ScriptLine → Decoded × List ℕ
coded x ls = (record { count = length ls; start = started_at x }, padded code_words (code ls))

-- what is written in a text
unfoldable pub coded_text : Maybe Written → Option (Decoded × List ℕ)
coded_text none = None
coded_text (some w) = Some (coded w.opening.start w.lines)

-- a script
unfoldable pub decoded_script : Maybe Script → Option (Decoded × List ℕ)
decoded_script none = None
decoded_script (some p) = Some (coded p.opening.start (cmd_lines p.command []))

-- What the code answers to a line: its row and the place after it, or none; and to an opening.
use Rattle.std.specs.Prelude.{List, ℕ, Option, option_map}
use Rattle.text.specs.Reading.{Read}
use Rattle.text.specs.Internal.Place.{placed}
use Rattle.language.specs.Syntax.{Opening}
use Rattle.script.specs.declared.Row.{Row}
use Rattle.script.specs.Lines.{ScriptLine}
use Rattle.script.specs.Internal.Code.{row_of}
use Rattle.script_text.specs.Internal.Decoded.{started_at}

-- a line that is read in s, with the place after it
abbrev pub placed_line : List ℕ → Read ScriptLine → Option (Row × ℕ)
placed_line s want = option_map (λ r. (row_of r.0, r.1)) (placed s want)

-- an opening that is read in s: the label that it starts at, and the place after it
abbrev pub placed_opening : List ℕ → Read Opening → Option (Option ℕ × ℕ)
placed_opening s want = option_map (λ r. (started_at r.0.start, r.1)) (placed s want)

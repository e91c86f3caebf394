-- What the code answers to a line: the line and the place after it, or none.
use Rattle.std.specs.Prelude.{ℕ, List, Option, drop}
use Rattle.text.specs.Internal.Place.{placed}
use Rattle.sheet_text.specs.declared.line.SheetLine.{SheetLine}
use Rattle.sheet_text.specs.Reading.{line_of}

-- the line at byte i of s
abbrev pub line_at : List ℕ → ℕ → Option (SheetLine × ℕ)
line_at s i = placed s (line_of (drop i s))

-- What the code holds of the lines so far beside their table: the least owner that a policy may have next, or none
-- where they are refused.
abbrev pub Draft : Type 0
Draft = Option ℕ

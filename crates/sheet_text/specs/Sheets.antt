-- The sheet of a text, or the number of its refusal: 1 where the text isn't of the form or names what isn't there, over
-- the whole sheet, and otherwise 2 where it repeats a type or a label.
use Rattle.std.specs.Prelude.{cond, List, ℕ}
use Rattle.std.proofs.Math.Option.{Option, none, some}
use Rattle.text.specs.Reading.{fits}
use Rattle.sheet.specs.Sheet.{Sheet, repeats}
use Rattle.sheet_text.specs.declared.line.SheetLine.{SheetLine}
use Rattle.sheet_text.specs.Reading.{lines_of}
use Rattle.sheet_text.specs.Internal.Building.{build}

unfoldable pub build_read : Option (List SheetLine) → Option Sheet
build_read none = none
build_read (some ls) = build ls

-- the sheet of a text that is of the form
unfoldable pub sheet_read : List ℕ → Option Sheet
sheet_read t = cond (fits t) (build_read (lines_of t)) none

-- what a text is parsed to: refusal 1, refusal 2, or a sheet
pub data ParsedSheet : Type 0 where
  malformed : ParsedSheet
  repeating : ParsedSheet
  accepted : Sheet → ParsedSheet

unfoldable pub judged : Option Sheet → ParsedSheet
judged none = malformed
judged (some s) = cond (repeats s) repeating (accepted s)

unfoldable pub sheet_of : List ℕ → ParsedSheet
sheet_of t = judged (sheet_read t)

-- The loop: a sheet of the right form is held, which the lines to come make that of the text.
use Rattle.std.proofs.Common.{◌≡◌, ◌-◌, length, drop}
use Rattle.sheet_text.specs.Reading.{lines_of}
use Rattle.sheet_text.specs.Sheets.{sheet_read}
use Rattle.sheet_text.proofs.ReadLaws.{HeldAt}
use Rattle.sheet_text.proofs.draft.draft_of.Given as goal

abbrev pub invariant-loop-reader : goal.invariant-loop-reader
invariant-loop-reader l =
    HeldAt l.least l.table (lines_of (drop l.reader.at l.s)) (sheet_read l.s) × (l.reader.text.now ≡ l.s)

abbrev pub decreases-loop-reader : goal.decreases-loop-reader
decreases-loop-reader l = length l.s - l.reader.at

use Rattle.std.proofs.Common.{ap, sym}
use Rattle.std.specs.Prelude.{Err}
use Rattle.sheet_text.specs.declared.SheetError.{SheetError}
use Rattle.sheet_text.specs.Verdict.{sheet_number}
use Rattle.stages.proofs.refusal.RefusalFromSheetError.from.Goals as goal

pub returns-in-Malformed : goal.returns-in-Malformed
unfolding sheet_number
returns-in-Malformed c = sym (ap (λ (e : SheetError). sheet_number (Err e)) c.in-Malformed.is)

pub returns-in-Repeats : goal.returns-in-Repeats
unfolding sheet_number
returns-in-Repeats c = sym (ap (λ (e : SheetError). sheet_number (Err e)) c.in-Repeats.is)

use Rattle.std.proofs.Common.{refl}
use Rattle.sheet_text.specs.Verdict.{sheet_number}
use Rattle.stages.proofs.StageLaws.{handed_on}
use Rattle.simp.proofs.SheetLaws.{calls_none, calls_one}
use Rattle.simp.proofs.on_sheet.Goals as goal

pub returns-in_err-read : goal.returns-in_err-read
returns-in_err-read g c =
    let p = handed_on _ _ c.from_residual.ensures in
    rw p.1 (calls_none _ _ _ c.in_err-read.ensures _ p.0 p.2)

pub returns : goal.returns
unfolding sheet_number
returns g c = calls_one _ _ _ c.in_ok-read.ensures _ refl _ refl _ _ c.call.ensures

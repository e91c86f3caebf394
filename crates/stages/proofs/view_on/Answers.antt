use Rattle.std.proofs.Common.{◌∙◌}
use Rattle.memory.specs.Verdict.{memory_number}
use Rattle.stages.proofs.StageLaws.{passed_on, handed_on, view_stranger, view_known}
use Rattle.stages.proofs.view_on.Goals as goal

pub returns-in_err-known : goal.returns-in_err-known
returns-in_err-known c = rw (passed_on _ _ c.from_residual.ensures) (view_stranger _ _ _ _ _ c.in_err-known.ensures)

pub returns-in_err-view : goal.returns-in_err-view
returns-in_err-view c =
    let p = handed_on _ _ c.from_residual-in_err-view.ensures in
    let v = c.in_err-view.ensures in
    rw p.1 (view_known _ _ _ _ _ _ c.in_ok-known.ensures (p.2 ∙ v.result_value) v.shown_after)

pub returns : goal.returns
unfolding memory_number
returns c =
    let v = c.in_ok-view.ensures in
    view_known _ _ _ _ _ _ c.in_ok-known.ensures v.result_value v.shown_after

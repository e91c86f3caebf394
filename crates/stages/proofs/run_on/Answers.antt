use Rattle.std.proofs.Common.{◌∙◌}
use Rattle.memory.specs.Verdict.{memory_number}
use Rattle.stages.proofs.StageLaws.{passed_on, handed_on, run_stranger, run-ill, run-refused, run_ends}
use Rattle.stages.proofs.run_on.Goals as goal

pub returns-in_err-known : goal.returns-in_err-known
returns-in_err-known c = rw (passed_on _ _ c.from_residual.ensures) (run_stranger _ _ _ _ _ _ c.in_err-known.ensures)

pub returns-in_err-accepted : goal.returns-in_err-accepted
returns-in_err-accepted c =
    rw (passed_on _ _ c.from_residual-in_err-accepted.ensures)
    (run-ill _ _ _ _ _ c.in_ok-known.ensures _ _ c.in_err-accepted.ensures)

pub returns-in_err-judge : goal.returns-in_err-judge
returns-in_err-judge c =
    let p = handed_on _ _ c.from_residual-in_err-judge.ensures in
    rw p.1
    (run-refused _ _ _ _ _ c.in_ok-known.ensures _ _ c.in_ok-accepted.ensures p.0 (p.2 ∙ c.in_err-judge.ensures))

pub returns : goal.returns
unfolding memory_number
returns c =
    run_ends _ _ _ _ _ c.in_ok-known.ensures _ _ c.in_ok-accepted.ensures _ _ c.in_ok-judge.ensures
    c.rows-rows.ensures c.run_accepted.ensures

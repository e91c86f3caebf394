use Rattle.std.proofs.Common.{◌≡◌, ◌∙◌, rules}
use Rattle.evaluator.specs.State.{state_number}
use Rattle.stages.specs.Refusals.{answer_number}
use Rattle.stages.proofs.StageLaws.{runs-accepted}
use Rattle.stages.proofs.run_accepted.Goals as goal

pub returns : goal.returns
returns c =
    let e : answer_number c.map_err.result ≡ state_number c.run-ran.result.ended = search rules in
    rw (c.number.ensures ∙ e) (runs-accepted _ _ _ _ _ _ _ _ c.run-ran.ensures)

use Rattle.stages.proofs.StageLaws.{passed_on, trust-refused, trust-accepted}
use Rattle.stages.proofs.trust_on.Goals as goal

pub returns-in_err-found : goal.returns-in_err-found
returns-in_err-found c = rw (passed_on _ _ c.from_residual.ensures) (trust-refused _ _ _ _ c.in_err-found.ensures)

pub returns : goal.returns
returns c = trust-accepted _ _ _ _ c.in_ok-found.ensures

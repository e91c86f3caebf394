-- What stops hands back no place.
use Rattle.evaluator.proofs.EvalLaws.{passed_on, handed_back}
use Rattle.evaluator.proofs.World.eval.Goals as goal

pub returns-in_err-reach : goal.returns-in_err-reach
returns-in_err-reach c = rw (passed_on _ _ c.from_residual.ensures) (handed_back _ c.in_err-reach.ensures)

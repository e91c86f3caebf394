-- No budget, an expression that stops, and a value that is stored.
use Rattle.std.proofs.Common.{refl, arith}
use Rattle.evaluator.proofs.EvalLaws.{stopped, passed_on}
use Rattle.interpreter.proofs.ExecLaws as laws
use Rattle.interpreter.proofs.commands.assign.Goals as goal

pub returns-in_err-left : goal.returns-in_err-left
returns-in_err-left c =
    rw (passed_on _ _ c.from_residual.ensures, c.in_err-left.ensures.0)
    (laws.assign-spent 0 c.in_err-left.ensures.1)

pub returns-in_err-end : goal.returns-in_err-end
returns-in_err-end c =
    rw (passed_on _ _ c.from_residual-in_err-end.ensures)
    (laws.assign_fail 0 (λ z. omega (arith, c.in_ok-left.ensures)) c.in_err-end.ensures (stopped _))

pub returns : goal.returns
returns c = laws.assign_done c.in_ok-left.ensures c.in_ok-end.ensures refl c.copy_cell.ensures

-- No budget, an expression that stops, and its value by its first word.
use Rattle.std.proofs.Common.{refl, arith}
use Rattle.evaluator.proofs.EvalLaws.{stopped, passed_on}
use Rattle.interpreter.proofs.ExecLaws as laws
use Rattle.interpreter.proofs.commands.decide.Goals as goal

pub returns-in_err-left : goal.returns-in_err-left
returns-in_err-left c =
    rw (passed_on _ _ c.from_residual.ensures, c.in_err-left.ensures.0)
    (laws.decide_spent 0 c.in_err-left.ensures.1)

pub returns-in_err-end : goal.returns-in_err-end
returns-in_err-end c =
    rw (passed_on _ _ c.from_residual-in_err-end.ensures)
    (laws.decide_fail 0 (λ z. omega (arith, c.in_ok-left.ensures)) c.in_err-end.ensures (stopped _))

pub returns-in-3 : goal.returns-in-3
returns-in-3 c =
    laws.decide_side _ c.in_ok-left.ensures c.in_ok-end.ensures refl c.word.ensures laws.side_left c.in-3.is

pub returns-in-4 : goal.returns-in-4
returns-in-4 c =
    laws.decide_side _ c.in_ok-left.ensures c.in_ok-end.ensures refl c.word.ensures laws.side_right c.in-4.is

pub returns-in_default : goal.returns-in_default
returns-in_default c =
    laws.decide_none _ c.in_ok-left.ensures c.in_ok-end.ensures refl c.word.ensures 0
    c.in_default.in_default-own.rest.0.1 c.in_default.in_default-own.rest.1

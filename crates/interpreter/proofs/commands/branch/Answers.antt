-- No case is that deep, no decision, and the branch of each side.
use Rattle.std.proofs.Common.{refl, ap, add-one}
use Rattle.evaluator.proofs.EvalLaws.{stopped, passed_on}
use Rattle.interpreter.specs.Internal.Post.{is_left}
use Rattle.interpreter.proofs.ExecLaws as laws
use Rattle.interpreter.proofs.commands.branch.Goals as goal

pub returns-then-depth-ge-DEPTH : goal.returns-then-depth-ge-DEPTH
returns-then-depth-ge-DEPTH c = laws.branch_deep 0 c.if-depth-ge-DEPTH.true

pub returns-in_err-side : goal.returns-in_err-side
returns-in_err-side c =
    rw (passed_on _ _ c.from_residual.ensures) (laws.branch_past c.in_err-side.ensures 0 (stopped _))

pub returns-in-Left : goal.returns-in-Left
returns-in-Left c =
    laws.branch_taken c.in_ok-side.ensures c.if-depth-ge-DEPTH.false (rw add-one at c.pop_to.ensures) refl
    (ap is_left c.in-Left.is) laws.at_first

pub returns-in-Right : goal.returns-in-Right
returns-in-Right c =
    laws.branch_taken c.in_ok-side.ensures c.if-depth-ge-DEPTH.false (rw add-one at c.pop_to.ensures) refl
    (ap is_left c.in-Right.is) (laws.at_second c.skip.ensures)

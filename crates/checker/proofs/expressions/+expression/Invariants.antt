-- The rows left, twice; the two that check a second operand lie between `check_expr` and that operand.
use Prim.Native.Nat.{◌+◌, ◌*◌}
use Rattle.script.specs.Internal.Code.{rows_left}
use Rattle.checker.proofs.expressions.+expression.Given as goal

abbrev pub decreases-check_expr : goal.decreases-check_expr
decreases-check_expr l = 2 * rows_left l.code.now l.at

abbrev pub decreases-check_added : goal.decreases-check_added
decreases-check_added l = 2 * rows_left l.code.now l.x.next + 1

abbrev pub decreases-check_paired : goal.decreases-check_paired
decreases-check_paired l = 2 * rows_left l.code.now l.x.next + 1

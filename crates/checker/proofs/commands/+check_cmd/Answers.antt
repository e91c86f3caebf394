-- Each return is a law of `CmdLaws`.
use native.Mathlib.Omega.{arith}
use Rattle.script.proofs.Rows.{row_within}
use Rattle.checker.proofs.CmdLaws.{arm_skip, arm_seq, arm_assign, arm_while, arm_case, arm_deep, arm_other}
use Rattle.checker.proofs.commands.+check_cmd.Goals as goal
use Rattle.checker.proofs.commands.+check_cmd.Goals.{in_default-via-then-kind-lt1}
use Rattle.checker.proofs.commands.+check_cmd.Goals.{in_default-via-else-kind-lt1+else-kind-lt6}

pub overflow_add-at : goal.overflow_add-at
overflow_add-at t c = omega (arith, row_within _ _ c.row_at-row.ensures (omega (arith, c.in-1.is)))

pub overflow_add-at-in-2 : goal.overflow_add-at-in-2
overflow_add-at-in-2 t c = omega (arith, row_within _ _ c.row_at-row.ensures (omega (arith, c.in-2.is)))

pub check_cmd-first-requires : goal.check_cmd-first-requires
check_cmd-first-requires t c = (omega (arith, row_within _ _ c.row_at-row.ensures (omega (arith, c.in-2.is))), tt)

pub check_cmd-second-requires : goal.check_cmd-second-requires
check_cmd-second-requires t c = (
  omega (
    arith,
    row_within _ _ c.row_at-row.ensures (omega (arith, c.in-2.is)),
    c.check_cmd-first.ensures.onward,
  ),
  tt,
)

pub overflow_add-at-in-3 : goal.overflow_add-at-in-3
overflow_add-at-in-3 t c = omega (arith, row_within _ _ c.row_at-row.ensures (omega arith))

pub check_cmd-body-requires : goal.check_cmd-body-requires
check_cmd-body-requires t c =
    (omega (arith, row_within _ _ c.row_at-row.ensures (omega arith), c.check_expr-x.ensures.onward), tt)

pub returns-then-bound-ge-DEPTH : goal.returns-then-bound-ge-DEPTH
returns-then-bound-ge-DEPTH t c =
    arm_deep c.row_at-row.ensures c.in-5.is c.if-bound-ge-DEPTH.true c.not_passed.ensures

pub check_cmd-y-requires : goal.check_cmd-y-requires
check_cmd-y-requires t c =
    (omega (arith, row_within _ _ c.row_at-row.ensures (omega arith), c.check_expr-x.ensures.onward), tt)

pub check_cmd-z-requires : goal.check_cmd-z-requires
check_cmd-z-requires t c = (
  omega (
    arith,
    row_within _ _ c.row_at-row.ensures (omega arith),
    c.check_expr-x.ensures.onward,
    c.check_cmd-y.ensures.onward,
  ),
  tt,
)

pub returns-in-1 : goal.returns-in-1
returns-in-1 t c = arm_skip c.row_at-row.ensures c.in-1.is c.of_skip.ensures

pub returns-in-2 : goal.returns-in-2
returns-in-2 t c =
    arm_seq c.row_at-row.ensures c.in-2.is c.check_cmd-first.ensures c.check_cmd-second.ensures c.of_seq.ensures

pub returns-in-3-kind : goal.returns-in-3-kind
returns-in-3-kind t c = arm_assign c.row_at-row.ensures c.check_expr-x.ensures c.in-3-kind.is c.of_assign.ensures

pub returns-in-4 : goal.returns-in-4
returns-in-4 t c =
    arm_while c.row_at-row.ensures c.check_expr-x.ensures c.in-4.is c.join-inside.ensures c.check_cmd-body.ensures
    c.of_while.ensures

pub returns-else-bound-ge-DEPTH : goal.returns-else-bound-ge-DEPTH
returns-else-bound-ge-DEPTH t c =
    arm_case c.row_at-row.ensures c.check_expr-x.ensures c.in-5.is c.if-bound-ge-DEPTH.false (omega arith)
    c.join-inside-in-5.ensures
    c.left_part.ensures c.enter.ensures c.check_cmd-y.ensures c.leave.ensures
    c.right_part.ensures c.enter-in-5.ensures c.check_cmd-z.ensures c.leave-in-5.ensures
    c.of_case.ensures

pub returns-in_default : goal.returns-in_default
returns-in_default t c =
    arm_other c.row_at-row.ensures
    (λ h. elim c.in_default.branch [
      | in_default-via-then-kind-lt1 w ↦ omega (arith, h.0)
      | in_default-via-else-kind-lt1+else-kind-lt6 w ↦ omega (arith, h.1)
    ])
    c.not_passed-in_default.ensures

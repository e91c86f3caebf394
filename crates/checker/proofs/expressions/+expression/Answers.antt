-- Each return is a law of `ExprLaws`.
use native.Mathlib.Omega.{arith}
use Rattle.language.specs.Syntax.{first, second, pick}
use Rattle.script.proofs.Rows.{row_within}
use Rattle.checker.proofs.ExprLaws.{arm_int, arm_loc, arm_var, arm_plus, arm_left, arm_right, arm_pack}
use Rattle.checker.proofs.ExprLaws.{arm_unpack, arm_pair, arm_part, arm_other}
use Rattle.checker.proofs.expressions.+expression.Goals as goal
use Rattle.checker.proofs.expressions.+expression.Goals.{check_expr-in_default-via-then-kind-lt6}
use Rattle.checker.proofs.expressions.+expression.Goals.{check_expr-in_default-via-else-kind-lt6+else-kind-lt17}

pub check_expr-overflow_add-at : goal.check_expr-overflow_add-at
check_expr-overflow_add-at t c = omega (arith, row_within _ _ c.row_at-row.ensures (omega (arith, c.in-6.is)))

pub check_expr-overflow_add-at-in-7 : goal.check_expr-overflow_add-at-in-7
check_expr-overflow_add-at-in-7 t c = omega (arith, row_within _ _ c.row_at-row.ensures (omega (arith, c.in-7.is)))

pub check_expr-overflow_add-at-in-8 : goal.check_expr-overflow_add-at-in-8
check_expr-overflow_add-at-in-8 t c = omega (arith, row_within _ _ c.row_at-row.ensures (omega (arith, c.in-8.is)))

pub check_expr-overflow_add-at-in-9 : goal.check_expr-overflow_add-at-in-9
check_expr-overflow_add-at-in-9 t c = omega (arith, row_within _ _ c.row_at-row.ensures (omega arith))

pub check_expr-check_expr-x-requires : goal.check_expr-check_expr-x-requires
check_expr-check_expr-x-requires t c = (omega (arith, row_within _ _ c.row_at-row.ensures (omega arith)), tt)

pub check_expr-check_added-requires : goal.check_expr-check_added-requires
check_expr-check_added-requires t c =
    (omega (arith, row_within _ _ c.row_at-row.ensures (omega arith), c.check_expr-x.ensures.onward), tt)

pub check_expr-check_paired-requires : goal.check_expr-check_paired-requires
check_expr-check_paired-requires t c =
    (omega (arith, row_within _ _ c.row_at-row.ensures (omega arith), c.check_expr-x.ensures.onward), tt)

pub check_expr-returns-in-6 : goal.check_expr-returns-in-6
check_expr-returns-in-6 t c = arm_int c.row_at-row.ensures c.in-6.is c.of_int.ensures

pub check_expr-returns-in-7 : goal.check_expr-returns-in-7
check_expr-returns-in-7 t c = arm_loc c.row_at-row.ensures c.in-7.is c.of_location.ensures

pub check_expr-returns-in-8 : goal.check_expr-returns-in-8
check_expr-returns-in-8 t c = arm_var c.row_at-row.ensures c.in-8.is c.variable.ensures

pub check_expr-returns-in-9-kind : goal.check_expr-returns-in-9-kind
check_expr-returns-in-9-kind t c =
    let two = c.check_added.ensures in
    arm_plus c.row_at-row.ensures c.check_expr-x.ensures c.in-9-kind.is two.1 two.2

pub check_expr-returns-in-14 : goal.check_expr-returns-in-14
check_expr-returns-in-14 t c =
    let two = c.check_paired.ensures in
    arm_pair c.row_at-row.ensures c.check_expr-x.ensures c.in-14.is two.1 two.2

pub check_expr-returns-in-10 : goal.check_expr-returns-in-10
check_expr-returns-in-10 t c =
    arm_left c.row_at-row.ensures c.check_expr-x.ensures c.in-10.is c.left_part.ensures c.of_sum.ensures

pub check_expr-returns-in-11 : goal.check_expr-returns-in-11
check_expr-returns-in-11 t c =
    arm_right c.row_at-row.ensures c.check_expr-x.ensures c.in-11.is c.right_part.ensures c.of_sum-in-11.ensures

pub check_expr-returns-in-12 : goal.check_expr-returns-in-12
check_expr-returns-in-12 t c =
    arm_pack c.row_at-row.ensures c.check_expr-x.ensures c.in-12.is c.of_pack.ensures

pub check_expr-returns-in-13 : goal.check_expr-returns-in-13
check_expr-returns-in-13 t c =
    arm_unpack c.row_at-row.ensures c.check_expr-x.ensures c.in-13.is c.of_unpack.ensures

pub check_expr-returns-in-15 : goal.check_expr-returns-in-15
unfolding pick
check_expr-returns-in-15 t c =
    arm_part c.row_at-row.ensures c.check_expr-x.ensures first c.in-15.is
    c.left_part-in-15.ensures c.of_part.ensures

pub check_expr-returns-in-16 : goal.check_expr-returns-in-16
unfolding pick
check_expr-returns-in-16 t c =
    arm_part c.row_at-row.ensures c.check_expr-x.ensures second c.in-16.is
    c.right_part-in-16.ensures c.of_part-in-16.ensures

pub check_expr-returns-in_default : goal.check_expr-returns-in_default
check_expr-returns-in_default t c =
    arm_other c.row_at-row.ensures
    (λ h. elim c.in_default.branch [
      | check_expr-in_default-via-then-kind-lt6 w ↦ omega (arith, h.0)
      | check_expr-in_default-via-else-kind-lt6+else-kind-lt17 w ↦ omega (arith, h.1)
    ])
    c.no_type-in_default.ensures

pub check_added-returns : goal.check_added-returns
check_added-returns t c = (c.check_expr-y.result, c.check_expr-y.ensures, c.of_plus.ensures)

pub check_paired-returns : goal.check_paired-returns
check_paired-returns t c = (c.check_expr-y.result, c.check_expr-y.ensures, c.of_pair.ensures)

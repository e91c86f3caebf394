-- `script_text::scan::scan_cmd` meets its contract.
use Rattle.std.proofs.Common.{◌≢◌, true, ltb, refl, sym, ap, ◌∙◌, arith, rules}
use Rattle.logic.specs.Booleans.{both}
use Rattle.script.specs.Names.{named}
use Rattle.script.proofs.Rows.{row_within}
use Rattle.script.proofs.Nodes.{n_skip, n_seq, n_assign, n_while}
use Rattle.logic.proofs.BooleanLaws.{both_left}
use Rattle.script_text.proofs.ScanLaws as laws
use Rattle.script_text.proofs.scan.+scan_cmd.Goals as goal

-- ---- each call stands at a later row

pub overflow_add-result : goal.overflow_add-result
overflow_add-result t c = omega (arith, row_within _ _ c.row_at-row.ensures (omega (arith, c.in-1.is)))

pub overflow_add-at : goal.overflow_add-at
overflow_add-at t c = omega (arith, row_within _ _ c.row_at-row.ensures (omega (arith, c.in-2.is)))

pub scan_cmd-requires : goal.scan_cmd-requires
scan_cmd-requires t c = (omega (arith, row_within _ _ c.row_at-row.ensures (omega (arith, c.in-2.is))), tt)

pub scan_cmd-requires-in-2 : goal.scan_cmd-requires-in-2
scan_cmd-requires-in-2 t c =
    let within = row_within _ _ c.row_at-row.ensures (omega (arith, c.in-2.is)) in
    (omega (arith, within, c.in_ok-second-in-2.ensures.forward), tt)

pub overflow_add-at-in-3 : goal.overflow_add-at-in-3
overflow_add-at-in-3 t c = omega (arith, row_within _ _ c.row_at-row.ensures (omega (arith, c.in-3.is)))

pub overflow_add-at-in-4 : goal.overflow_add-at-in-4
overflow_add-at-in-4 t c = omega (arith, row_within _ _ c.row_at-row.ensures (omega (arith, c.in-4.is)))

pub scan_cmd-requires-in-4 : goal.scan_cmd-requires-in-4
scan_cmd-requires-in-4 t c =
    let within = row_within _ _ c.row_at-row.ensures (omega (arith, c.in-4.is)) in
    (omega (arith, within, c.in_ok-body-in-4.ensures.forward), tt)

pub overflow_add-at-in-5 : goal.overflow_add-at-in-5
overflow_add-at-in-5 t c = omega (arith, row_within _ _ c.row_at-row.ensures (omega (arith, c.in-5.is)))

pub scan_cmd-requires-in-5 : goal.scan_cmd-requires-in-5
scan_cmd-requires-in-5 t c =
    let within = row_within _ _ c.row_at-row.ensures (omega (arith, c.in-5.is)) in
    (omega (arith, within, c.in_ok-first-in-5.ensures.forward), tt)

pub scan_cmd-requires-in-5-2 : goal.scan_cmd-requires-in-5-2
scan_cmd-requires-in-5-2 t c =
    let within = row_within _ _ c.row_at-row.ensures (omega (arith, c.in-5.is)) in
    (omega (arith, within, c.in_ok-first-in-5.ensures.forward, c.in_ok-second-in-5.ensures.forward), tt)

-- ---- what is found at each kind

pub returns-in-1 : goal.returns-in-1
unfolding named
returns-in-1 t c = laws.scan_leaf c.row_at-row.ensures true n_skip c.in-1.is refl

pub returns-in_err-second-in-2 : goal.returns-in_err-second-in-2
unfolding named
returns-in_err-second-in-2 t c =
    rw c.from_residual.ensures
    (laws.scan_two_none c.row_at-row.ensures n_seq c.in-2.is c.in_err-second-in-2.ensures (λ x y m. both_left _ _ m))

pub returns-in_ok-second-in-2 : goal.returns-in_ok-second-in-2
unfolding named
returns-in_ok-second-in-2 t c =
    laws.scan_two c.row_at-row.ensures _ n_seq c.in-2.is c.in_ok-second-in-2.ensures c.scan_cmd-in-2.ensures
    (λ x y. refl)

pub returns-then-not-is_there : goal.returns-then-not-is_there
unfolding named both
returns-then-not-is_there t c =
    let there = c.is_there.ensures in
    let no = sym (ap (ltb c.row_at-row.result.a) there.1) ∙ sym there.2 ∙ c.if-not-is_there.true in
    laws.scan_one_off c.row_at-row.ensures n_assign c.in-3.is (λ x. rw no refl)

pub returns-else-not-is_there : goal.returns-else-not-is_there
unfolding named both
returns-else-not-is_there t c =
    let there = c.is_there.ensures in
    let yes = sym (ap (ltb c.row_at-row.result.a) there.1) ∙ sym there.2 ∙ c.if-not-is_there.false in
    laws.scan_one c.row_at-row.ensures _ n_assign c.in-3.is c.scan_expr.ensures (λ x. rw yes refl)

pub returns-in_err-body-in-4 : goal.returns-in_err-body-in-4
unfolding named
returns-in_err-body-in-4 t c =
    rw c.from_residual-in_err-body-in-4.ensures
    (laws.scan_two_none c.row_at-row.ensures n_while c.in-4.is c.in_err-body-in-4.ensures (λ x y m. both_left _ _ m))

pub returns-in_ok-body-in-4 : goal.returns-in_ok-body-in-4
unfolding named
returns-in_ok-body-in-4 t c =
    laws.scan_two c.row_at-row.ensures _ n_while c.in-4.is c.in_ok-body-in-4.ensures c.scan_cmd-in-4.ensures
    (λ x y. refl)

pub returns-then-depth-ge-DEPTH : goal.returns-then-depth-ge-DEPTH
returns-then-depth-ge-DEPTH t c =
    laws.scan_deep _ _ c.row_at-row.ensures c.in-5.is (omega (arith, c.if-depth-ge-DEPTH.true))

pub returns-in_err-first-in-5 : goal.returns-in_err-first-in-5
returns-in_err-first-in-5 t c =
    rw c.from_residual-in_err-first-in-5.ensures
    (laws.scan_case_none _ _ c.row_at-row.ensures c.in-5.is c.in_err-first-in-5.ensures)

pub returns-in_err-second-in-5 : goal.returns-in_err-second-in-5
returns-in_err-second-in-5 t c =
    rw c.from_residual-in_err-second-in-5.ensures
    (laws.scan_case_one _ _ c.row_at-row.ensures c.in-5.is c.in_ok-first-in-5.ensures c.in_err-second-in-5.ensures)

pub returns-in_ok-second-in-5 : goal.returns-in_ok-second-in-5
returns-in_ok-second-in-5 t c =
    laws.scan_case _ _ c.row_at-row.ensures c.in-5.is c.in_ok-first-in-5.ensures _
    (omega (arith, c.if-depth-ge-DEPTH.false)) c.in_ok-second-in-5.ensures c.scan_cmd-in-5-2.ensures

pub returns-in_default : goal.returns-in_default
returns-in_default t c =
    let n1 : c.row_at-row.result.kind ≢ 1 = search rules in
    let n2 : c.row_at-row.result.kind ≢ 2 = search rules in
    let n3 : c.row_at-row.result.kind ≢ 3 = search rules in
    let n4 : c.row_at-row.result.kind ≢ 4 = search rules in
    let n5 : c.row_at-row.result.kind ≢ 5 = search rules in
    laws.scan_none c.row_at-row.ensures (λ h. omega arith)

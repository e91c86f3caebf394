-- `script_text::scan::scan_expr` meets its contract.
use Rattle.std.proofs.Common.{◌≢◌, true, ltb, refl, sym, ap, ◌∙◌, arith, rules, lt-ltb}
use Rattle.script.specs.Names.{named_e}
use Rattle.script.specs.Lines.{integer_of}
use Rattle.script.proofs.Rows.{row_within}
use Rattle.script.proofs.Nodes.{n_int, n_loc, n_var}
use Rattle.script_text.proofs.ScanLaws as laws
use Rattle.script_text.proofs.scan.+scan_expr.Goals as goal

pub overflow_add-result : goal.overflow_add-result
overflow_add-result t c = omega (arith, row_within _ _ c.row_at-row.ensures (omega (arith, c.in-6.is)))

pub overflow_add-at : goal.overflow_add-at
overflow_add-at t c = omega (arith, row_within _ _ c.row_at-row.ensures (omega (arith, c.in-7.is)))

pub overflow_add-at-in-8 : goal.overflow_add-at-in-8
overflow_add-at-in-8 t c = omega (arith, row_within _ _ c.row_at-row.ensures (omega (arith, c.in-8.is)))

pub overflow_add-at-in-9 : goal.overflow_add-at-in-9
overflow_add-at-in-9 t c = omega (arith, row_within _ _ c.row_at-row.ensures (omega arith))

pub scan_expr-requires : goal.scan_expr-requires
scan_expr-requires t c = (omega (arith, row_within _ _ c.row_at-row.ensures (omega arith)), tt)

pub scan_expr-requires-in-9-kind : goal.scan_expr-requires-in-9-kind
scan_expr-requires-in-9-kind t c =
    (omega (arith, row_within _ _ c.row_at-row.ensures (omega arith), c.in_ok-next-in-9.ensures.forward), tt)

pub returns-then-not-names_there : goal.returns-then-not-names_there
returns-then-not-names_there t c =
    laws.scan_unnamed _ _ c.row_at-row.ensures c.names_there.ensures c.if-not-names_there.true (omega arith)
    (omega arith)

pub returns-in_err-next-in-9 : goal.returns-in_err-next-in-9
returns-in_err-next-in-9 t c =
    rw c.from_residual.ensures
    (laws.scan_named_none _ _ c.row_at-row.ensures c.names_there.ensures c.if-not-names_there.false (omega arith)
    (omega arith) c.in_err-next-in-9.ensures)

pub returns-in-6 : goal.returns-in-6
unfolding named_e integer_of
returns-in-6 t c =
    laws.scan_leaf c.row_at-row.ensures true n_int c.in-6.is
    (sym (lt-ltb c.row_at-row.result.a 4294967296 (omega (arith, c.row_at-row.type_inv))))

pub returns-in-7 : goal.returns-in-7
unfolding named_e
returns-in-7 t c =
    let there = c.is_there.ensures in
    rw c.then_some.ensures
    (laws.scan_leaf c.row_at-row.ensures c.is_there.result n_loc c.in-7.is
    (there.2 ∙ ap (ltb c.row_at-row.result.a) there.1))

pub returns-in-8 : goal.returns-in-8
unfolding named_e
returns-in-8 t c =
    rw c.then_some-in-8.ensures
    (laws.scan_leaf c.row_at-row.ensures (ltb c.row_at-row.result.a c.args.depth) n_var c.in-8.is refl)

pub returns-in-9-kind : goal.returns-in-9-kind
returns-in-9-kind t c =
    laws.scan_named_two _ _ c.row_at-row.ensures c.names_there.ensures c.if-not-names_there.false
    c.in-9-kind.is c.in_ok-next-in-9.ensures c.scan_expr-in-9-kind.ensures

pub returns-in_default-kind : goal.returns-in_default-kind
returns-in_default-kind t c =
    let plus : c.row_at-row.result.kind ≢ 9 = search rules in
    let pair : c.row_at-row.result.kind ≢ 14 = search rules in
    laws.scan_named_one _ _ c.row_at-row.ensures c.names_there.ensures c.if-not-names_there.false (omega arith)
    (omega arith) plus pair c.in_ok-next-in-9.ensures

pub returns-in_default : goal.returns-in_default
returns-in_default t c = laws.scan_none c.row_at-row.ensures (λ h. omega arith)

pub returns-in_default-2 : goal.returns-in_default-2
returns-in_default-2 t c = laws.scan_none c.row_at-row.ensures (λ h. omega arith)

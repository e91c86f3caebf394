use Rattle.std.proofs.Common.{refl, length, sym, ◌∙◌, arith}
use Rattle.std.proofs.lemmas.Result.{err_from_is_err_and}
use Rattle.memory.specs.Verdict.{memory_number}
use Rattle.memory.proofs.ShownLaws as laws
use Rattle.memory.proofs.view.Goals as goal

pub returns-then-shown-locations : goal.returns-then-shown-locations
unfolding memory_number
returns-then-shown-locations c =
    let a = c.args in
    let e = laws.view_7 a.table.now a.memory.now (length a.shown.now)
    (λ k. c.if-shown-locations.true (omega (arith, c.locations.ensures))) in
    record {
      result_value = e;
      shown_after = laws.left_refused a.table.now a.memory.now a.group a.shown.now e (λ z. omega arith);
    }

pub returns-in_err-judge-clause-result_value : goal.returns-in_err-judge-clause-result_value
returns-in_err-judge-clause-result_value c =
    let a = c.args in
    let p = err_from_is_err_and c.from_residual.result c.from_residual.ensures.1 in
    rw (p.1, p.2)
    (c.in_err-judge.ensures
    ∙ laws.view-answer a.table.now a.memory.now (length a.shown.now) (omega (arith, c.locations.ensures)))

pub returns-in_err-judge-clause-shown_after : goal.returns-in_err-judge-clause-shown_after
returns-in_err-judge-clause-shown_after c =
    let a = c.args in
    laws.left_refused a.table.now a.memory.now a.group a.shown.now
    (c.in_err-judge.ensures
    ∙ laws.view-answer a.table.now a.memory.now (length a.shown.now) (omega (arith, c.locations.ensures)))
    (laws.refusal-number _)

pub view_each-requires : goal.view_each-requires
unfolding memory_number
view_each-requires c = (sym c.in_ok-judge.ensures, omega (arith, c.locations.ensures))

pub returns-clause-result_value : goal.returns-clause-result_value
returns-clause-result_value c =
    let a = c.args in
    c.in_ok-judge.ensures
    ∙ laws.view-answer a.table.now a.memory.now (length a.shown.now) (omega (arith, c.locations.ensures))

pub returns-clause-shown_after : goal.returns-clause-shown_after
unfolding memory_number
returns-clause-shown_after c =
    let a = c.args in
    laws.left_shown a.table.now a.memory.now a.group a.shown.now
    (c.in_ok-judge.ensures
    ∙ laws.view-answer a.table.now a.memory.now (length a.shown.now) (omega (arith, c.locations.ensures)))
    refl c.view_each.ensures

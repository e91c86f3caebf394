-- `text::set` meets its contract.
use Rattle.std.proofs.Common.{◌+◌, ◌≡◌, ◌<◌, ◌≤◌, length, sym, ◌∙◌, arith, rules, length-drop}
use Rattle.text.specs.Set.{set_digits}
use Rattle.text.proofs.Places.{placed_got, placed_none}
use Rattle.text.proofs.Sets.{hex_few, hex_run_bad, hex_run_on, hex_done, hex_fits, hex_grows, hex_value-got}
use Rattle.text.proofs.set.Goals as goal

pub returns-in_err-get : goal.returns-in_err-get
returns-in_err-get c =
    let h : length c.args.s.now < c.args.at = search rules in
    c.from_residual.ensures
    ∙ sym (placed_none _ _ (hex_few set_digits 0 _ (omega (arith, length-drop c.args.at c.args.s.now))))

pub returns-in_err-b-items : goal.returns-in_err-b-items
returns-in_err-b-items c =
    let h : length c.in_ok-get.field-0.now < 4 = search rules in
    let l : length c.in_ok-get.field-0.now + c.args.at ≡ length c.args.s.now = search rules in
    c.from_residual-in_err-b-items.ensures
    ∙ sym (placed_none _ _ (hex_few set_digits 0 _ (omega (arith, length-drop c.args.at c.args.s.now))))

pub returns-in_err-m : goal.returns-in_err-m
returns-in_err-m c =
    c.from_residual-in_err-m.ensures
    ∙ sym (placed_none _ _ (sym c.loop-b.invariant.1
    ∙ hex_run_bad 4 set_digits _ _ _ _ _ _ c.in_ok-get.ensures.lookup.0.2 c.in_ok-b-items.ensures.lookup.0.2
    c.loop-b-test.true (omega arith) c.in_err-m.ensures))

pub overflow_add-m : goal.overflow_add-m
overflow_add-m c =
    omega (
      arith,
      c.in_ok-b-items.ensures.lookup.0.3,
      hex_fits c.loop-b.b-index c.loop-b.m (omega (arith, c.in_ok-b-items.ensures.lookup.0.3)) c.loop-b.invariant.0,
      (hex_value-got _ _ c.in_ok-m.ensures).1,
    )

pub loop-b-preserved : goal.loop-b-preserved
loop-b-preserved c = (
  hex_grows c.loop-b.b-index c.loop-b.m _ c.loop-b.invariant.0 (hex_value-got _ _ c.in_ok-m.ensures).1,
  sym (hex_run_on 4 set_digits _ _ _ _ _ _ c.in_ok-get.ensures.lookup.0.2 c.in_ok-b-items.ensures.lookup.0.2
      c.loop-b-test.true (omega arith) _ c.in_ok-m.ensures)
      ∙ c.loop-b.invariant.1,
)

pub returns : goal.returns
returns c =
    let end : c.loop-b.b-index ≡ set_digits = omega (arith, c.in_ok-b-items.ensures.lookup.0.3) in
    let inside : c.args.at + set_digits ≤ length c.args.s.now =
    omega (arith, c.in_ok-b-items.ensures.lookup.0.1, c.in_ok-get.ensures.lookup.0.3) in
    sym (placed_got c.args.s.now _ _ _ (sym (rw end at c.loop-b.invariant.1) ∙ hex_done _ _) inside)

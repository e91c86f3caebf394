-- `text::digits` meets its contract.
use Rattle.std.proofs.Common.{◌+◌, ◌-◌, ◌≡◌, length, drop, sym, ◌∙◌, arith, length-drop}
use Rattle.std.proofs.lemmas.List.{length-take}
use Rattle.text.proofs.Places.{placed_got, placed_none}
use Rattle.text.proofs.Numbers.{opens_turn, turn_inside, opens_at_end, digits_end, digits_turn_over, digits_turn_on}
use Rattle.text.proofs.digits.Goals as goal

pub returns-then-not-is_ascii_digit : goal.returns-then-not-is_ascii_digit
returns-then-not-is_ascii_digit c =
    let s = c.args.s.now in
    let none = opens_turn s c.args.from c.loop-i.i c.loop-i-test.true _ c.if-not-is_ascii_digit.ensures.value in
    sym (placed_got s _ _ _ (sym c.loop-i.invariant.1 ∙ digits_end _ c.loop-i.v _ none)
    (omega (arith, turn_inside s c.args.from c.loop-i.i c.loop-i-test.true)))

pub returns-then-from-v : goal.returns-then-from-v
returns-then-from-v c =
    sym (placed_none c.args.s.now _ (sym c.loop-i.invariant.1
    ∙ digits_turn_over _ _ _ c.loop-i-test.true _ _ c.if-not-is_ascii_digit.ensures.value (omega arith)))

pub loop-i-preserved : goal.loop-i-preserved
loop-i-preserved c = (
  omega arith,
  rw c.from.ensures
      (sym (digits_turn_on _ _ _ c.loop-i-test.true _ _ c.if-not-is_ascii_digit.ensures.value (omega arith)))
      ∙ c.loop-i.invariant.1,
)

pub returns : goal.returns
returns c =
    let s = c.args.s.now in
    let end : c.args.from + c.loop-i.i ≡ length s =
    omega (arith, length-take (length s - c.args.from) (drop c.args.from s), length-drop c.args.from s) in
    sym (placed_got s _ _ _ (rw end at (sym c.loop-i.invariant.1
    ∙ digits_end _ c.loop-i.v _ (opens_at_end s (c.args.from + c.loop-i.i) (omega arith)))) (omega arith))

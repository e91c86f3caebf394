-- `text::number` meets its contract.
use Rattle.std.proofs.Common.{◌≡◌, ◌<◌, ◌≤◌, length, get_or, sym, ap, ◌∙◌, arith, rules}
use Rattle.text.specs.Internal.Place.{placed}
use Rattle.text.proofs.Places.{placed_got, placed_none}
use Rattle.text.proofs.Numbers.{opens_at, opens_at_end, digit_low, digit_high, digit_in}
use Rattle.text.proofs.Numbers.{number_none, number_at_long, number_at_zero, number_at_on}
use Rattle.text.proofs.number.Goals as goal

pub returns-in_err-get : goal.returns-in_err-get
returns-in_err-get c =
    let h : length c.args.s.now ≤ c.args.at = search rules in
    c.from_residual.ensures ∙ sym (placed_none _ _ (number_none _ _ (opens_at_end _ _ h)))

pub returns-then-digit_at : goal.returns-then-digit_at
returns-then-digit_at c =
    let h : c.args.at < length c.args.s.now = search rules in
    let z : get_or c.args.s.now c.args.at 0 ≡ 48 = search rules in
    sym (placed_none _ _ (number_at_long _ _ _ h z (sym c.digit_at.ensures ∙ c.if-digit_at.true)))

pub returns-else-digit_at : goal.returns-else-digit_at
returns-else-digit_at c =
    let h : c.args.at < length c.args.s.now = search rules in
    let z : get_or c.args.s.now c.args.at 0 ≡ 48 = search rules in
    sym (placed_got _ _ _ _ (number_at_zero _ _ _ h z (sym c.digit_at.ensures ∙ c.if-digit_at.false)) (omega arith))

pub returns-in-49-to-57 : goal.returns-in-49-to-57
returns-in-49-to-57 c =
    let s = c.args.s.now in
    let at = c.args.at in
    let h : at < length s = search rules in
    let low : 49 ≤ get_or s at 0 = search rules in
    let high : get_or s at 0 ≤ 57 = search rules in
    let d = opens_at s at h ∙ digit_in _ (omega arith) high in
    c.digits.ensures ∙ ap (placed s) (sym (number_at_on c.args.bound s at h d (λ z. omega arith)))

pub returns-in_default : goal.returns-in_default
returns-in_default c =
    let h : c.args.at < length c.args.s.now = search rules in
    let low : get_or c.args.s.now c.args.at 0 < 48 = search rules in
    sym (placed_none _ _ (number_none _ _ (opens_at _ _ h ∙ digit_low _ low)))

pub returns-in_default-2 : goal.returns-in_default-2
returns-in_default-2 c =
    let h : c.args.at < length c.args.s.now = search rules in
    let high : 57 < get_or c.args.s.now c.args.at 0 = search rules in
    sym (placed_none _ _ (number_none _ _ (opens_at _ _ h ∙ digit_high _ high)))

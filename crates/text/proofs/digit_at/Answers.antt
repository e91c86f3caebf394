-- `text::digit_at` meets its contract.
use Rattle.std.proofs.Common.{◌≡◌, ◌<◌, ◌≤◌, false, ltb, ltb-true, ltb-false, length, get_or, sym, ◌∙◌, rules}
use Rattle.std.specs.Char.{is_ascii_digit}
use Rattle.logic.proofs.BooleanLaws.{cases}
use Rattle.text.proofs.Numbers.{opens_at, opens_at_end, digit-same}
use Rattle.text.proofs.digit_at.Goals as goal

pub returns : goal.returns
returns c =
    let s = c.args.s.now in
    let at = c.args.at in
    let none : length s ≤ at → c.is_some_and.result ≡ false = λ h. search rules in
    let some : at < length s → c.is_some_and.result ≡ is_ascii_digit (get_or s at 0) = λ h. search rules in
    cases (ltb at (length s))
    (λ e. let h = ltb-true _ _ e in some h ∙ digit-same _ ∙ sym (opens_at s at h))
    (λ e. let h = ltb-false _ _ e in none h ∙ sym (opens_at_end s at h))

-- `text::byte` meets its contract.
use Rattle.std.proofs.Common.{◌≡◌, ◌<◌, ◌≤◌, length, get_or, sym, ◌∙◌, arith, rules}
use Rattle.text.proofs.Readings.{byte-at_end, byte_at_here, byte_at_other}
use Rattle.text.proofs.Places.{placed_end_got, placed_end_none}
use Rattle.text.proofs.byte.Goals as goal

pub returns-in_err-get : goal.returns-in_err-get
returns-in_err-get c =
    let h : length c.args.s.now ≤ c.args.at = search rules in
    c.from_residual.ensures ∙ sym (placed_end_none _ _ (byte-at_end _ _ _ h))

pub returns-then-branch-b : goal.returns-then-branch-b
returns-then-branch-b c =
    let h : c.args.at < length c.args.s.now = search rules in
    let e : get_or c.args.s.now c.args.at 0 ≡ c.args.b = search rules in
    sym (placed_end_got _ _ _ (byte_at_here _ _ _ h e) (omega arith))

pub returns-else-branch-b : goal.returns-else-branch-b
returns-else-branch-b c =
    let h : c.args.at < length c.args.s.now = search rules in
    let e : get_or c.args.s.now c.args.at 0 ≡ c.in_ok-get.field-0.now = search rules in
    sym (placed_end_none _ _ (byte_at_other _ _ _ h (λ d. c.if-branch-b.false (sym e ∙ d))))

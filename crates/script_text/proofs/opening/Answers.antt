-- `script_text::opening` meets its contract.
use Rattle.std.proofs.Common.{◌≡◌, ◌≢◌, ◌<◌, length, get_or, sym, rules}
use Rattle.script_text.proofs.OpeningLaws.{opening_empty, opening_other, opening_label}
use Rattle.script_text.proofs.opening.Goals as goal

pub returns-in_err-label-in-Some-eq98 : goal.returns-in_err-label-in-Some-eq98
returns-in_err-label-in-Some-eq98 c =
    let h : 0 < length c.args.s.now = search rules in
    let b : get_or c.args.s.now 0 0 ≡ 98 = search rules in
    rw (opening_label c.args.s.now h b, ← c.in_err-label-in-Some-eq98.ensures) c.from_residual.ensures

pub returns-in_ok-label-in-Some-eq98 : goal.returns-in_ok-label-in-Some-eq98
returns-in_ok-label-in-Some-eq98 c =
    let h : 0 < length c.args.s.now = search rules in
    let b : get_or c.args.s.now 0 0 ≡ 98 = search rules in
    rw (opening_label c.args.s.now h b, ← c.in_ok-label-in-Some-eq98.ensures)

pub returns-in_default : goal.returns-in_default
returns-in_default c =
    let h : 0 < length c.args.s.now = search rules in
    let o : get_or c.args.s.now 0 0 ≢ 98 = search rules in
    sym (opening_other c.args.s.now h o)

pub returns-in_default-2 : goal.returns-in_default-2
returns-in_default-2 c =
    let h : length c.args.s.now ≡ 0 = search rules in
    sym (opening_empty c.args.s.now h)

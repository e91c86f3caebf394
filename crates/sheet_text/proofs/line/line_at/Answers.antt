use Rattle.std.proofs.Common.{rules, ◌≡◌, ◌<◌, ◌≤◌, length, get_or, sym, ap, ◌∙◌}
use Rattle.text.specs.Internal.Place.{placed}
use Rattle.text.proofs.Places.{placed_none}
use Rattle.sheet_text.specs.declared.line.SheetLine.TheVariants.{P, R, T, Q, X}
use Rattle.sheet_text.proofs.FoundLaws.{line_past, line-principals, line-rule, line-sum, line-pair, line-label}
use Rattle.sheet_text.proofs.FoundLaws.{line-policy, line-location, line_other}
use Rattle.sheet_text.proofs.line.line_at.Goals as goal

pub returns-in_err-get : goal.returns-in_err-get
returns-in_err-get c =
    let s = c.args.s.now in
    let h : length s ≤ c.args.at = search rules in
    c.from_residual.ensures ∙ sym (placed_none s _ (line_past s c.args.at h))

pub returns-in-80 : goal.returns-in-80
returns-in-80 c =
    let s = c.args.s.now in
    let h : c.args.at < length s = search rules in
    let e : get_or s c.args.at 0 ≡ 80 = search rules in
    c.number_rest.ensures P (λ n i l q. search rules) ∙ ap (placed s) (sym (line-principals s c.args.at h e))

pub returns-in-82 : goal.returns-in-82
returns-in-82 c =
    let s = c.args.s.now in
    let h : c.args.at < length s = search rules in
    let e : get_or s c.args.at 0 ≡ 82 = search rules in
    c.number_rest-in-82.ensures R (λ n i l q. search rules) ∙ ap (placed s) (sym (line-rule s c.args.at h e))

pub returns-in-84 : goal.returns-in-84
returns-in-84 c =
    let s = c.args.s.now in
    let h : c.args.at < length s = search rules in
    let e : get_or s c.args.at 0 ≡ 84 = search rules in
    c.numbers_rest.ensures T (λ a b i j l q. search rules) ∙ ap (placed s) (sym (line-sum s c.args.at h e))

pub returns-in-81 : goal.returns-in-81
returns-in-81 c =
    let s = c.args.s.now in
    let h : c.args.at < length s = search rules in
    let e : get_or s c.args.at 0 ≡ 81 = search rules in
    c.numbers_rest-in-81.ensures Q (λ a b i j l q. search rules) ∙ ap (placed s) (sym (line-pair s c.args.at h e))

pub returns-in-76 : goal.returns-in-76
returns-in-76 c =
    let s = c.args.s.now in
    let h : c.args.at < length s = search rules in
    let e : get_or s c.args.at 0 ≡ 76 = search rules in
    c.label_rest.ensures ∙ ap (placed s) (sym (line-label s c.args.at h e))

pub returns-in-79 : goal.returns-in-79
returns-in-79 c =
    let s = c.args.s.now in
    let h : c.args.at < length s = search rules in
    let e : get_or s c.args.at 0 ≡ 79 = search rules in
    c.policy_rest.ensures ∙ ap (placed s) (sym (line-policy s c.args.at h e))

pub returns-in-88 : goal.returns-in-88
returns-in-88 c =
    let s = c.args.s.now in
    let h : c.args.at < length s = search rules in
    let e : get_or s c.args.at 0 ≡ 88 = search rules in
    c.numbers_rest-in-88.ensures X (λ a b i j l q. search rules) ∙ ap (placed s) (sym (line-location s c.args.at h e))

pub returns-in_default : goal.returns-in_default
returns-in_default c =
    let s = c.args.s.now in
    let h : c.args.at < length s = search rules in
    sym (placed_none s _ (line_other s c.args.at h (λ e. search rules) (λ e. search rules) (λ e. search rules)
    (λ e. search rules) (λ e. search rules) (λ e. search rules) (λ e. search rules)))

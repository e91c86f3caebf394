-- One law for each way that a word's line goes on.
use Rattle.std.proofs.Common.{◌≡◌, ◌<◌, ◌≤◌, length, get_or, refl, sym, ◌∙◌, arith, rules}
use Rattle.text.specs.Number.{most}
use Rattle.text.proofs.Places.{placed_got, placed_none, placed_at, placed-bad}
use Rattle.text.proofs.Decimals.{number_within}
use Rattle.memory_text.proofs.Rows as rows
use Rattle.memory_text.proofs.line_words.Goals as goal

pub loop-i-init : goal.loop-i-init
loop-i-init c = record { sized = refl; rest = rows.left_start _ }

pub returns-in_err-v : goal.returns-in_err-v
returns-in_err-v c =
    let l = c.loop-i in
    let s = c.args.s.now in
    c.from_residual.ensures
    ∙ sym (placed_none s _ (sym l.invariant.rest ∙ rows.left_bad l.i l.words _ c.loop-i-test.true
    (placed-bad s l.p _ c.in_err-v.ensures)))

pub returns-in_err-get : goal.returns-in_err-get
returns-in_err-get c =
    let l = c.loop-i in
    let s = c.args.s.now in
    let v = placed_at s l.p _ (number_within most _) _ _ c.in_ok-v.ensures in
    let h : length s ≤ c.in_ok-v.q = search rules in
    c.from_residual-in_err-get.ensures
    ∙ sym (placed_none s _ (sym l.invariant.rest ∙ rows.left_end l.i l.words _ c.loop-i-test.true _ s _ v.0 h))

pub returns-in-10 : goal.returns-in-10
returns-in-10 c =
    let l = c.loop-i in
    let s = c.args.s.now in
    let v = placed_at s l.p _ (number_within most _) _ _ c.in_ok-v.ensures in
    let h : c.in_ok-v.q < length s = search rules in
    let b : get_or s c.in_ok-v.q 0 ≡ 10 = search rules in
    sym (placed_got s _ _ _ (sym l.invariant.rest
    ∙ rows.left-last l.i l.words _ c.loop-i-test.true _ s _ v.0 h b c.if-v-ne0.true) (omega arith))

pub returns-in_default : goal.returns-in_default
returns-in_default c =
    let l = c.loop-i in
    let s = c.args.s.now in
    let v = placed_at s l.p _ (number_within most _) _ _ c.in_ok-v.ensures in
    let h : c.in_ok-v.q < length s = search rules in
    let b : get_or s c.in_ok-v.q 0 ≡ 10 = search rules in
    sym (placed_none s _ (sym l.invariant.rest
    ∙ rows.left-zero l.i l.words _ c.loop-i-test.true _ s _ v.0 h b c.if-v-ne0.false))

pub returns-in_default-2 : goal.returns-in_default-2
returns-in_default-2 c =
    let l = c.loop-i in
    let s = c.args.s.now in
    let v = placed_at s l.p _ (number_within most _) _ _ c.in_ok-v.ensures in
    let h : c.in_ok-v.q < length s = search rules in
    let e : get_or s c.in_ok-v.q 0 ≡ 10 → ⊥ = search rules in
    let t : get_or s c.in_ok-v.q 0 ≡ 9 → ⊥ = search rules in
    sym (placed_none s _ (sym l.invariant.rest
    ∙ rows.left_other l.i l.words _ c.loop-i-test.true _ s _ v.0 h e t))

pub loop-i-preserved : goal.loop-i-preserved
loop-i-preserved c =
    let l = c.loop-i in
    let s = c.args.s.now in
    let v = placed_at s l.p _ (number_within most _) _ _ c.in_ok-v.ensures in
    let h : c.in_ok-v.q < length s = search rules in
    let b : get_or s c.in_ok-v.q 0 ≡ 9 = search rules in
    record {
      sized = search rules;
      rest = sym (rows.left-more l.i l.words _ c.loop-i-test.true _ s _ v.0 h b) ∙ l.invariant.rest;
    }

pub returns : goal.returns
returns c =
    let l = c.loop-i in
    sym (placed_none c.args.s.now _ (sym l.invariant.rest ∙ rows.left_full l.i l.words _ c.loop-i-test.false))

use Rattle.std.proofs.Common.{arith, drop, refl, sym, ap, ◌∙◌}
use Rattle.sheet_text.specs.Reading.{lines_of}
use Rattle.sheet_text.proofs.FoundLaws.{line-found, line_missed, line-onward}
use Rattle.sheet_text.proofs.DraftLaws.{holds_none, formed_begun}
use Rattle.sheet_text.proofs.ReadLaws.{sheet-long, sheet_first, sheet_none, held_after, refused_after, leads_on}
use Rattle.sheet_text.proofs.ReadLaws.{formed_on, held_none, held_end}
use Rattle.sheet_text.proofs.draft.draft_of.Goals as goal

pub returns-then-not-fits : goal.returns-then-not-fits
returns-then-not-fits c = holds_none _ _ (sheet-long _ (sym c.fits.ensures ∙ c.if-not-fits.true))

pub returns-in_err-next_line : goal.returns-in_err-next_line
returns-in_err-next_line c =
    let s = c.args.s.now in
    let missed = line_missed s s 0 _ refl c.in_err-next_line.ensures.line in
    rw c.from_residual.ensures (holds_none _ _ (sheet_none s (sym c.fits.ensures ∙ c.if-not-fits.false) missed))

pub returns-in_err-least : goal.returns-in_err-least
returns-in_err-least c =
    let s = c.args.s.now in
    let line = line-found s s 0 _ refl _ c.in_ok-next_line.ensures.line in
    rw c.from_residual-in_err-least.ensures
    (refused_after _ _ _ c.begin.ensures _ _
    (sheet_first s _ _ (sym c.fits.ensures ∙ c.if-not-fits.false) line.0) _ c.in_err-least.was)

pub loop-reader-init : goal.loop-reader-init
loop-reader-init c =
    let s = c.args.s.now in
    let line = line-found s s 0 _ refl _ c.in_ok-next_line.ensures.line in (
      held_after _ _ _ c.begin.ensures _ _
          (sheet_first s _ _ (sym c.fits.ensures ∙ c.if-not-fits.false) line.0) _ (formed_begun _) c.in_ok-least.was,
      ap (λ r. r.now) c.next_line.ensures.text,
    )

pub returns-in_err-next_line-2 : goal.returns-in_err-next_line-2
returns-in_err-next_line-2 c =
    let (held, same) = c.loop-reader.invariant in
    let missed = line_missed c.args.s.now _ _ _ same c.in_err-next_line-2.ensures.line in
    rw c.from_residual-in_err-next_line-2.ensures (held_none _ _ held c.loop-reader-test.true missed _)

pub returns-in_err-least-2 : goal.returns-in_err-least-2
returns-in_err-least-2 c =
    let s = c.args.s.now in
    let at = c.loop-reader.reader.at in
    let p = c.next_line-in-loop-reader.new.reader.at in
    let (held, same) = c.loop-reader.invariant in
    let line = line-found s _ _ _ same _ c.in_ok-next_line-2.ensures.line in
    rw c.from_residual-in_err-least-2.ensures
    (refused_after _ _ _ (c.step.ensures held.sheet held.is_formed held.least held.table) (lines_of (drop p s)) _
    (leads_on s at held _ p line.0) _ c.in_err-least-2.was)

pub loop-reader-smaller : goal.loop-reader-smaller
loop-reader-smaller c =
    let line = line-found c.args.s.now _ _ _ c.loop-reader.invariant.1 _ c.in_ok-next_line-2.ensures.line in
    omega (arith, line.1, line-onward c.args.s.now _ _ _ line.0 line.1)

pub loop-reader-preserved : goal.loop-reader-preserved
loop-reader-preserved c =
    let s = c.args.s.now in
    let at = c.loop-reader.reader.at in
    let p = c.next_line-in-loop-reader.new.reader.at in
    let (held, same) = c.loop-reader.invariant in
    let line = line-found s _ _ _ same _ c.in_ok-next_line-2.ensures.line in (
      held_after _ _ _ (c.step.ensures held.sheet held.is_formed held.least held.table) _ _
          (leads_on s at held _ p line.0) _ (formed_on s at held c.in_ok-next_line-2.field-0) c.in_ok-least-2.was,
      ap (λ r. r.now) c.next_line-in-loop-reader.ensures.text ∙ same,
    )

pub returns : goal.returns
returns c = held_end _ _ c.loop-reader.invariant.0 c.loop-reader-test.false

use Rattle.std.proofs.Common.{length, ◌≡◌, sym, ◌∙◌, refl, arith}
use lib.Dec.{leb}
use borrow.Author.Tests.{leb-true, leb-false}
use Rattle.logic.proofs.BooleanLaws.{cases}
use Rattle.scripts.specs.Internal.Places.{script_end}
use Rattle.scripts.proofs.Places.{walk_ends, walk_on, walk_over, end_past}
use Rattle.scripts.proofs.end_of.Goals as goal

pub loop-at-init : goal.loop-at-init
unfolding script_end
loop-at-init c = refl

pub returns-then-ends : goal.returns-then-ends
returns-then-ends c =
    sym (walk_ends c.args.text.now c.loop-at.at c.loop-at.start c.loop-at-test.true c.if-start.true c.if-ends.true)
    ∙ c.loop-at.invariant

pub loop-at-preserved : goal.loop-at-preserved
loop-at-preserved c =
    sym (walk_on c.args.text.now c.loop-at.at c.loop-at.start c.loop-at-test.true c.else-start.either)
    ∙ c.loop-at.invariant

pub returns : goal.returns
returns c =
    let at : c.loop-at.at ≡ script_end c.args.text.now c.args.from =
    sym (walk_over c.args.text.now c.loop-at.at c.loop-at.start c.loop-at-test.false) ∙ c.loop-at.invariant in
    cases (leb c.args.from (length c.args.text.now))
    (λ e. omega (arith, leb-true _ _ e))
    (λ e. omega (arith, leb-false _ _ e, end_past c.args.text.now c.args.from (omega (arith, leb-false _ _ e))))

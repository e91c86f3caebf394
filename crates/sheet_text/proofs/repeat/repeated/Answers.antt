use Rattle.std.proofs.Common.{◌∙◌}
use Rattle.sheet_text.proofs.RepeatFinds.{repeated_end, repeated_here, repeated_on}
use Rattle.sheet_text.proofs.repeat.repeated.Goals as goal

pub returns-then-contains : goal.returns-then-contains
returns-then-contains g c =
    repeated_here g.T.PartialEq.eq c.in-Some.one.now c.in-Some.after.now _ c.in-Some.ensures.cases.0
    c.contains.ensures.value c.if-contains.true
    ∙ c.loop-one.invariant

pub loop-one-preserved : goal.loop-one-preserved
loop-one-preserved g c =
    repeated_on g.T.PartialEq.eq c.in-Some.one.now c.in-Some.after.now _ c.in-Some.ensures.cases.0
    c.contains.ensures.value c.if-contains.false
    ∙ c.loop-one.invariant

pub returns : goal.returns
returns g c = repeated_end g.T.PartialEq.eq c.loop-one.rest.now c.in_default.ensures.cases ∙ c.loop-one.invariant

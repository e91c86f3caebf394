-- The labels of the members are walked over, after bottom.
use mathlib.Core.Path.{◌∙◌}
use Rattle.sets.specs.Sets.{restrict}
use Rattle.sheet.specs.Internal.Tables.{label_in}
use Rattle.members.specs.Internal.Members.{confidentiality_flows}
use Rattle.members.proofs.ConfidentialityLaws.{all_pass, both_alone, one_more}
use Rattle.members.proofs.confidentiality_flows.Goals as goal

pub loop-p-init : goal.loop-p-init
unfolding confidentiality_flows restrict
loop-p-init c =
    let a = c.args in
    let t = a.table.now in
    rw (
      c.into_iter-p-iterator.ensures.into_iter_gives,
      c.readers_within-all.ensures,
      c.everyone.ensures,
      c.label_of-upper.ensures,
    )
    (all_pass t (label_in t a.l) a.members)

pub loop-p-preserved : goal.loop-p-preserved
loop-p-preserved c =
    rw (c.confidentiality_at_or_below-all.ensures, c.label_of-lower.ensures)
    (one_more _ _ _ ∙ (rw c.in-Some.ensures.steps at c.loop-p.invariant))

pub returns : goal.returns
returns c = both_alone _ ∙ (rw c.in-None.ensures.steps.0 at c.loop-p.invariant)

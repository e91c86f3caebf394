use Rattle.std.proofs.Common.{sym, ap, ◌∙◌}
use Rattle.sets.specs.Sets.{within}
use Rattle.stages.proofs.StageLaws.{strangers_by}
use Rattle.stages.proofs.known.Goals as goal

pub returns-then-not-contained : goal.returns-then-not-contained
returns-then-not-contained c =
    strangers_by _ _ _ (ap (within _) (sym c.everyone.ensures) ∙ sym c.contained.ensures ∙ c.if-not-contained.true)

pub returns : goal.returns
returns c =
    strangers_by _ _ _ (ap (within _) (sym c.everyone.ensures) ∙ sym c.contained.ensures ∙ c.if-not-contained.false)

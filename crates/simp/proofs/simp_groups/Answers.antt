use Rattle.std.proofs.Common.{rules}
use Rattle.groups.specs.Calls.{groups_of}
use Rattle.groups.proofs.StageLaws.{groups_in_lem}
use Rattle.simp.proofs.SheetLaws.{answers}
use Rattle.simp.proofs.simp_groups.Goals as goal

pub returns : goal.returns
unfolding groups_of
returns c =
    answers _ _ _ c.on_sheet.ensures _
    (λ refusal i w. search (rules, i, w))
    (λ s i p T k. let m = k.met in groups_in_lem _ _ _ _ (search rules) s T)

use Rattle.std.proofs.Common.{rules}
use Rattle.stages.specs.Calls.{view_of}
use Rattle.stages.proofs.StageLaws.{view_in_lem}
use Rattle.simp.proofs.SheetLaws.{answers}
use Rattle.simp.proofs.simp_view.Goals as goal

pub returns : goal.returns
unfolding view_of
returns c =
    answers _ _ _ c.on_sheet.ensures _
    (λ refusal i w. search (rules, i, w))
    (λ s i p T k. let m = k.met in view_in_lem _ _ _ _ _ (search rules) s T)

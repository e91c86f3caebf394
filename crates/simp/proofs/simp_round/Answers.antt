use Rattle.std.proofs.Common.{rules}
use Rattle.rounds.specs.Calls.{round_by}
use Rattle.rounds.proofs.StageLaws.{round_of_lem}
use Rattle.simp.proofs.SheetLaws.{answers}
use Rattle.simp.proofs.simp_round.Goals as goal

pub returns : goal.returns
unfolding round_by
returns c =
    answers _ _ _ c.on_sheet.ensures _
    (λ refusal i w. search (rules, i, w))
    (λ s i p T k. let m = k.met in round_of_lem _ s i _ _ _ _ _ _ (search (rules, m)) T)

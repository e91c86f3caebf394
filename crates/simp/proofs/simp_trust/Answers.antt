use Rattle.std.proofs.Common.{rules}
use Rattle.stages.specs.Calls.{trust_of}
use Rattle.simp.proofs.SheetLaws.{answers}
use Rattle.simp.proofs.simp_trust.Goals as goal

pub returns : goal.returns
unfolding trust_of
returns c =
    answers _ _ _ c.on_sheet.ensures _
    (λ refusal i w. search (rules, i))
    (λ s i p T k. let m = k.met in search (rules, m))

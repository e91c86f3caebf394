use Rattle.std.proofs.Common.{rules}
use Rattle.stages.specs.Calls.{run_of}
use Rattle.simp.proofs.SheetLaws.{answers}
use Rattle.simp.proofs.simp_run.Goals as goal

pub returns : goal.returns
unfolding run_of
returns c =
    answers _ _ _ c.on_sheet.ensures _
    (λ refusal i w. search (rules, i, w))
    (λ s i p T k. let m = k.met in search (rules, m, i))

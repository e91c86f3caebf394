use Rattle.std.proofs.Common.{◌∙◌}
use Rattle.memory.specs.Verdict.{memory_number}
use Rattle.stages.proofs.StageLaws.{passed_on, handed_on}
use Rattle.rounds.proofs.StageLaws.{play_numbered, play-refused, play-runs}
use Rattle.rounds.proofs.play.Goals as goal

pub returns-in_err-lowest_refusal : goal.returns-in_err-lowest_refusal
returns-in_err-lowest_refusal c =
    rw (passed_on _ _ c.from_residual.ensures) (play_numbered _ _ _ _ _ _ _ c.in_err-lowest_refusal.ensures)

pub returns-in_err-judge : goal.returns-in_err-judge
returns-in_err-judge c =
    let p = handed_on _ _ c.from_residual-in_err-judge.ensures in
    rw p.1 (play-refused _ _ _ _ _ _ c.in_ok-lowest_refusal.ensures p.0 (p.2 ∙ c.in_err-judge.ensures))

pub returns : goal.returns
unfolding memory_number
returns c = play-runs _ _ _ _ _ _ c.in_ok-lowest_refusal.ensures _ c.in_ok-judge.ensures c.run_each.ensures

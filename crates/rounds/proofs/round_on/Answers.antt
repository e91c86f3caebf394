use Rattle.std.proofs.Common.{refl, ap}
use Rattle.scripts.specs.declared.Parting.{Parting}
use Rattle.stages.proofs.StageLaws.{passed_on}
use Rattle.rounds.proofs.StageLaws.{round_stranger, round_many, round_played, parted, all_none}
use Rattle.scripts.proofs.Places.{few_scripts, many_scripts}
use Rattle.rounds.proofs.round_on.Goals as goal

pub returns-in_err-known : goal.returns-in_err-known
returns-in_err-known c = rw (passed_on _ _ c.from_residual.ensures) (round_stranger _ _ _ _ _ _ c.in_err-known.ensures)

pub returns-then-parting-gt-MOST_SCRIPTS : goal.returns-then-parting-gt-MOST_SCRIPTS
returns-then-parting-gt-MOST_SCRIPTS c =
    round_many _ _ _ _ _ c.in_ok-known.ensures
    (many_scripts _ _ (ap (λ (p : Parting). p.count) c.part-parting.ensures) c.if-parting-gt-MOST_SCRIPTS.true)

pub invariant_of-scripts : goal.invariant_of-scripts
invariant_of-scripts c = record {
  parted = parted _ _ _ c.part-parting.ensures c.if-parting-gt-MOST_SCRIPTS.false refl;
}

pub returns : goal.returns
returns c =
    round_played _ _ _ _ _ c.in_ok-known.ensures
    (few_scripts _ _ (ap (λ (p : Parting). p.count) c.part-parting.ensures) c.if-parting-gt-MOST_SCRIPTS.false)
    _ _ all_none c.play.ensures

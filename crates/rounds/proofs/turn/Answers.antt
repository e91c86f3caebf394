use Rattle.std.proofs.Common.{ap}
use Rattle.rounds.specs.Internal.Stages.{gate_number}
use Rattle.rounds.proofs.RunLaws.{turn_runs, turn_shut}
use Rattle.rounds.proofs.turn.Goals as goal

pub returns-in-Some : goal.returns-in-Some
returns-in-Some c = rw (c.into.ensures, c.in-Some.is) (turn_shut _ _ _ _ _ _)

pub returns-in-None : goal.returns-in-None
returns-in-None c = turn_runs _ _ _ _ _ _ _ (ap gate_number c.in-None.is) c.run_script.ensures

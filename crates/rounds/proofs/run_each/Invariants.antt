-- The rest of the round, placed from here on, is the whole.
use Rattle.scripts.proofs.Places.{StartsAt}
use Rattle.rounds.proofs.RunLaws.{Goes}
use Rattle.rounds.proofs.run_each.Given as goal

abbrev pub invariant-loop-i : goal.invariant-loop-i
invariant-loop-i l = record {
  starts : StartsAt l.scripts.text.now l.i l.at;
  goes : Goes l.scripts.text.now l.gates l.table l.initial.memory l.authority l.budget l.i l.at l.answers l.steps
      l.memory;
}

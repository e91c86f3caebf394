-- A byte parts two texts at a line's start, where it ends the line.
use Rattle.std.proofs.Common.{arith}
use Rattle.std.proofs.lemmas.Grind.{common_steps}
use Rattle.logic.specs.Booleans.{both}
use Rattle.parts.specs.Parts.{parting}
use Rattle.parts.proofs.State.is_parted_by.Goals as goal

pub returns-then-b-eq10 : goal.returns-then-b-eq10
unfolding parting both
returns-then-b-eq10 c = grind (arith, common_steps)

pub returns-else-b-eq10 : goal.returns-else-b-eq10
unfolding parting both
returns-else-b-eq10 c = grind (arith, common_steps)

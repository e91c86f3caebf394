-- The rows left, twice: `reach` lies above `pair`, which it calls at its own row.
use Rattle.std.proofs.Common.{◌+◌, ◌*◌}
use Rattle.script.specs.Internal.Code.{rows_left}
use Rattle.evaluator.proofs.+pair_reach.Given as goal

abbrev pub decreases-reach : goal.decreases-reach
decreases-reach l = 2 * rows_left l.world.now.code.now l.at.now + 1

abbrev pub decreases-pair : goal.decreases-pair
decreases-pair l = 2 * rows_left l.world.now.code.now l.at.now

-- The rows left, twice: `exec` lies above the others, which it calls at its own row. Of a loop: no round ended before
-- the loop's own line, and what the loop ends with from here, it ends with from the start; each round costs a step.
use Rattle.std.proofs.Common.{ℕ, ◌+◌, ◌*◌, ◌≤◌, List}
use Rattle.script.specs.Internal.Code.{rows_left}
use Rattle.interpreter.specs.Internal.Post.{Stepped, Execs}
use Rattle.interpreter.proofs.CommandLaws.{OnLast, Rounds}
use Rattle.interpreter.proofs.commands.+exec_repeat_select_sequence.Given as goal

abbrev pub decreases-exec : goal.decreases-exec
decreases-exec l = 2 * rows_left l.world.now.code.now l.at + 1

abbrev pub decreases-repeat : goal.decreases-repeat
decreases-repeat l = 2 * rows_left l.world.now.code.now l.at

abbrev pub decreases-select : goal.decreases-select
decreases-select l = 2 * rows_left l.world.now.code.now l.at

abbrev pub decreases-sequence : goal.decreases-sequence
decreases-sequence l = 2 * rows_left l.world.now.code.now l.at

abbrev pub invariant-repeat-loop-side : goal.invariant-repeat-loop-side
invariant-repeat-loop-side l =
    OnLast l.last (λ n. l.at ≤ n)
    × ((d : Stepped) (cells : List ℕ)
    → Rounds (record { table = l.world.table.now; powers = l.world.powers })
    (record { code = l.world.code.now; at = l.at; depth = l.depth; cells = l.work }) l.fuel l.last d cells
    → Execs (record { table = l.world.table.now; powers = l.world.powers })
    (record { code = l.world.code.now; at = l.at; depth = l.depth; cells = l.fn.work }) l.fn.fuel d cells)

abbrev pub decreases-repeat-loop-side : goal.decreases-repeat-loop-side
decreases-repeat-loop-side l = l.fuel

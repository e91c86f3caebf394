-- The rest of the walk from here is the walk from the start.
use Rattle.std.proofs.Common.{◌≡◌, ◌+◌, drop}
use Rattle.scripts.specs.Internal.Places.{script_length, script_end}
use Rattle.scripts.proofs.end_of.Given as goal

abbrev pub invariant-loop-at : goal.invariant-loop-at
invariant-loop-at l = l.at + script_length l.start (drop l.at l.text) ≡ script_end l.text l.from

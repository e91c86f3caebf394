-- What was to come is what is to come from here on.
use Rattle.std.proofs.Common.{◌-◌, ◌≡◌, ◌≤◌}
use Rattle.groups.specs.Internal.Readers.{reads_by}
use Rattle.groups.specs.Internal.Walk.{smallest_up_to}
use Rattle.groups.specs.Internal.Smallest.{to_come}
use Rattle.groups.proofs.smallest.SmallestIterator.next.Given as goal

abbrev pub invariant-loop-from : goal.invariant-loop-from
invariant-loop-from l =
    (1 ≤ l.from) × (to_come l.fn.self ≡ smallest_up_to (reads_by l.self.readers) l.self.end l.from)

abbrev pub decreases-loop-from : goal.decreases-loop-from
decreases-loop-from l = l.self.end - l.from

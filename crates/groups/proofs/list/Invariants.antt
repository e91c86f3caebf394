-- The places hold the groups that were given, and the others are as they were.
use Rattle.std.proofs.Common.{◌≡◌, length}
use Rattle.std.proofs.Math.Seq.{paste}
use Rattle.groups.specs.Internal.Smallest.{to_come}
use Rattle.groups.proofs.list.Given as goal

abbrev pub invariant-loop-i : goal.invariant-loop-i
invariant-loop-i l = l.groups ≡ paste l.fn.groups 0 (to_come l.fn.smallest) (length l.yielded)

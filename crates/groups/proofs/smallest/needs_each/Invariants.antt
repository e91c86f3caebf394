-- The group doesn't read without any one of its members below p.
use Rattle.std.proofs.Common.{◌≡◌, ℕ, ◌<◌, false}
use Rattle.groups.specs.Internal.Readers.{reads_by}
use Rattle.groups.specs.Internal.Walk.{reads_without}
use Rattle.groups.proofs.smallest.needs_each.Given as goal

abbrev pub invariant-loop-p : goal.invariant-loop-p
invariant-loop-p l = (k : ℕ) → k < l.p → reads_without (reads_by l.readers) l.group k ≡ false

-- What the walk through the groups is still to give.
use Rattle.std.specs.Prelude.{List, ℕ}
use Rattle.groups.specs.declared.smallest.Smallest.{Smallest}
use Rattle.groups.specs.Internal.Readers.{reads_by}
use Rattle.groups.specs.Internal.Walk.{smallest_up_to}

abbrev pub to_come : Smallest → List ℕ
to_come s = smallest_up_to (reads_by s.readers) s.end s.from

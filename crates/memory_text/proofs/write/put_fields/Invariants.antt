-- The fields from w on are still to be written.
use Rattle.std.proofs.Common.{◌≤◌, ◌+◌, ◌*◌, drop}
use Rattle.memory_text.specs.Sizes.{word_room}
use Rattle.memory_text.specs.Printing.{fields}
use Rattle.memory_text.proofs.Writes.{Goes}
use Rattle.memory_text.proofs.write.put_fields.Given as goal

abbrev pub invariant-loop-w : goal.invariant-loop-w
invariant-loop-w l = record {
  short : l.p ≤ l.at + word_room * l.w-index;
  goes : Goes (fields l.words) (fields (drop l.w-index l.words)) l.fn.out l.at l.out l.p;
}

-- The lines of the words that are left are still to be written.
use Rattle.std.proofs.Common.{◌≡◌, ◌≤◌, ◌+◌, ◌*◌, ◌/◌, length}
use Rattle.std.specs.Slice.Iter.{chunks_exact_rest, chunks_exact_size}
use Rattle.language.specs.World.{cell_words}
use Rattle.memory_text.specs.Sizes.{line_room}
use Rattle.memory_text.proofs.Writes.{Goes, lines_of}
use Rattle.memory_text.proofs.write.write_memory.Given as goal

abbrev pub invariant-loop-row : goal.invariant-loop-row
invariant-loop-row l = record {
  size : chunks_exact_size l.row-iterator ≡ cell_words;
  short : l.at + line_room * (length (chunks_exact_rest l.row-iterator) / cell_words)
      ≤ line_room * (length l.words / cell_words);
  goes : Goes (lines_of l.words) (lines_of (chunks_exact_rest l.row-iterator)) l.fn.out 0 l.out l.at;
}

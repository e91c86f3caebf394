-- The rows that are left are to be those of so many trees.
use Rattle.std.proofs.Common.{◌≡◌, ◌≤◌, ◌+◌, length}
use Rattle.std.specs.Slice.Iter.{chunks_exact_rest, chunks_exact_size}
use Rattle.script_text.proofs.BalanceLaws.{Due}
use Rattle.script_text.proofs.scan.balanced.Given as goal

abbrev pub invariant-loop-row : goal.invariant-loop-row
invariant-loop-row l = record {
  size : chunks_exact_size l.row-iterator ≡ 3;
  few : l.trees + length (chunks_exact_rest l.row-iterator) ≤ length l.code + 1;
  due : Due l.code (chunks_exact_rest l.row-iterator) l.trees;
}

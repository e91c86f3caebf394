-- What is still to be read from p with i words in the array is the whole line.
use Rattle.std.proofs.Common.{◌≡◌, length, drop}
use Rattle.language.specs.World.{cell_words}
use Rattle.memory_text.specs.Reading.{filled_line}
use Rattle.memory_text.proofs.Rows.{left}
use Rattle.memory_text.proofs.line_words.Given as goal

abbrev pub invariant-loop-i : goal.invariant-loop-i
invariant-loop-i l = record {
  sized : length l.words ≡ cell_words;
  rest : left l.i l.words (drop l.p l.s) ≡ filled_line (drop l.at l.s);
}

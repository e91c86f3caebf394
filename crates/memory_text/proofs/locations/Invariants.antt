-- The table with what is still to be read is the whole memory.
use Rattle.std.proofs.Common.{◌≡◌, ◌-◌, length, drop}
use Rattle.text.specs.Lines.{lines_up_to}
use Rattle.sheet.specs.Sheet.{max_locations}
use Rattle.memory_text.specs.Sizes.{memory_words}
use Rattle.memory_text.specs.Reading.{location, locations}
use Rattle.memory_text.specs.Internal.Answers.{table}
use Rattle.memory_text.proofs.Tables.{tabled}
use Rattle.memory_text.proofs.locations.Given as goal

abbrev pub invariant-loop-count : goal.invariant-loop-count
invariant-loop-count l = record {
  sized : length l.words ≡ memory_words;
  text : l.reader.text.now ≡ l.s;
  rest : tabled l.count l.words (lines_up_to location (max_locations - l.count) (drop l.reader.at l.reader.text.now))
      ≡ table (locations max_locations l.s);
}

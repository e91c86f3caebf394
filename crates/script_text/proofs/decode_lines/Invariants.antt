-- What is still to be decoded gives the code of all lines from the first on.
use Rattle.std.proofs.Common.{◌≡◌, ◌≤◌, ◌-◌, drop}
use Rattle.text.specs.Lines.{lines_up_to}
use Rattle.script_text.specs.Reading.{line_of}
use Rattle.script_text.specs.Internal.Decoded.{coded_lines}
use Rattle.script_text.proofs.CodeLaws.{tabled}
use Rattle.script_text.proofs.decode_lines.Given as goal

abbrev pub invariant-loop-reader : goal.invariant-loop-reader
invariant-loop-reader l = record {
  few : l.count ≤ l.most;
  same : l.reader.text.now ≡ l.fn.s;
  rest : tabled l.count l.code (lines_up_to line_of (l.most - l.count) (drop l.reader.at l.s))
      ≡ coded_lines (lines_up_to line_of l.most (drop l.from l.s));
}

abbrev pub decreases-loop-reader : goal.decreases-loop-reader
decreases-loop-reader l = l.most - l.count

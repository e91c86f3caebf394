-- How the checker's contract says where a script starts: by a label's number, one past any label for none. The label
-- of that number is bottom already.
use Rattle.std.proofs.Math.Option.{Option, none, some}
use Rattle.std.specs.Prelude.{ℕ}
use Rattle.sheet.specs.Sheet.{max_labels}

unfoldable pub start_no : Option ℕ → ℕ
start_no none = max_labels
start_no (some l) = l

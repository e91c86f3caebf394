-- Lines that are as many as their kinds ask for. A text that isn't is no script's, and this is told before any
-- walk over its lines.
use Rattle.std.specs.Prelude.{Bool, false, List, [], ◌∷◌, ℕ, zero, suc, ◌+◌, eqb}
use Rattle.script.specs.Lines.{ScriptLine}
use Rattle.script.specs.Internal.Code.{row_of}
use Rattle.script.specs.Internal.Pieces.{operand_count}

abbrev pub line_operands : ScriptLine → ℕ
line_operands l = operand_count (row_of l).kind

-- the lines are those of n trees: each line takes one tree off, and puts one on for each of its operands
unfoldable pub closes : ℕ → List ScriptLine → Bool
closes n [] = eqb n 0
closes zero (l ∷ ls) = false
closes (suc n) (l ∷ ls) = closes (n + line_operands l) ls

-- how many operands the lines have in all
unfoldable pub all_operands : List ScriptLine → ℕ
all_operands [] = 0
all_operands (l ∷ ls) = line_operands l + all_operands ls

-- A value too long, and one with a word in front.
use Rattle.std.proofs.Common.{refl}
use Rattle.evaluator.proofs.NodeLaws as laws
use Rattle.evaluator.proofs.nodes.tagged.Goals as goal

pub returns-then-value_end-ge-CELL : goal.returns-then-value_end-ge-CELL
returns-then-value_end-ge-CELL c = laws.tagged-long c.value_end.ensures c.if-value_end-ge-CELL.true

pub returns : goal.returns
returns c = laws.tagged_done c.value_end.ensures c.if-value_end-ge-CELL.false refl c.push.ensures

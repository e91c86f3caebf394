-- Values that are too long together, and the words of both.
use Rattle.std.proofs.Common.{take, refl, arith}
use Rattle.cells.specs.Internal.Cells.{push_of}
use Rattle.cells.proofs.CellLaws.{after, length_pushes, length_load}
use Rattle.evaluator.proofs.NodeLaws as laws
use Rattle.evaluator.proofs.nodes.pair.Goals as goal

pub returns-then-n-ge-CELL : goal.returns-then-n-ge-CELL
returns-then-n-ge-CELL c = laws.pair-long c.value_end-n.ensures refl (omega arith)

pub returns-then-n-value_end : goal.returns-then-n-value_end
returns-then-n-value_end c = laws.pair-long c.value_end-n.ensures c.value_end.ensures (omega arith)

pub returns : goal.returns
returns c =
    laws.pair_done c.value_end-n.ensures c.value_end.ensures (omega arith) refl refl (after _ _ _ (push_of 6)
    (length_pushes (take c.value_end-n.result c.args.first.now) _ (length_load _ _)) c.push_words.ensures
    c.push.ensures)

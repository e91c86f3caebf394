-- No pair, and the first part without the words after it.
use Rattle.std.proofs.Common.{refl}
use Rattle.language.specs.Syntax.{first}
use Rattle.cells.specs.Internal.Cells.{cut_of}
use Rattle.cells.proofs.CellLaws.{after, length_pop, length_load}
use Rattle.evaluator.proofs.NodeLaws as laws
use Rattle.evaluator.proofs.nodes.first_part.Goals as goal

pub returns-then-word-ne-PAIR : goal.returns-then-word-ne-PAIR
returns-then-word-ne-PAIR c = laws.part_none first _ c.word.ensures c.if-word-ne-PAIR.true

pub returns : goal.returns
returns c =
    laws.part_first refl c.pop_to.ensures c.value_end-end.ensures (after _ _ _ (cut_of c.value_end-end.result)
    (length_pop _ (length_load _ _)) c.pop_to.ensures c.cut.ensures)

-- No package, an error, and the content with a left's word in front.
use Rattle.std.proofs.Common.{refl}
use Rattle.cells.specs.Internal.Cells.{push_of, pop_of}
use Rattle.cells.proofs.CellLaws.{after, length_pop, length_load}
use Rattle.evaluator.proofs.NodeLaws as laws
use Rattle.evaluator.proofs.nodes.unpack.Goals as goal

pub returns-then-word-ne-PACKAGE : goal.returns-then-word-ne-PACKAGE
returns-then-word-ne-PACKAGE c = laws.unpack_none _ _ _ _ c.word.ensures c.if-word-ne-PACKAGE.true

pub returns-in-Err : goal.returns-in-Err
returns-in-Err c = laws.unpack-error _ _ _ c.in-Err.e c.in-Err.ensures c.fail.ensures

pub returns : goal.returns
returns c =
    laws.unpack_done _ _ _ c.in_default.ensures refl (after _ _ _ (push_of 3) (length_pop _ (length_pop _
    (length_load _ _))) (after _ _ _ pop_of (length_pop _ (length_load _ _)) c.pop_to.ensures c.pop_to-2.ensures)
    c.push.ensures)

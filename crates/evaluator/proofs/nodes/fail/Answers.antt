-- A right's word in front of the two words of an error.
use Rattle.std.proofs.Common.{refl, ap, ◌∙◌}
use Rattle.cells.specs.Internal.Cells.{store_of, push_of}
use Rattle.cells.proofs.CellLaws.{after, length_push}
use Rattle.evaluator.proofs.ValueLaws.{push_failure}
use Rattle.evaluator.proofs.nodes.fail.Goals as goal

pub returns : goal.returns
returns c =
    after _ _ _ (push_of 4) (length_push _ _ (length_push _ _ refl)) (rw c.into.ensures at c.put.ensures)
    c.push.ensures ∙ ap (store_of _ 0) (push_failure _)

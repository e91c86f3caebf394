-- The two words are those of an integer.
use Rattle.std.proofs.Common.{ap, ◌∙◌}
use Rattle.cells.specs.Internal.Cells.{store_of}
use Rattle.evaluator.proofs.ValueLaws.{push_int}
use Rattle.evaluator.proofs.nodes.literal.Goals as goal

pub returns : goal.returns
returns c = c.put.ensures ∙ ap (store_of _ 0) (push_int _)

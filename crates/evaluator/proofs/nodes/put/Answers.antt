-- Two words are pushed onto zeros.
use Rattle.std.proofs.Common.{refl}
use Rattle.memory.specs.Words.{zeros}
use Rattle.cells.specs.Internal.Cells.{push_of}
use Rattle.cells.proofs.CellLaws.{after, length_push}
use Rattle.evaluator.proofs.nodes.put.Goals as goal

pub returns : goal.returns
returns c =
    after _ _ _ (push_of c.args.word) (length_push _ _ refl) (after _ _ (zeros 16) (push_of c.args.n) refl
    c.clear.ensures c.push.ensures) c.push-2.ensures

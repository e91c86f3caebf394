-- No authority, a value too long, and three words in front.
use Rattle.std.proofs.Common.{refl}
use Rattle.cells.specs.Internal.Cells.{push_of}
use Rattle.cells.proofs.CellLaws.{after, length_push, length_load}
use Rattle.evaluator.proofs.NodeLaws as laws
use Rattle.evaluator.proofs.nodes.pack.Goals as goal

pub returns-then-not-may_write : goal.returns-then-not-may_write
returns-then-not-may_write c = laws.pack-error _ _ c.may_write.ensures c.if-not-may_write.true c.fail.ensures

pub returns-then-value_end-gt-ROOM : goal.returns-then-value_end-gt-ROOM
returns-then-value_end-gt-ROOM c =
    laws.pack-long _ _ c.may_write.ensures c.if-not-may_write.false c.value_end.ensures c.if-value_end-gt-ROOM.true

pub returns : goal.returns
returns c =
    laws.pack-done _ _ c.may_write.ensures c.if-not-may_write.false c.value_end.ensures
    c.if-value_end-gt-ROOM.false refl (after _ _ _ (push_of 3) (length_push _ _ (length_push _ _ (length_load _
    _))) (after _ _ _ (push_of 5) (length_push _ _ (length_load _ _)) c.push.ensures c.push-2.ensures)
    c.push-3.ensures)

use Rattle.std.proofs.Common.{arith}
use Rattle.cells.proofs.CellLaws.{popped, unstored}
use Rattle.cells.proofs.pop_words.Goals as goal

pub returns-then-work-lt-CELL : goal.returns-then-work-lt-CELL
returns-then-work-lt-CELL c = unstored c.args.work.now _ 0 (omega arith)

pub returns : goal.returns
returns c =
    popped c.args.work.now c.min-n.result c.args.n c.if-work-lt-CELL.false c.min-n.ensures
    c.copy_from_slice.ensures.after c.copy_from_slice-2.ensures.after

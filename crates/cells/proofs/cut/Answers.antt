use Rattle.std.proofs.Common.{arith}
use mathlib.Core.Logic.{⊎_elim}
use Rattle.cells.proofs.CellLaws.{cut_part, cut_none, unstored}
use Rattle.cells.proofs.cut.Goals as goal

pub returns-then-work-ge-CELL : goal.returns-then-work-ge-CELL
returns-then-work-ge-CELL c =
    cut_part c.args.work.now c.fill.new.self c.args.n c.if-n-lt-CELL.true c.if-work-ge-CELL.true
    (c.fill.ensures.after (λ y e. e))

pub returns-else-n-lt-CELL : goal.returns-else-n-lt-CELL
returns-else-n-lt-CELL c =
    ⊎_elim (λ h. unstored c.args.work.now _ 0 (omega arith)) (λ h. cut_none c.args.work.now c.args.n h)
    c.else-n-lt-CELL.either

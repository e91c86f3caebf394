use Rattle.std.proofs.Common.{arith}
use Rattle.cells.proofs.CellLaws.{slide_turn}
use Rattle.cells.proofs.slide.Goals as goal

pub loop-i-preserved : goal.loop-i-preserved
loop-i-preserved c =
    slide_turn c.args.work.now c.args.to c.args.from c.args.n c.loop-i.i c.loop-i.work c.loop-i.invariant
    c.loop-i-test.true (omega arith) (omega arith) c.requires.2

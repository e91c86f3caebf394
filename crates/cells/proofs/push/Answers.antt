use Rattle.std.proofs.Common.{length-take, arith}
use Rattle.cells.proofs.CellLaws.{pushed_along, push_turn, push_held, unstored}
use Rattle.cells.proofs.push.Goals as goal

pub returns-then-work-lt-CELL : goal.returns-then-work-lt-CELL
returns-then-work-lt-CELL c = unstored c.args.work.now _ 0 (omega arith)

pub loop-word-preserved : goal.loop-word-preserved
loop-word-preserved c =
    let l = c.loop-word in
    let t = c.loop-word-test.true in (
      push_turn _ c.args.w l.word-index l.word-items l.invariant.0 t l.held l.invariant.1,
      push_held _ c.args.w l.word-index l.word-items l.invariant.0 t,
    )

pub returns : goal.returns
returns c =
    let l = c.loop-word in
    pushed_along c.args.w c.args.work.now l.word-items l.word-index c.if-work-lt-CELL.false l.invariant.0
    (omega (arith, length-take 16 c.args.work.now))

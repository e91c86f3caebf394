use Rattle.cells.proofs.CellLaws.{cleared_at, unstored}
use Rattle.cells.proofs.clear.Goals as goal

pub returns-in-Some : goal.returns-in-Some
returns-in-Some c =
    let h = c.in-Some.ensures in
    cleared_at c.args.work.now c.fill.new.self c.args.k c.in-Some.start h.0 h.1 (c.fill.ensures.after (λ y e. e))

pub returns-in_default : goal.returns-in_default
returns-in_default c = unstored c.args.work.now _ c.args.k c.in_default.ensures

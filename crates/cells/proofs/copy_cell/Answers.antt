use Rattle.std.proofs.Common.{◌∙◌, ap}
use Rattle.cells.specs.Internal.Cells.{store_of}
use Rattle.cells.proofs.CellLaws.{unstored, copied_at, cleared_at, unloaded}
use Rattle.cells.proofs.copy_cell.Goals as goal

pub returns-in_default : goal.returns-in_default
returns-in_default c = unstored c.args.work.now _ c.args.to c.in_default.ensures

pub returns-in-Some-start_of : goal.returns-in-Some-start_of
returns-in-Some-start_of c =
    let f = c.in-Some-start_of.ensures in
    let s = c.in-Some.ensures in
    copied_at c.args.work.now _ c.args.from c.args.to _ _ f.0 f.1 s.0 s.1 c.slide.ensures

pub returns-in-None : goal.returns-in-None
returns-in-None c =
    let s = c.in-Some.ensures in
    cleared_at c.args.work.now c.fill.new.self c.args.to c.in-Some.start s.0 s.1 (c.fill.ensures.after (λ y e. e))
    ∙ ap (store_of c.args.work.now c.args.to) (unloaded c.args.work.now c.args.from c.in-None.ensures)

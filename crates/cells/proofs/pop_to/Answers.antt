use Rattle.std.proofs.Common.{refl}
use Rattle.cells.proofs.CellLaws.{pop_done, unstored}
use Rattle.cells.proofs.pop_to.Goals as goal

pub returns-in-Some : goal.returns-in-Some
returns-in-Some c =
    let h = c.in-Some.ensures in
    pop_done c.args.work.now c.args.k c.slide.new.work _ (rw h.0 at c.slide.ensures) (rw h.0 refl) h.1

pub returns-in_default : goal.returns-in_default
returns-in_default c = unstored c.args.work.now _ c.args.k c.in_default.ensures

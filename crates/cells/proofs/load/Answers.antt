use Rattle.std.proofs.Common.{◌<◌, ◌∙◌, length, arith}
use Rattle.cells.proofs.CellLaws.{first_loaded, unloaded}
use Rattle.cells.proofs.load.Goals as goal

pub returns-in-Some : goal.returns-in-Some
returns-in-Some c =
    let h = c.in-Some.ensures.cases in h.same ∙ first_loaded c.args.work.now h.enough

pub returns-in-None : goal.returns-in-None
returns-in-None c =
    let h : length c.args.work.now < 16 = c.in-None.ensures.cases in unloaded c.args.work.now 0 (omega arith)

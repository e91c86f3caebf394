-- A row that stands there is the table of its words.
use Rattle.std.proofs.Common.{◌∙◌}
use Rattle.labels.proofs.RowLaws.{row_whole}
use Rattle.labels.proofs.sets_of.Goals as goal

pub returns-in-Some : goal.returns-in-Some
returns-in-Some c = let e = c.in-Some.ensures.cases in e.same ∙ row_whole c.args.words.now e.enough

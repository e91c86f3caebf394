-- The end of the line stands there and ends the text, or it doesn't.
use Rattle.std.proofs.Common.{arith}
use Rattle.std.proofs.lemmas.Grind.{common_steps}
use Rattle.desk.proofs.Fields.{closed_past, closed_other, closed_here}
use Rattle.desk.proofs.closes.Goals as goal

pub returns-then-s-p-eq10 : goal.returns-then-s-p-eq10
returns-then-s-p-eq10 c = grind (arith, common_steps, closed_here c.args.s.now c.args.p)

pub returns-else-s-p-eq10 : goal.returns-else-s-p-eq10
returns-else-s-p-eq10 c =
    grind (arith, common_steps, closed_past c.args.s.now c.args.p, closed_other c.args.s.now c.args.p)

use Rattle.std.proofs.Common.{ap}
use Rattle.sets.specs.Sets.{union}
use Rattle.sets.proofs.SetLaws.{shl_one}
use Rattle.sheet.proofs.powers.with.Goals as goal

pub returns-then-held : goal.returns-then-held
unfolding union
returns-then-held c = let a = c.args in rw c.if-held.true (ap (union a.powers) (shl_one 64 a.p c.requires))

use Rattle.std.proofs.Common.{refl}
use Rattle.logic.specs.Booleans.{both}
use Rattle.memory.proofs.values.pair_of.Goals as goal

pub returns-then-first : goal.returns-then-first
unfolding both
returns-then-first c = rw c.if-first.true refl

pub returns-else-first : goal.returns-else-first
unfolding both
returns-else-first c = rw c.if-first.false refl

use mathlib.Core.Path.{refl}
use Rattle.sets.specs.Sets.{union}
use Rattle.members.proofs.join.Goals as goal

pub returns : goal.returns
unfolding union
returns c = refl

use Rattle.std.proofs.Common.{refl}
use Rattle.parts.specs.Feeding.{beginning}
use Rattle.parts.proofs.State.new.Goals as goal

pub returns : goal.returns
unfolding beginning
returns c = refl

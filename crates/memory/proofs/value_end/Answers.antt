use Rattle.memory.proofs.WalkLaws.{walk_end}
use Rattle.memory.proofs.value_end.Goals as goal

pub returns : goal.returns
returns c = walk_end _ _ _ c.value_at.ensures

use Rattle.members.specs.Internal.Members.{integrity_member}
use Rattle.members.proofs.integrity.Goals as goal

pub returns : goal.returns
unfolding integrity_member
returns c = c.alone.ensures

-- At first all members are to be joined, to bottom.
use Rattle.members.specs.Internal.Members.{join_up_to}
use Rattle.members.proofs.WalkLaws.{joined_of}
use Rattle.members.proofs.joined.Goals as goal

pub loop-p-init : goal.loop-p-init
unfolding join_up_to
loop-p-init c =
    rw (c.into_iter-p-iterator.ensures.into_iter_gives, c.bottom-out.ensures, c.everyone.ensures)
    (joined_of c.args.table.now c.args.members)

-- What is to be joined from here gives the join of all.
use mathlib.Core.Path.{◌≡◌}
use Rattle.std.specs.List.{fold}
use Rattle.members.specs.Internal.Members.{members_of, join_in}
use Rattle.members.proofs.WalkLaws.{joins}
use Rattle.members.proofs.joined.Given as goal

abbrev pub invariant-loop-p : goal.invariant-loop-p
invariant-loop-p l = fold (joins l.table) l.out (members_of l.p-iterator.rest) ≡ join_in l.table l.fn.members

-- The tests from here on give the test of all.
use mathlib.Core.Path.{◌≡◌}
use Rattle.std.specs.List.{list_all}
use Rattle.logic.specs.Booleans.{both}
use Rattle.members.specs.Internal.Members.{members_of, confidentiality_flows}
use Rattle.members.proofs.ConfidentialityLaws.{label_passes}
use Rattle.members.proofs.confidentiality_flows.Given as goal

abbrev pub invariant-loop-p : goal.invariant-loop-p
invariant-loop-p l = both l.all (list_all (label_passes l.table l.upper) (members_of l.p-iterator.rest))
    ≡ confidentiality_flows l.table l.fn.members l.fn.l

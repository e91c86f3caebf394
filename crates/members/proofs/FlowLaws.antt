-- How much of a label flows.
use mathlib.Core.Path.{◌≡◌}
use mathlib.Core.Bool.{true}
use mathlib.Core.List.{List}
use Prim.Native.Nat.{ℕ}
use Rattle.labels.proofs.PartLaws.{c_mono}
use Rattle.members.specs.Internal.Members.{whole_flows, confidentiality_flows}

-- a label that is at or below another has its C at or below that one's
pub whole_confidentiality : (t : List ℕ) (m l : ℕ) → whole_flows t m l ≡ true → confidentiality_flows t m l ≡ true
unfolding whole_flows confidentiality_flows
whole_confidentiality t m l = c_mono _ _

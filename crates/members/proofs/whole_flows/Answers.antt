use mathlib.Core.Path.{ap₂, ◌∙◌}
use Rattle.labels.specs.Labels.{below_of}
use Rattle.members.specs.Internal.Members.{whole_flows}
use Rattle.members.proofs.whole_flows.Goals as goal

pub returns : goal.returns
unfolding whole_flows
returns c = c.at_or_below.ensures ∙ ap₂ below_of c.joined.ensures c.label_of.ensures

-- The table of {o} for each owner o computes.
use Rattle.std.proofs.Common.{refl}
use Rattle.sets.specs.Sets.{single, tab}
use Rattle.labels.specs.Labels.{own, confidentiality_of}
use Rattle.labels.proofs.Label.confidentiality.Goals as goal

pub returns : goal.returns
unfolding confidentiality_of own single tab
returns c = refl

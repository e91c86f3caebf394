-- The table of {o} for each owner o computes.
use Rattle.std.proofs.Common.{refl}
use Rattle.sets.specs.Sets.{single, tab}
use Rattle.labels.specs.Labels.{own, bottom_of}
use Rattle.labels.proofs.Label.bottom.Goals as goal

pub returns : goal.returns
unfolding bottom_of own single tab
returns c = refl

use Rattle.std.proofs.Common.{arith}
use Rattle.std.proofs.lemmas.Grind.{common_steps}
use Rattle.labels.specs.Internal.Tables.{label_at}
use Rattle.labels.specs.Labels.{writes_of}
use Rattle.sheet.specs.Internal.Tables.{label_in, writes_in}
use Rattle.sheet.proofs.writes.Goals as goal

pub returns : goal.returns
unfolding writes_in label_in label_at writes_of
returns c = grind (arith, common_steps)

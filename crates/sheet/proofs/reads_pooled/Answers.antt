use Rattle.std.proofs.Common.{arith}
use Rattle.std.proofs.lemmas.Grind.{common_steps}
use Rattle.labels.specs.Internal.Tables.{label_at}
use Rattle.labels.specs.Labels.{reads_pooled_of}
use Rattle.sheet.specs.Internal.Tables.{label_in}
use Rattle.sheet.proofs.reads_pooled.Goals as goal

pub returns : goal.returns
unfolding label_in label_at reads_pooled_of
returns c = grind (arith, common_steps)

use Rattle.std.proofs.Common.{arith}
use Rattle.std.proofs.lemmas.Grind.{common_steps}
use Rattle.labels.specs.Labels.{reads_under}
use Rattle.labels.proofs.SoleLaws.{meets_sole}
use Rattle.sheet.specs.Internal.Tables.{reads_in}
use Rattle.sheet.proofs.reads.Goals as goal

pub returns-in-Pooled : goal.returns-in-Pooled
unfolding reads_in reads_under
returns-in-Pooled c = grind (arith, common_steps)

pub returns-in-Alone : goal.returns-in-Alone
unfolding reads_in reads_under
returns-in-Alone c = grind (arith, common_steps, meets_sole)

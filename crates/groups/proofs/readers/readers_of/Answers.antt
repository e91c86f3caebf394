-- By the rule that is found.
use Rattle.groups.proofs.ReaderLaws.{pooled_sets, alone_sets}
use Rattle.groups.proofs.readers.readers_of.Goals as goal

pub returns-in-Pooled : goal.returns-in-Pooled
returns-in-Pooled c = pooled_sets _ c.rule.ensures _ c.in-Pooled.is c.label_of-label.ensures

pub returns-in-Alone : goal.returns-in-Alone
returns-in-Alone c = alone_sets _ c.rule.ensures _ c.in-Alone.is c.sole_readers.ensures

use Rattle.std.proofs.Common.{arith, rules}
use Rattle.sets.specs.Sets.{width}
use Rattle.groups.proofs.PastLaws.{past_bound}
use Rattle.groups.specs.Internal.Walk.{past_holders}
use Rattle.sets.specs.Sets.{union}
use Rattle.groups.proofs.smallest.past_holders.Goals as goal

pub overflow_add-result : goal.overflow_add-result
unfolding past_holders union
overflow_add-result c = omega (arith, past_bound width c.args.group c.requires.0 c.requires.1)

pub returns : goal.returns
unfolding past_holders union
returns c = search rules

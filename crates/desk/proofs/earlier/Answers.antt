use borrow.Author.Tests.{lt-ltb, le-ltb}
use Rattle.desk.specs.Numbers.{earlier}
use Rattle.desk.proofs.earlier.Goals as goal

pub returns-then-rank : goal.returns-then-rank
unfolding earlier
returns-then-rank c = rw (← c.rank.ensures, ← c.rank-2.ensures, lt-ltb _ _ c.if-rank.true)

pub returns-else-rank : goal.returns-else-rank
unfolding earlier
returns-else-rank c = rw (← c.rank.ensures, ← c.rank-2.ensures, le-ltb _ _ c.if-rank.false)

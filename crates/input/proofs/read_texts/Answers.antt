-- Nothing is fed at first; what a turn feeds comes after what was fed before it.
use Rattle.std.proofs.Common.{[]}
use Rattle.parts.specs.Feeding.{fed}
use Rattle.input.proofs.Inputs.{after_more}
use Rattle.input.proofs.read_texts.Goals as goal

pub loop-init : goal.loop-init
unfolding fed
loop-init g c = ([], rw c.new-state.ensures)

pub loop-preserved : goal.loop-preserved
loop-preserved g c = after_more _ _ _ _ c.loop.invariant c.feed_some.ensures

pub returns-then-not-feed_some : goal.returns-then-not-feed_some
returns-then-not-feed_some g c = after_more _ _ _ _ c.loop.invariant c.feed_some.ensures

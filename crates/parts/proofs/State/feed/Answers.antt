use borrow.Author.Rules.{rules}
use Rattle.std.proofs.Common.{sym, ◌∙◌}
use Rattle.parts.specs.Feeding.{held}
use Rattle.parts.proofs.Steps.{fed_more, fed_done}
use Rattle.parts.proofs.State.feed.Goals as goal

pub loop-b-preserved : goal.loop-b-preserved
loop-b-preserved c =
    let a = c.args in
    rw (c.step.ensures.value, c.step.ensures.buffer_after)
    (sym (fed_more a.last (held c.loop-b.self c.loop-b.buffer) a.chunk.now c.loop-b.b-index c.loop-b-test.true)
    ∙ c.loop-b.invariant)

pub returns : goal.returns
returns c =
    let a = c.args in
    rw (← c.loop-b.invariant)
    (rw (fed_done a.last (held c.loop-b.self c.loop-b.buffer) a.chunk.now c.loop-b.b-index c.loop-b-test.false)
    (search rules))

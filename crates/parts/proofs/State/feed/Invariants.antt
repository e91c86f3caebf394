-- Feeding the rest of the chunk is feeding the whole.
use Rattle.std.proofs.Common.{◌≡◌, drop}
use Rattle.parts.specs.Feeding.{held, fed}
use Rattle.parts.proofs.State.feed.Given as goal

abbrev pub invariant-loop-b : goal.invariant-loop-b
invariant-loop-b l =
    fed l.last (held l.self l.buffer) (drop l.b-index l.chunk) ≡ fed l.last (held l.fn.self l.fn.buffer) l.chunk

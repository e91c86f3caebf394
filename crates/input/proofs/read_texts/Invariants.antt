-- what was fed so far is one input
use Rattle.parts.specs.Feeding.{held, beginning}
use Rattle.input.specs.Input.{After}
use Rattle.input.proofs.read_texts.Given as goal

abbrev pub invariant-loop : goal.invariant-loop
invariant-loop g l = After l.last (held beginning l.fn.buffer) (held l.state l.buffer)

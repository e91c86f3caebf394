use Rattle.std.proofs.Common.{arith}
use Rattle.memory.proofs.WalkLaws.{number_past, number_there}
use Rattle.memory.proofs.values.number_at.Goals as goal

pub returns-then-words-at : goal.returns-then-words-at
returns-then-words-at g c labels f k = number_past _ _ _ f (omega arith)

pub returns : goal.returns
returns g c labels f k = number_there _ _ _ f _ c.if-words-at.false (k _ _ c.passes.ensures)

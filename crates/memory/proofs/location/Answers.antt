use Rattle.memory.proofs.RefusalLaws.{part_cell}
use Rattle.memory.proofs.location.Goals as goal

pub returns : goal.returns
returns c = part_cell c.args.memory.now c.args.x

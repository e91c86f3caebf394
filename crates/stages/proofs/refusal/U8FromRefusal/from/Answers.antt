use Rattle.stages.proofs.StageLaws.{place_number}
use Rattle.stages.proofs.refusal.U8FromRefusal.from.Goals as goal

pub returns : goal.returns
returns c = place_number c.args.refusal

use Rattle.std.proofs.Common.{◌-◌, length}
use Rattle.memory.proofs.masks.+mask_at.Given as goal

abbrev pub decreases-mask_at : goal.decreases-mask_at
decreases-mask_at l = length l.source.now.words.now - l.at

use Rattle.std.proofs.Common.{◌-◌, length}
use Rattle.memory.proofs.+has_type.Given as goal

abbrev pub decreases-has_type : goal.decreases-has_type
decreases-has_type l = length l.words.now - l.at

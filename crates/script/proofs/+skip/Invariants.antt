-- `script::skip`: each call starts at a later row than the one that made it.
use Rattle.script.specs.Internal.Code.{rows_left}
use Rattle.script.proofs.+skip.Given as goal

abbrev pub decreases-skip : goal.decreases-skip
decreases-skip l = rows_left l.code.now l.at

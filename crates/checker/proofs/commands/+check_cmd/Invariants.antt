-- The rows left.
use Rattle.script.specs.Internal.Code.{rows_left}
use Rattle.checker.proofs.commands.+check_cmd.Given as goal

abbrev pub decreases-check_cmd : goal.decreases-check_cmd
decreases-check_cmd l = rows_left l.code.now l.at

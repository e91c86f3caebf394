-- Each call stands at a later row than the one that made it.
use Rattle.script.specs.Internal.Code.{rows_left}
use Rattle.script_text.proofs.scan.+scan_cmd.Given as goal

abbrev pub decreases-scan_cmd : goal.decreases-scan_cmd
decreases-scan_cmd l = rows_left l.code.now l.at

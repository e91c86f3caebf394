-- Each call stands at a later row than the one that made it.
use Rattle.script.specs.Internal.Code.{rows_left}
use Rattle.script_text.proofs.scan.+scan_expr.Given as goal

abbrev pub decreases-scan_expr : goal.decreases-scan_expr
decreases-scan_expr l = rows_left l.code.now l.at

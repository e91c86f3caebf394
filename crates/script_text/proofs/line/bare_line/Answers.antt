-- `script_text::line::bare_line` meets its contract.
use Rattle.script_text.proofs.FoundLaws.{placed-bare}
use Rattle.script_text.proofs.line.bare_line.Goals as goal

pub returns-in_err-end : goal.returns-in_err-end
returns-in_err-end c l e = rw (placed-bare, ← c.in_err-end.ensures) c.from_residual.ensures

pub returns : goal.returns
returns c l e = rw (placed-bare, ← c.in_ok-end.ensures, e)

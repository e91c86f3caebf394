use Rattle.sheet_text.proofs.FoundLaws.{placed-label_rest}
use Rattle.sheet_text.proofs.line.label_rest.Goals as goal

pub returns-in_err-line_end : goal.returns-in_err-line_end
returns-in_err-line_end c = rw (placed-label_rest, ← c.in_err-line_end.ensures) c.from_residual.ensures

pub returns : goal.returns
returns c = rw (placed-label_rest, ← c.in_ok-line_end.ensures)

-- `text::last_number` meets its contract.
use Rattle.text.proofs.Fields.{placed-last_number}
use Rattle.text.proofs.last_number.Goals as goal

pub returns-in_err-v : goal.returns-in_err-v
returns-in_err-v c = rw (placed-last_number, ← c.in_err-v.ensures) c.from_residual.ensures

pub returns-in_err-line_end : goal.returns-in_err-line_end
returns-in_err-line_end c =
    rw (placed-last_number, ← c.in_ok-v.ensures, ← c.in_err-line_end.ensures) c.from_residual-in_err-line_end.ensures

pub returns : goal.returns
returns c = rw (placed-last_number, ← c.in_ok-v.ensures, ← c.in_ok-line_end.ensures)

-- `script_text::line::two_operands` meets its contract.
use Rattle.script_text.proofs.FoundLaws.{placed-two}
use Rattle.script_text.proofs.line.two_operands.Goals as goal

pub returns-in_err-a : goal.returns-in_err-a
returns-in_err-a c f e = rw (placed-two, ← c.in_err-a.ensures) c.from_residual.ensures

pub returns-in_err-b : goal.returns-in_err-b
returns-in_err-b c f e = rw (placed-two, ← c.in_ok-a.ensures, ← c.in_err-b.ensures) c.from_residual-in_err-b.ensures

pub returns : goal.returns
returns c f e = rw (placed-two, ← c.in_ok-a.ensures, ← c.in_ok-b.ensures, e)

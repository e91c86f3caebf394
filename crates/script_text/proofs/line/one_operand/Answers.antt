-- `script_text::line::one_operand` meets its contract.
use Rattle.script_text.proofs.FoundLaws.{placed-one}
use Rattle.script_text.proofs.line.one_operand.Goals as goal

pub returns-in_err-a : goal.returns-in_err-a
returns-in_err-a c f e = rw (placed-one, ← c.in_err-a.ensures) c.from_residual.ensures

pub returns : goal.returns
returns c f e = rw (placed-one, ← c.in_ok-a.ensures, e)

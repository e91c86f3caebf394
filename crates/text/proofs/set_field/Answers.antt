-- `text::set_field` meets its contract.
use Rattle.text.proofs.Fields.{placed-set_field}
use Rattle.text.proofs.set_field.Goals as goal

pub returns-in_err-byte : goal.returns-in_err-byte
returns-in_err-byte c = rw (placed-set_field, ← c.in_err-byte.ensures) c.from_residual.ensures

pub returns : goal.returns
returns c = rw (placed-set_field, ← c.in_ok-byte.ensures) c.set.ensures

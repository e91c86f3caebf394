use Rattle.sheet_text.proofs.FoundLaws.{placed-policy_rest}
use Rattle.sheet_text.proofs.line.policy_rest.Goals as goal

pub returns-in_err-owner : goal.returns-in_err-owner
returns-in_err-owner c = rw (placed-policy_rest, ← c.in_err-owner.ensures) c.from_residual.ensures

pub returns-in_err-readers : goal.returns-in_err-readers
returns-in_err-readers c =
    rw (placed-policy_rest, ← c.in_ok-owner.ensures, ← c.in_err-readers.ensures) c.from_residual-in_err-readers.ensures

pub returns-in_err-writers : goal.returns-in_err-writers
returns-in_err-writers c =
    rw (
      placed-policy_rest,
      ← c.in_ok-owner.ensures,
      ← c.in_ok-readers.ensures,
      ← c.in_err-writers.ensures,
    )
    c.from_residual-in_err-writers.ensures

pub returns-in_err-line_end : goal.returns-in_err-line_end
returns-in_err-line_end c =
    rw (
      placed-policy_rest,
      ← c.in_ok-owner.ensures,
      ← c.in_ok-readers.ensures,
      ← c.in_ok-writers.ensures,
      ← c.in_err-line_end.ensures,
    )
    c.from_residual-in_err-line_end.ensures

pub returns : goal.returns
returns c =
    rw (
      placed-policy_rest,
      ← c.in_ok-owner.ensures,
      ← c.in_ok-readers.ensures,
      ← c.in_ok-writers.ensures,
      ← c.in_ok-line_end.ensures,
    )

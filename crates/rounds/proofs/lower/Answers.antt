use Rattle.std.proofs.Common.{sym, ap}
use Rattle.stages.specs.Refusals.{answer_number}
use Rattle.rounds.proofs.LowerLaws.{lower_left, lower_right, min_number}
use Rattle.rounds.proofs.lower.Goals as goal

pub returns-in_default : goal.returns-in_default
returns-in_default c = sym (lower_right _ _ (ap answer_number c.in_default.is))

pub returns-in_default-b : goal.returns-in_default-b
returns-in_default-b c = rw c.in-Err.is (sym (lower_left _ _ (ap answer_number c.in_default-b.is)))

pub returns : goal.returns
returns c =
    rw (c.min.ensures, c.in-Err.is, c.in-Err-b.is) (min_number _ _)

-- What was read is numbered by the checker's verdict; where nothing was, there is no script.
use Rattle.std.proofs.Common.{◌≡◌, ◌∙◌, refl, rules}
use Rattle.checker.specs.Verdict.{verdict_number}
use Rattle.stages.specs.Refusals.{answer_number}
use Rattle.stages.proofs.StageLaws.{numbers_none, numbers_read}
use Rattle.stages.proofs.number_of.Goals as goal

pub returns-in_default : goal.returns-in_default
returns-in_default c =
    rw c.into.ensures (numbers_none _ _ _ _ _ c.read.ensures.decoded refl c.in_default.is c.read.ensures.refused)

pub returns : goal.returns
unfolding verdict_number
returns c =
    let e : answer_number c.map_err.result ≡ verdict_number c.check-verdict.result.verdict = search rules in
    rw (c.number.ensures ∙ e)
    (numbers_read _ _ _ _ _ c.read.ensures.decoded (rw c.in-Some.is c.rows-lines.ensures) _ c.in-Some.is _
    c.check-verdict.ensures.0)

use Rattle.std.proofs.Common.{◌≡◌, refl, sym, ap, ◌∙◌, arith}
use Rattle.std.specs.Prelude.{Some, None}
use Rattle.checker.specs.Verdict.{verdict_number}
use Rattle.stages.specs.declared.refusal.Refusal.TheVariants.{ScriptMalformed}
use Rattle.stages.proofs.StageLaws.{passed_on, handed_on, accepts_none, accepts_ill, accepts_well}
use Rattle.stages.proofs.accept.Goals as goal

pub returns-in_err-read : goal.returns-in_err-read
returns-in_err-read c =
    let n : c.read.result ≡ None = grind arith in
    let m : c.in_err-read.field-0.0 ≡ ScriptMalformed = grind arith in
    rw (passed_on _ _ c.from_residual.ensures, m)
    (accepts_none _ _ _ _ _ c.read.ensures.decoded refl n c.read.ensures.refused)

pub returns-in_err-found : goal.returns-in_err-found
returns-in_err-found c =
    let q : c.read.result ≡ Some c.in_ok-read.read = grind arith in
    let p = handed_on _ _ c.from_residual-in_err-found.ensures in
    rw p.1
    (accepts_ill _ _ _ _ _ c.read.ensures.decoded (rw q c.rows.ensures) _ q _ c.check-found.ensures.0 p.0
    (p.2 ∙ sym (ap verdict_number c.in_err-found.was)))

pub returns : goal.returns
unfolding verdict_number
returns c =
    let q : c.read.result ≡ Some c.in_ok-read.read = grind arith in
    accepts_well _ _ _ _ _ c.read.ensures.decoded (rw q c.rows.ensures) _ q _ c.check-found.ensures.0
    (sym (ap verdict_number c.in_ok-found.was)) _ c.check-found.ensures.1

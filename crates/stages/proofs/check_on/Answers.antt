use Rattle.stages.proofs.StageLaws.{passed_on}
use Rattle.stages.proofs.check_on.Goals as goal

pub returns-in_err-accept : goal.returns-in_err-accept
returns-in_err-accept c =
    let n = c.in_err-accept.ensures in
    rw (passed_on _ _ c.from_residual.ensures) (record { checked = n.numbered; in_table = n.in_table })

pub returns : goal.returns
returns c = let n = c.in_ok-accept.ensures in record { checked = n.numbered; in_table = n.in_table }

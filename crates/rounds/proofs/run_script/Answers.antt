use Rattle.std.proofs.Common.{◌≡◌, ap, ◌∙◌, rules, ℕ, ◌*◌, take}
use Rattle.stages.proofs.StageLaws.{lines_read}
use Rattle.rounds.proofs.RunLaws.{runs_script}
use Rattle.rounds.proofs.run_script.Goals as goal

pub returns : goal.returns
returns c =
    let n : c.map_or-count.result ≡ lines_read c.decode.result = search rules in
    runs_script _ _ _ _ c.decode.ensures.decoded _ _ _ _ _
    (c.rows-rows.ensures ∙ ap (λ (k : ℕ). take (k * 3) c.decode.new.code) n) c.run_accepted.ensures

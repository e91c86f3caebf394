-- `text::write::width` meets its contract.
use Rattle.std.proofs.Common.{◌≡◌, ◌+◌, ◌∙◌, rules}
use Rattle.std.specs.Option.{option_map_or}
use Rattle.text.proofs.Writings.{length_by_log}
use Rattle.text.proofs.write.width.Goals as goal

pub returns : goal.returns
returns c =
    let n : c.map_or.result ≡ option_map_or (λ n. n + 1) c.checked_ilog10.result 1 = search rules in
    let log = c.checked_ilog10.ensures in
    n ∙ length_by_log c.checked_ilog10.result c.args.v log.none log.power_le log.next_power_gt

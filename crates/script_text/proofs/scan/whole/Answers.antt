-- `script_text::scan::whole` meets its contract.
use Rattle.std.proofs.Common.{◌≡◌, false, leb, length, rules}
use Rattle.std.specs.Option.{option_map_or}
use Rattle.script_text.proofs.ReadLaws.{whole_of, whole_unbalanced}
use Rattle.script_text.proofs.scan.whole.Goals as goal

pub returns-then-balanced : goal.returns-then-balanced
returns-then-balanced c =
    let e : c.is_some_and.result ≡ option_map_or (λ n. leb (length c.args.code.now) n) c.scan_cmd.result false =
    search rules in
    rw e (whole_of _ _ _ c.scan_cmd.ensures)

pub returns-else-balanced : goal.returns-else-balanced
returns-else-balanced c = rw c.if-balanced.false (whole_unbalanced _ _ _ c.balanced.ensures c.if-balanced.false)

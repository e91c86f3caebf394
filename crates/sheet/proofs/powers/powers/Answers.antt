use Rattle.std.proofs.Common.{refl, ◌≡◌, ap, ◌∙◌, arith}
use Rattle.sheet.specs.Internal.Powers.{powers_up_to, labels_held, powers_in}
use Rattle.sheet.proofs.PowerLaws.{up_to_more, held_least}
use Rattle.sheet.proofs.powers.powers.Goals as goal

pub loop-l-init : goal.loop-l-init
unfolding powers_up_to
loop-l-init c = refl

pub loop-l-preserved : goal.loop-l-preserved
loop-l-preserved c =
    up_to_more _ _ _ (omega arith) c.writes.ensures c.reads.ensures c.loop-l.invariant c.with-out.ensures
    c.with-out-in-loop-l.ensures

pub returns : goal.returns
unfolding powers_in
returns c =
    let t = c.args.table.now in
    let e : c.loop-l.l ≡ labels_held t = omega (arith, c.labels.ensures, held_least t) in
    c.loop-l.invariant ∙ ap (powers_up_to t c.args.group) e

use Rattle.std.proofs.Common.{◌+◌, ◌-◌, ◌*◌, refl, rules, arith}
use Rattle.std.proofs.lemmas.Slice.{put_mid-paste}
use Rattle.memory.specs.Memory.{cells}
use Rattle.memory.proofs.ShownLaws as laws
use Rattle.memory.proofs.view_each.Goals as goal

pub loop-x-init : goal.loop-x-init
unfolding cells
loop-x-init c = refl

pub location-requires : goal.location-requires
location-requires c =
    omega (arith, laws.whole_in c.args.table.now c.args.memory.now c.requires.0, c.locations-x-end.ensures)

pub loop-x-preserved : goal.loop-x-preserved
loop-x-preserved c =
    let a = c.args in
    laws.view_more a.table.now a.memory.now c.requires.0 a.group c.loop-x.x a.shown.now _ _ _ c.loop-x.invariant
    (omega (arith, c.locations-x-end.ensures)) (rw c.location.ensures at c.location_view-cell.ensures)
    (put_mid-paste (16 * c.loop-x.x) (16 * c.loop-x.x + 16 - 16 * c.loop-x.x) c.loop-x.shown _
    c.location_view-cell.result 16 c.copy_from_slice.ensures.after (omega arith) (search rules))

pub returns : goal.returns
returns c =
    let a = c.args in
    laws.view_all a.table.now a.memory.now a.group a.shown.now _ c.loop-x.x c.loop-x.invariant
    (omega (arith, c.locations-x-end.ensures)) c.requires.1

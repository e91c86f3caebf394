use Rattle.std.proofs.Common.{rules, refl, arith}
use Rattle.scripts.proofs.Places.{TextAt, text_at, first_starts, first_kept, next_starts, next_kept}
use Rattle.scripts.proofs.Places.{parted_all, parted_full}
use Rattle.scripts.proofs.part.Goals as goal

-- the script that starts here
here : (c : goal.After-end_of-end) → TextAt c.args.text.now c.loop-count.at c.end_of-end.result
here c = text_at _ _ _ c.if-text-at.false c.end_of-end.ensures

pub loop-count-init : goal.loop-count-init
loop-count-init c = record { sized = refl; starts = first_starts _; kept = first_kept _ }

pub returns-then-text-at : goal.returns-then-text-at
returns-then-text-at c =
    let i = c.loop-count.invariant in
    parted_all _ _ c.loop-count.at i.starts c.if-text-at.true c.loop-count.ends (omega arith) i.kept

pub overflow_add-at : goal.overflow_add-at
overflow_add-at c = omega (arith, (here c).inside, c.well_formed)

pub loop-count-preserved : goal.loop-count-preserved
loop-count-preserved c = record {
  sized = search rules;
  starts = next_starts c.loop-count.invariant.starts (here c);
  kept = next_kept c.loop-count.invariant.starts (here c) _ c.loop-count.invariant.kept;
}

pub returns : goal.returns
returns c =
    let i = c.loop-count.invariant in
    parted_full _ _ c.loop-count.at i.starts c.loop-count.ends _ c.from-more.ensures i.sized (omega arith) i.kept

use Rattle.std.proofs.Common.{get_or, refl, arith}
use Rattle.scripts.proofs.Places.{TextAt, first_starts, next_starts}
use Rattle.rounds.proofs.RunLaws.{script_at, over, goes_first, goes_on_lem, goes_over}
use Rattle.rounds.proofs.run_each.Goals as goal
use Rattle.rounds.proofs.run_each.Goals.{In-loop-i}

pub loop-i-init : goal.loop-i-init
loop-i-init c = record { starts = first_starts _; goes = goes_first _ _ _ _ _ _ c.args.scripts.now.parted.few }

-- the script that starts here
here : (c : In-loop-i)
    → TextAt c.args.scripts.now.text.now c.loop-i.at (get_or c.args.scripts.now.ends.now c.loop-i.i 0)
here c = script_at _ _ _ _ c.args.scripts.now.parted c.loop-i.invariant.starts _ c.loop-i-test.true refl

pub slice_bounds-turn-count : goal.slice_bounds-turn-count
slice_bounds-turn-count c = omega (arith, (here (goal.at.slice_bounds-turn-count c).In-loop-i).rises)

pub slice_bounds-turn-start : goal.slice_bounds-turn-start
slice_bounds-turn-start c =
    let p = here (goal.at.slice_bounds-turn-start c).In-loop-i in omega (arith, p.rises, p.inside)

pub slice_bounds-turn-end : goal.slice_bounds-turn-end
slice_bounds-turn-end c =
    let p = here (goal.at.slice_bounds-turn-end c).In-loop-i in omega (arith, p.rises, p.inside)

pub loop-i-preserved : goal.loop-i-preserved
loop-i-preserved c =
    let p = here (goal.at.loop-i-preserved c).In-loop-i in
    record {
      starts = next_starts c.loop-i.invariant.starts p;
      goes = goes_on_lem _ _ _ _ _ _ _ _ _ _ _ _ _ c.loop-i.invariant.goes p c.turn-ran.ensures;
    }

pub returns : goal.returns
returns c =
    let h = c.loop-i.invariant in
    goes_over _ _ _ _ _ _ _ _ _ _ _ h.goes
    (over _ _ _ _ c.args.scripts.now.parted h.starts (omega (arith, c.loop-i-test.false, c.loop-i.auto.i-end)))

-- Each group that is given comes with its place, and as many are given as there are.
use Rattle.std.proofs.Common.{ℕ, ◌≤◌, List, [], ◌∷◌, length, set, arith, ap, sym, ◌∙◌, length-append}
use Rattle.std.proofs.Math.Seq.{paste}
use Rattle.std.proofs.lemmas.Iterator.{YieldsList-from_take}
use Rattle.std.proofs.lemmas.Iterator.Consumers.{YieldsList-from_first, YieldsList-from_enumerate}
use Rattle.std.proofs.lemmas.Iterator.Consumers.{YieldsList-turn, YieldsList-end}
use Rattle.std.proofs.lemmas.List.Edits.{paste_none}
use Rattle.groups.specs.Internal.Smallest.{to_come}
use Rattle.groups.proofs.LoopLaws.{placed_more, placed_all, all_given}
use Rattle.groups.proofs.list.Goals as goal

pub loop-i-init : goal.loop-i-init
loop-i-init c = paste_none c.args.groups.now 0 (to_come c.args.smallest)

pub loop-i-preserved : goal.loop-i-preserved
loop-i-preserved c =
    let n = c.args.found in
    let before = c.args.groups.now in
    let all = to_come c.args.smallest in
    let done = c.loop-i.yielded in
    let room : length all ≤ length before = omega (arith, c.requires.0, c.requires.1) in
    let turn =
    YieldsList-turn
    (YieldsList-from_take n (YieldsList-from_enumerate (YieldsList-from_first (λ x. x) to_come all cc) cc) cc)
    done c.loop-i.i-iterator c.loop-i.yielded_by c.next.result c.next.new.self (c.in-Some.i, c.in-Some.group)
    c.in-Some.is c.next.ensures.steps in
    ap (λ (xs : List ℕ). set xs c.in-Some.i c.in-Some.group) c.loop-i.invariant
    ∙ placed_more before all room n (length done) _ _ c.requires.0 turn.0 turn.1
    ∙ ap (paste before 0 all) (sym (length-append done ((c.in-Some.i, c.in-Some.group) ∷ [])))

pub returns : goal.returns
returns c =
    let n = c.args.found in
    let before = c.args.groups.now in
    let all = to_come c.args.smallest in
    let room : length all ≤ length before = omega (arith, c.requires.0, c.requires.1) in
    let over =
    YieldsList-end
    (YieldsList-from_take n (YieldsList-from_enumerate (YieldsList-from_first (λ x. x) to_come all cc) cc) cc)
    c.loop-i.yielded c.loop-i.i-iterator c.loop-i.yielded_by c.next.result c.next.new.self c.in-None.is
    c.next.ensures.steps in
    c.loop-i.invariant ∙ ap (paste before 0 all) (all_given before all room n _ c.requires.0 over.1)
    ∙ placed_all before all room

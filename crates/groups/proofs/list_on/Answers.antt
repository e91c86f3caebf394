-- The groups are counted, and then as many are written.
use mathlib.Core.Logic.{inl}
use Rattle.std.proofs.Common.{◌≡◌, ℕ, ◌+◌, ◌≤◌, ◌<◌, ◌^◌, List, ◌++◌, length, drop, rules, arith, ap, refl, ◌∙◌}
use Rattle.std.proofs.lemmas.Iterator.Consumers.{YieldsList-from_first, count_from_yields_List}
use Rattle.groups.specs.Internal.Readers.{reads_by}
use Rattle.groups.specs.Internal.Smallest.{to_come}
use Rattle.groups.proofs.WalkLaws.{left_few}
use Rattle.groups.proofs.StageLaws.{Counted, lists_no_label, lists-few-places, lists_all}
use Rattle.groups.proofs.list_on.Goals as goal
use Rattle.groups.proofs.list_on.Goals.{After-below-smallest, After-count-found}

few : (c : After-below-smallest) → length (to_come c.below-smallest.result) ≤ c.everyone.result + 1
few c =
    omega (
      arith,
      ap length c.below-smallest.ensures,
      left_few (reads_by c.readers_of.result) (c.everyone.result + 1),
    )

as_many : (c : After-count-found) → c.count-found.result ≡ length (to_come c.below-smallest.result)
as_many c =
    count_from_yields_List c.below-smallest.result _ c.count-found.ensures.ran
    (YieldsList-from_first (λ x. x) to_come (to_come c.below-smallest.result) refl)

counted : (c : After-count-found)
    → Counted c.args.table.now c.args.l c.readers_of.result (c.everyone.result + 1) c.count-found.result
counted c = record {
  there = omega (arith, c.labels.ensures, c.if-labels-l.false);
  readers = c.readers_of.ensures;
  ends = ap (λ (k : ℕ). k + 1) c.everyone.ensures;
  count = as_many c ∙ ap length c.below-smallest.ensures;
}

pub returns-then-labels-l : goal.returns-then-labels-l
returns-then-labels-l c = lists_no_label _ _ _ (omega (arith, c.labels.ensures, c.if-labels-l.true))

pub count-found-requires-clause-fits : goal.count-found-requires-clause-fits
count-found-requires-clause-fits c = inl (omega (arith, few c, c.everyone.type_inv))

pub returns-then-groups-found : goal.returns-then-groups-found
returns-then-groups-found c =
    lists-few-places _ _ _ (counted (goal.at.returns-then-groups-found c).After-count-found) c.if-groups-found.true

pub list-requires : goal.list-requires
list-requires c =
    (as_many (goal.at.list-requires c).After-count-found, omega (arith, c.if-groups-found.false))

pub overflow_cast-result : goal.overflow_cast-result
overflow_cast-result c =
    let n = as_many (goal.at.overflow_cast-result c).After-count-found in
    let m = few (goal.at.overflow_cast-result c).After-below-smallest in
    let l : c.count-found.result < 2 ^ 32 = omega (arith, n, m, c.everyone.type_inv) in
    search rules

pub returns : goal.returns
returns c =
    lists_all _ _ _ (counted (goal.at.returns c).After-count-found) _ c.if-groups-found.false
    (c.list.ensures
    ∙ ap (λ (gs : List ℕ). gs ++ drop (length gs) c.args.groups.now) c.below-smallest.ensures)

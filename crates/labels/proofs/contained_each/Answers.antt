-- All pairs are tested: the test of the two rows, place by place.
use Rattle.std.proofs.Common.{ℕ, Bool, true, ◌&&◌, rules, tests, ◌∙◌}
use Rattle.std.proofs.lemmas.Iterator.{YieldsList-from_slice, YieldsList-from_zip}
use Rattle.std.proofs.lemmas.Iterator.Consumers.{fold_from_yields_List}
use Rattle.std.specs.List.{zip}
use Rattle.sets.specs.Sets.{within}
use Rattle.labels.specs.Labels.{owners}
use Rattle.labels.proofs.RowLaws.{fold_all, pairs_every}
use Rattle.labels.proofs.contained_each.Goals as goal

pub returns : goal.returns
returns c =
    let x = c.args.x.now in
    let y = c.args.y.now in
    fold_from_yields_List _ (λ (a : Bool) (p : ℕ × ℕ). a && within p.0 p.1) _ _ c.fold.ensures.ran
    (YieldsList-from_zip (YieldsList-from_slice x cc) (YieldsList-from_slice y cc))
    (λ a p b q k. search (rules, tests))
    ∙ fold_all (λ (p : ℕ × ℕ). within p.0 p.1) true (zip x y)
    ∙ pairs_every within owners x y (search rules) (search rules)

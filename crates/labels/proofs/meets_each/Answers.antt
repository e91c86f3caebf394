-- The chain tests the first n sets; past the last set there is an empty one, which no group meets.
use Rattle.std.proofs.Common.{length, take, rules, tests, sym, ap, ◌∙◌, arith}
use borrow.Author.Tests.{lt-leb}
use Rattle.std.proofs.Math.ListN.{get_or-eq_default}
use Rattle.std.proofs.lemmas.Iterator.{YieldsList-from_slice}
use Rattle.std.proofs.lemmas.Iterator.Search.{all_from_yields_List}
use Rattle.sets.specs.Sets.{meets}
use Rattle.sets.proofs.SetLaws.{meets_empty}
use Rattle.sets.proofs.Walks.{every_false}
use Rattle.labels.proofs.RowLaws.{all_every}
use Rattle.labels.proofs.meets_each.Goals as goal

pub returns-then-n-row : goal.returns-then-n-row
returns-then-n-row c =
    let a = c.args in
    all_from_yields_List (meets a.group) _ _ _ c.all.ensures.ran (YieldsList-from_slice (take a.n a.row.now) cc)
    (λ x b q k. search (rules, tests))
    ∙ all_every (meets a.group) a.n a.row.now c.if-n-row.true

pub returns-else-n-row : goal.returns-else-n-row
returns-else-n-row c =
    let a = c.args in
    lt-leb _ _ c.if-n-row.false
    ∙ sym (every_false a.n _ (length a.row.now) c.if-n-row.false
    (ap (meets a.group) (get_or-eq_default a.row.now 0 (omega arith)) ∙ meets_empty a.group))

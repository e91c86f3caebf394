-- The chain gathers the first n sets; past the last set there is an empty one.
use Rattle.std.proofs.Common.{length, take, rules, tests, sym, ◌∙◌, ap, arith}
use Rattle.std.proofs.Math.ListN.{get_or-eq_default}
use Rattle.std.proofs.lemmas.Iterator.{YieldsList-from_slice}
use Rattle.std.proofs.lemmas.Iterator.Consumers.{fold_from_yields_List, YieldsList-from_copied}
use Rattle.std.specs.List.{fold}
use Rattle.sets.specs.Sets.{intersection}
use Rattle.labels.proofs.RowLaws.{fold_common}
use Rattle.labels.proofs.SoleLaws.{common_none}
use Rattle.labels.proofs.common.Goals as goal

pub returns-then-n-row : goal.returns-then-n-row
returns-then-n-row c =
    let a = c.args in
    sym (common_none a.n _ (length a.row.now) c.if-n-row.true (get_or-eq_default a.row.now 0 (omega arith)))

pub returns : goal.returns
returns c =
    let a = c.args in
    let first = take a.n a.row.now in
    fold_from_yields_List _ intersection _ _ c.fold.ensures.ran
    (YieldsList-from_copied (YieldsList-from_slice first cc))
    (λ x s b q k. search (rules, tests))
    ∙ ap (λ all. fold intersection all first) c.everyone.ensures
    ∙ fold_common a.n a.row.now c.if-n-row.false

-- All readers are tested: the test of bottom's readers, place by place.
use Rattle.std.proofs.Common.{ℕ, Bool, true, ◌&&◌, ◌≡◌, length, rules, tests, ◌∙◌, sym}
use Rattle.std.proofs.lemmas.Iterator.{YieldsList-from_slice}
use Rattle.std.proofs.lemmas.Iterator.Consumers.{fold_from_yields_List}
use Rattle.sets.specs.Sets.{within}
use Rattle.labels.specs.Labels.{owners}
use Rattle.labels.proofs.EffectiveLaws.{bottom_below_c}
use Rattle.labels.proofs.RowLaws.{fold_all, row_every}
use Rattle.labels.proofs.Label.readers_within.Goals as goal

pub returns : goal.returns
returns c =
    let a = c.args in
    let r = a.self.readers in
    let long : length r ≡ owners = search rules in
    fold_from_yields_List _ (λ (b : Bool) (x : ℕ). b && within x a.all) _ _ c.fold.ensures.ran
    (YieldsList-from_slice r cc) (λ b x d q k. search (rules, tests))
    ∙ fold_all (λ (x : ℕ). within x a.all) true r
    ∙ row_every (λ (x : ℕ). within x a.all) r long
    ∙ sym (bottom_below_c a.all a.self)

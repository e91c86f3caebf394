-- All sets are tested: the test of the row, place by place.
use Rattle.std.proofs.Common.{ℕ, ◌≡◌, Bool, true, ◌&&◌, length, rules, tests, ◌∙◌}
use Rattle.std.proofs.lemmas.Iterator.{YieldsList-from_slice}
use Rattle.std.proofs.lemmas.Iterator.Consumers.{fold_from_yields_List}
use Rattle.sets.specs.Sets.{meets}
use Rattle.labels.specs.Labels.{owners}
use Rattle.labels.proofs.RowLaws.{fold_all, row_every}
use Rattle.groups.specs.Internal.Readers.{reads_by}
use Rattle.groups.proofs.readers.Readers.reads.Goals as goal

pub returns : goal.returns
unfolding reads_by
returns c =
    let g = c.args.group in
    let row = c.args.self.now.sets in
    let long : length row ≡ owners = search rules in
    fold_from_yields_List _ (λ (b : Bool) (x : ℕ). b && meets g x) _ _ c.fold.ensures.ran
    (YieldsList-from_slice row cc) (λ b x d q k. search (rules, tests))
    ∙ fold_all (meets g) true row
    ∙ row_every (meets g) row long

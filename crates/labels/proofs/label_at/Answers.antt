-- The two rows are those of the table.
use Rattle.std.proofs.Common.{ℕ, ◌+◌, List, get_or, drop, ap, ◌∙◌}
use Rattle.std.proofs.lemmas.List.{drop-drop}
use Rattle.sets.specs.Sets.{tab}
use Rattle.labels.specs.Labels.{owners}
use Rattle.labels.specs.Internal.Tables.{label_at}
use Rattle.labels.proofs.OrderLaws.{label_path}
use Rattle.labels.proofs.RowLaws.{row_tab}
use Rattle.labels.proofs.label_at.Goals as goal

pub returns : goal.returns
unfolding label_at
returns c =
    let a = c.args in
    let row = λ (words : List ℕ). tab owners (λ (o : ℕ). get_or words o 0) in
    label_path _ _
    (c.sets_of.ensures ∙ ap row c.words_at-words.ensures ∙ row_tab a.table.now a.at)
    (c.sets_of-2.ensures
    ∙ ap row (c.words_at.ensures ∙ ap (drop owners) c.words_at-words.ensures ∙ drop-drop owners a.at a.table.now)
    ∙ row_tab a.table.now (a.at + owners))

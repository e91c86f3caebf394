use Rattle.std.proofs.Common.{ℕ, List, get_or, ap, ◌∙◌}
use Rattle.sets.specs.Sets.{meets, every}
use Rattle.labels.proofs.RowLaws.{row_places}
use Rattle.labels.proofs.meets_at.Goals as goal

pub returns : goal.returns
returns c =
    let a = c.args in
    c.meets_each.ensures
    ∙ ap (λ (row : List ℕ). every a.n (λ (o : ℕ). meets a.group (get_or row o 0))) c.row_at.ensures
    ∙ ap (λ (f : ℕ → ℕ). every a.n (λ (o : ℕ). meets a.group (f o))) (row_places a.table.now a.at)

use Rattle.std.proofs.Common.{ℕ, List, get_or, ap, ◌∙◌}
use Rattle.labels.specs.Internal.Sole.{common_of}
use Rattle.labels.proofs.RowLaws.{row_places}
use Rattle.labels.proofs.common_at.Goals as goal

pub returns : goal.returns
returns c =
    let a = c.args in
    c.common.ensures
    ∙ ap (λ (row : List ℕ). common_of a.n (λ (o : ℕ). get_or row o 0)) c.row_at.ensures
    ∙ ap (common_of a.n) (row_places a.table.now a.at)

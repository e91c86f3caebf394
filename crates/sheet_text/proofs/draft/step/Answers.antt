use Rattle.std.proofs.Common.{sym, ◌∙◌}
use Rattle.sheet_text.proofs.DraftLaws.{line_holds, holds_any}
use Rattle.sheet_text.proofs.draft.step.Goals as goal

pub returns-in_err-next : goal.returns-in_err-next
returns-in_err-next c =
    λ s fm least table.
    rw c.from_residual.ensures
    (holds_any _ _ _ _ (sym c.least_after.ensures ∙ c.in_err-next.was) (line_holds s fm _ _ _ least table))

pub returns : goal.returns
returns c =
    λ s fm least table.
    rw (c.store.ensures, ← (c.in_ok-next.was), c.least_after.ensures) (line_holds s fm _ _ _ least table)

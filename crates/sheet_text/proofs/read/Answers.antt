use Rattle.std.proofs.Common.{sym, ◌∙◌}
use Rattle.sheet_text.proofs.ReadLaws.{refused, found}
use Rattle.sheet_text.proofs.read.Goals as goal

pub returns-then-is_err : goal.returns-then-is_err
returns-then-is_err c =
    refused _ _ _ (sym c.is_err.ensures.value ∙ c.if-is_err.true) c.judge-verdict.ensures

pub returns-else-is_err : goal.returns-else-is_err
returns-else-is_err c =
    found _ _ _ (sym c.is_err.ensures.value ∙ c.if-is_err.false) c.judge-verdict.ensures

use Rattle.std.proofs.Common.{ap, sym}
use Rattle.std.specs.Prelude.{Err}
use Rattle.checker.specs.declared.TypingError.{TypingError}
use Rattle.checker.specs.Verdict.{verdict_number}
use Rattle.stages.proofs.refusal.RefusalFromTypingError.from.Goals as goal

pub returns-in-IllTyped : goal.returns-in-IllTyped
unfolding verdict_number
returns-in-IllTyped c = sym (ap (λ (e : TypingError). verdict_number (Err e)) c.in-IllTyped.is)

pub returns-in-IllLabelled : goal.returns-in-IllLabelled
unfolding verdict_number
returns-in-IllLabelled c = sym (ap (λ (e : TypingError). verdict_number (Err e)) c.in-IllLabelled.is)

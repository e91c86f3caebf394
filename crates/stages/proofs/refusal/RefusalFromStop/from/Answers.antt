use Rattle.std.proofs.Common.{ap, sym}
use Rattle.std.specs.Prelude.{Err}
use Rattle.evaluator.specs.declared.Stop.{Stop}
use Rattle.evaluator.specs.State.{state_number}
use Rattle.stages.proofs.refusal.RefusalFromStop.from.Goals as goal

pub returns-in-NoRule : goal.returns-in-NoRule
returns-in-NoRule c = sym (ap (λ (e : Stop). state_number {A = Unit {0}} (Err e)) c.in-NoRule.is)

pub returns-in-Spent : goal.returns-in-Spent
returns-in-Spent c = sym (ap (λ (e : Stop). state_number {A = Unit {0}} (Err e)) c.in-Spent.is)

pub returns-in-TooLong : goal.returns-in-TooLong
returns-in-TooLong c = sym (ap (λ (e : Stop). state_number {A = Unit {0}} (Err e)) c.in-TooLong.is)

use Rattle.std.proofs.Common.{ap, sym}
use Rattle.std.specs.Prelude.{Err}
use Rattle.memory.specs.declared.MemoryError.{MemoryError}
use Rattle.memory.specs.Verdict.{memory_number}
use Rattle.stages.proofs.refusal.RefusalFromMemoryError.from.Goals as goal

pub returns-in-OtherSize : goal.returns-in-OtherSize
unfolding memory_number
returns-in-OtherSize c = sym (ap (λ (e : MemoryError). memory_number (Err e)) c.in-OtherSize.is)

pub returns-in-IllFormed : goal.returns-in-IllFormed
unfolding memory_number
returns-in-IllFormed c = sym (ap (λ (e : MemoryError). memory_number (Err e)) c.in-IllFormed.is)

use Rattle.std.proofs.Common.{◌≡◌, ◌<◌, ℕ, true}
use Rattle.memory.proofs.RefusalLaws as laws
use Rattle.memory.proofs.judge.Given as goal

abbrev pub invariant-loop-x : goal.invariant-loop-x
invariant-loop-x l = (k : ℕ) → k < l.x → laws.Held l.table l.memory k ≡ true

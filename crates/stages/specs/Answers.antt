-- What a call hands back, with what the slice that it may write then holds. (simp_check and
-- simp_trust write nothing; simp_check answers a number alone.)
use Rattle.std.specs.Prelude.{List, ℕ}

-- what a run answers, and what the lent memory then holds
pub record Ran : Type 0 where
  pub answer : ℕ
  pub steps : ℕ
  pub memory : List ℕ

-- a refused run: no steps, and the memory as it was
abbrev pub refused_run : List ℕ → ℕ → Ran
refused_run memory k = record { answer = k; steps = 0; memory = memory }

-- what a view answers, and what the lent view slice then holds
pub record Viewed : Type 0 where
  pub answer : ℕ
  pub view : List ℕ

-- a refused view: the slice as it was
abbrev pub refused_view : List ℕ → ℕ → Viewed
refused_view view k = record { answer = k; view = view }

-- what simp_trust answers: the number of simp_check, and 1 for an accepted script that is trust-keeping, else 0
pub record TrustAnswer : Type 0 where
  pub answer : ℕ
  pub keeping : ℕ

-- beside a refusal keeping is 0, whatever the script
abbrev pub refused_trust : ℕ → TrustAnswer
refused_trust k = record { answer = k; keeping = 0 }

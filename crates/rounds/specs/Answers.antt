-- What a round hands back, with what the memory that it is lent then holds (request (a), rounds).
use Rattle.std.specs.Prelude.{List, [], ◌∷◌, map, ℕ, replicate}
use Rattle.sheet.specs.Padding.{padded}
use Rattle.stages.specs.Answers.{Ran}
use Rattle.scripts.specs.Parting.{most_scripts}

-- what a round answers; what each script answers, and its steps, in its place of `most_scripts`; and what the lent
-- memory then holds
pub record RanRound : Type 0 where
  pub answer : ℕ
  pub answers : List ℕ
  pub steps : List ℕ
  pub memory : List ℕ

-- a refused round: zeros in every place, and the memory as it was
abbrev pub refused_round : List ℕ → ℕ → RanRound
refused_round memory k =
    record { answer = k; answers = replicate most_scripts 0; steps = replicate most_scripts 0; memory = memory }

-- the memory after several runs in turn: that of the last, or where there is none, the one before them
unfoldable pub memory_after : List ℕ → List Ran → List ℕ
memory_after memory [] = memory
memory_after memory (r ∷ rs) = memory_after r.memory rs

-- the round of these runs from a memory: 0, zeros in the places past the last, and the memory as the last leaves it
abbrev pub round_from : List ℕ → List Ran → RanRound
round_from memory rs = record {
  answer = 0;
  answers = padded most_scripts (map (λ r. r.answer) rs);
  steps = padded most_scripts (map (λ r. r.steps) rs);
  memory = memory_after memory rs;
}

-- Which scripts of a round may run: the number that the script in a place gets instead of a run, or 0 where it is open.
abbrev pub Gate : Type 0
Gate = ℕ → ℕ

-- the gate of simp_round
unfoldable pub all_open : Gate
all_open i = 0

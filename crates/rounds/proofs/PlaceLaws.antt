-- What runs answer, stored place by place.
use mathlib.Core.Path.{◌≡◌, refl, ap}
use mathlib.Core.List.{List, [], ◌∷◌, map}
use Prim.Native.Nat.{ℕ, suc, ◌+◌, ◌≤◌}
use native.Mathlib.Omega.{arith}
use native.Mathlib.Numerals.{add-one}
use lib.ListN.{length, set, replicate, length-map}
use lib.Seq.{sets}
use Rattle.text.proofs.Writings.{sets_zeros}
use Rattle.sheet.specs.Padding.{padded}
use Rattle.stages.specs.Answers.{Ran}
use Rattle.scripts.specs.Parting.{most_scripts}
use Rattle.rounds.specs.Answers.{RanRound, memory_after, round_from}
use Rattle.rounds.specs.Calls.{run_each}

-- as many runs as scripts
pub each_length : (run : ℕ → List ℕ → List ℕ → Ran) (i : ℕ) (memory : List ℕ) (ts : List (List ℕ))
    → length (run_each run i memory ts) ≡ length ts
unfolding run_each
each_length run i memory [] = refl
each_length run i memory (t ∷ ts) = ap suc (each_length run (suc i) _ ts)

module _ (run : ℕ → List ℕ → List ℕ → Ran) where
  -- the round of the scripts from place i on, over what is stored
  pub rest : ℕ → List ℕ → List ℕ → List ℕ → List (List ℕ) → RanRound
  rest i answers steps memory ts =
      let rs = run_each run i memory ts in
      record {
        answer = 0;
        answers = sets answers i (map (λ r. r.answer) rs);
        steps = sets steps i (map (λ r. r.steps) rs);
        memory = memory_after memory rs;
      }

  pub rest_more : (i : ℕ) (answers steps memory : List ℕ) (t : List ℕ) (ts : List (List ℕ))
      → rest i answers steps memory (t ∷ ts)
      ≡ rest (i + 1) (set answers i (run i t memory).answer) (set steps i (run i t memory).steps)
      (run i t memory).memory ts
  unfolding rest run_each memory_after
  rest_more i answers steps memory t ts = rw (add-one i) refl

  pub rest_over : (i : ℕ) (answers steps memory : List ℕ)
      → rest i answers steps memory [] ≡ record { answer = 0; answers = answers; steps = steps; memory = memory }
  unfolding rest run_each memory_after
  rest_over i answers steps memory = refl

  pub rest_all : (memory : List ℕ) (ts : List (List ℕ)) → length ts ≤ most_scripts
      → rest 0 (replicate most_scripts 0) (replicate most_scripts 0) memory ts
      ≡ round_from memory (run_each run 0 memory ts)
  unfolding rest padded
  rest_all memory ts l =
      let rs = run_each run 0 memory ts in
      let few : (f : Ran → ℕ) → length (map f rs) ≤ most_scripts =
      λ f. omega (arith, length-map rs f, each_length run 0 memory ts) in
      rw (
        sets_zeros most_scripts (map (λ r. r.answer) rs) (few _),
        sets_zeros most_scripts (map (λ r. r.steps) rs) (few _),
      ) refl

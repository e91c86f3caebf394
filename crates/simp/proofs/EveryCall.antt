-- Demands 1 and 2, of every call.
use mathlib.Core.Path.{refl, ap}
use mathlib.Core.List.{List, [], ◌∷◌}
use Prim.Native.Nat.{ℕ, ◌+◌}
use Rattle.stages.specs.Answers.{Viewed}
use Rattle.scripts.specs.Parting.{most_scripts}
use Rattle.rounds.specs.Answers.{Gate, all_open}
use Rattle.numbers.specs.Rows.{numbers, here}
use Rattle.numbers.specs.Theorems.{Orderly}
use Rattle.numbers.proofs.CallLaws.{orderly, orderly_done, by_second}
use Rattle.simp.specs.Demands.{check_call, run_call, view_call, round_call, groups_call, trust_call, Demand1, Demand2}
use Rattle.simp.proofs.SecondDemand.{check-exactly, run_ends, run-exactly, view-exactly}
use Rattle.simp.proofs.FirstDemand.{finished, starts, ended, past_refusals, run_answers}
use Rattle.simp.proofs.RoundDemands.{round-exactly, round_played, all_places}
use Rattle.simp.proofs.Turns.{zeros_at}
use Rattle.simp.proofs.GroupDemands.{groups-exactly}
use Rattle.simp.proofs.TrustDemands.{trust-exactly, as_check, one_bit}

-- ---- the answers that each table allows: their numbers, and what a refusal says and writes

checks : (sheet script : List ℕ) → Orderly (check_call sheet script)
unfolding numbers
checks sheet script =
    orderly_done (check_call sheet script) (0 ∷ []) refl refl refl refl (λ k. refl) (λ k. zeros_at 0) (λ k. refl) here
    (λ r e. e)

runs : (sheet script memory : List ℕ) (authority budget : ℕ) → Orderly (run_call sheet script memory authority budget)
unfolding numbers
runs sheet script memory authority budget =
    orderly (run_call sheet script memory authority budget) (0 ∷ 9 ∷ 10 ∷ []) refl refl refl refl (λ k. refl)
    (λ k. zeros_at 1) (λ k. refl) (λ r e. past_refusals e.2.2) (λ r e. (ended e.2.2).kept)

views : (sheet memory : List ℕ) (group : ℕ) (view : List ℕ) → Orderly (view_call sheet memory group view)
unfolding numbers
views sheet memory group view =
    orderly_done (view_call sheet memory group view) (0 ∷ []) refl refl refl refl (λ k. refl) (λ k. zeros_at 0)
    (λ k. refl) here (λ v e. ap (λ (x : Viewed). x.answer) e.2)

rounds : (gate : Gate) (sheet scripts memory : List ℕ) (authority budget : ℕ)
    → Orderly (round_call gate sheet scripts memory authority budget)
unfolding numbers
rounds gate sheet scripts memory authority budget =
    orderly_done (round_call gate sheet scripts memory authority budget) (0 ∷ []) refl refl refl refl (λ k. refl)
    (λ k. zeros_at (most_scripts + most_scripts)) (λ k. refl) here (λ r p. p.not_refused)

groups : (sheet : List ℕ) (l : ℕ) (places : List ℕ) → Orderly (groups_call sheet l places)
unfolding numbers
groups sheet l places =
    orderly_done (groups_call sheet l places) (0 ∷ []) refl refl refl refl (λ k. refl) (λ k. zeros_at 1)
    (λ k. refl) here
    (λ r o. o.2.2.not_refused)

trusts : (sheet script : List ℕ) → Orderly (trust_call sheet script)
unfolding numbers
trusts sheet script =
    orderly_done (trust_call sheet script) (0 ∷ []) refl refl refl refl (λ k. refl) (λ k. zeros_at 1) (λ k. refl) here
    (λ r o. o.2.2.not_refused)

-- ---- the demands

pub demand_2 : Demand2
demand_2 = record {
  check = check-exactly;
  run = run-exactly;
  view = view-exactly;
  round = round-exactly;
  groups = groups-exactly;
  trust = trust-exactly;
}

pub demand_1 : Demand1
unfolding all_open
demand_1 = record {
  check = λ sheet script. by_second _ (checks sheet script) (check-exactly sheet script);
  run = λ sheet script memory authority budget.
      by_second _ (runs sheet script memory authority budget) (run-exactly sheet script memory authority budget);
  view = λ sheet memory group view. by_second _ (views sheet memory group view) (view-exactly sheet memory group view);
  round = λ gate sheet scripts memory authority budget.
      by_second _ (rounds gate sheet scripts memory authority budget)
      (round-exactly gate sheet scripts memory authority budget);
  groups = λ sheet l places. by_second _ (groups sheet l places) (groups-exactly sheet l places);
  trust = λ sheet script. by_second _ (trusts sheet script) (trust-exactly sheet script);
  run_answers = run_answers;
  run_finished = λ sheet script memory authority budget h.
      let st = starts sheet script memory authority budget h in
      finished st.2 (run_ends st.2 budget) h;
  round_played = round_played;
  round_places = all_places;
  all_open_lem = λ i. refl;
  trust_as_check = as_check;
  trust_bit = one_bit;
}

-- What a run leaves, read off its table; a done run has started, and a view that is handed out is refused by nothing.
use mathlib.Core.Path.{◌≡◌, refl}
use mathlib.Core.List.{List, [], ◌∷◌}
use Prim.Native.Nat.{ℕ}
use native.Mathlib.Omega.{arith}
use Rattle.sheet.specs.Sheet.{Sheet}
use Rattle.language.specs.Syntax.{Script}
use Rattle.stages.specs.Answers.{Ran, refused_run, Viewed, refused_view}
use Rattle.stages.specs.Calls.{run_of, view_of}
use Rattle.numbers.specs.Rows.{numbers, Among, here, later}
use Rattle.simp.specs.Judgements.{Started, Ends, ends_0, ends_9, ends_10, run_rows, view_rows}
use Rattle.simp.specs.Demands.{Finished, RunAnswers}
use Rattle.numbers.proofs.RowLaws.{by_rows, not_one}
use Rattle.simp.proofs.SecondDemand.{Starts, run-starts, run-exactly, Shows, view_shows}

module _ {memory : List ℕ} {budget : ℕ} where
  pub finished : {sheet script : List ℕ} {authority : ℕ} {s : Sheet} {p : Script} {r : Ran}
      → Started sheet script memory authority s p → Ends s p memory authority budget r → r.answer ≡ 0
      → Finished sheet script memory authority budget r.steps r.memory
  finished st (ends_9 t n l) h = absurd (omega arith)
  finished st (ends_10 k t n l) h = absurd (omega arith)
  finished {s = s} {p = p} st (ends_0 {M'} k t n) h =
      record { its_sheet = s; its_script = p; reached = M'; started = st; run = t; words = refl; in_budget = k }

  pub ended : {authority : ℕ} {s : Sheet} {p : Script} {r : Ran} → Ends s p memory authority budget r
      → RunAnswers memory budget r
  ended (ends_0 k t n) = record {
    kept = λ h. absurd (h refl);
    all_steps = λ h. absurd (omega arith);
    fewer_steps = λ h. absurd (omega arith);
  }
  ended (ends_9 t n l) = record {
    kept = λ h. refl;
    all_steps = λ h. refl;
    fewer_steps = λ h. absurd (omega arith);
  }
  ended (ends_10 k t n l) = record {
    kept = λ h. refl;
    all_steps = λ h. absurd (omega arith);
    fewer_steps = λ h. k;
  }

  refused : (k : ℕ) → Among (1 ∷ 2 ∷ 3 ∷ 4 ∷ 5 ∷ 6 ∷ 7 ∷ 8 ∷ []) k → RunAnswers memory budget (refused_run memory k)
  refused k i = record {
    kept = λ h. refl;
    all_steps = λ h. absurd (not_one 9 i refl h);
    fewer_steps = λ h. absurd (not_one 10 i refl h);
  }

-- a run that is done has started, and a view that is handed out is refused by nothing
pub starts : (sheet script memory : List ℕ) (authority budget : ℕ)
    → (run_of sheet script memory authority budget).answer ≡ 0 → Starts sheet script memory authority
unfolding numbers
starts sheet script memory authority budget =
    by_rows (refused_run memory) _ (λ (r : Ran). r.answer ≡ 0 → Starts sheet script memory authority)
    (run_rows sheet script memory authority)
    (λ k i g h. absurd (not_one 0 i refl h)) (λ r n st h. st) _ (run-starts sheet script memory authority budget)

pub shows : (sheet memory : List ℕ) (group : ℕ) (view : List ℕ) → (view_of sheet memory group view).answer ≡ 0
    → Shows sheet memory group view
unfolding numbers
shows sheet memory group view =
    by_rows (refused_view view) _ (λ (v : Viewed). v.answer ≡ 0 → Shows sheet memory group view)
    (view_rows sheet memory group view)
    (λ k i g h. absurd (not_one 0 i refl h)) (λ v n z h. z) _ (view_shows sheet memory group view)

pub run_answers : (sheet script memory : List ℕ) (authority budget : ℕ)
    → RunAnswers memory budget (run_of sheet script memory authority budget)
unfolding numbers
run_answers sheet script memory authority budget =
    by_rows (refused_run memory) _ (RunAnswers memory budget) (run_rows sheet script memory authority)
    (λ k i g. refused k i) (λ r n e. ended e.2.2) _
    ((run-exactly sheet script memory authority budget _).0 refl)

-- a run that started answers 0, 9 or 10
pub past_refusals : {s : Sheet} {p : Script} {memory : List ℕ} {authority budget : ℕ} {r : Ran}
    → Ends s p memory authority budget r → Among (0 ∷ 9 ∷ 10 ∷ []) r.answer
past_refusals (ends_0 k t n) = here
past_refusals (ends_9 t n l) = later here
past_refusals (ends_10 k t n l) = later (later here)

-- Demands 1 and 2 of a round.
use mathlib.Core.Logic.{◌↔◌, inl, inr, ⊎_elim}
use mathlib.Core.Path.{◌≡◌, refl, sym, ◌∙◌, subst}
use mathlib.Core.List.{List, [], ◌∷◌}
use mathlib.Core.Option.{Option, none, some}
use Prim.Native.Nat.{ℕ, zero, suc, ◌≤◌}
use native.Mathlib.Omega.{arith}
use lib.ListN.{length}
use Rattle.language.specs.Syntax.{Script}
use Rattle.sheet.specs.Sheet.{Sheet, location_count}
use Rattle.script_text.specs.Counts.{counts_of}
use Rattle.script_text.specs.Script.{script_of}
use Rattle.script_text.specs.Theorems.{IsScript}
use Rattle.script_text.proofs.ScriptLaws.{script_exact}
use Rattle.memory.specs.Memory.{well_formed, memory_refusal}
use Rattle.memory.proofs.MemoryLaws.{unrefused-length, unrefused-formed}
use Rattle.stages.specs.Answers.{Ran, refused_run}
use Rattle.stages.specs.Calls.{unless, on_script, untyped, number_of, run_of}
use Rattle.stages.proofs.StageLaws.{stops}
use Rattle.stages.proofs.Kept.{left_unrefused}
use Rattle.scripts.specs.Parting.{script_texts, most_scripts}
use Rattle.rounds.specs.Answers.{RanRound, refused_round, memory_after, round_from, Gate}
use Rattle.rounds.specs.Calls.{lowest, run_each, turn_of, round_by}
use Rattle.rounds.proofs.LowerLaws.{lower_none, lowest_more}
use Rattle.rounds.proofs.PlaceLaws.{each_length}
use Rattle.numbers.specs.Calls.{Demand2Of}
use Rattle.numbers.proofs.RowLaws.{by_rows, exactly}
use Rattle.simp.specs.Judgements.{OnSheet, Principals, Typable, Started}
use Rattle.simp.specs.Rounds.{round_rows, InTurn, no_turn, a_turn, Places, Played, Open, TurnGoes}
use Rattle.simp.specs.Demands.{ScriptAnswers, round_call}
use Rattle.simp.proofs.Numbers.{typable_0, 0_typable}
use Rattle.simp.proofs.SecondDemand.{started-run, run_ends, run-exactly}
use Rattle.simp.proofs.FirstDemand.{finished, run_answers, past_refusals}
use Rattle.simp.proofs.RoundRows.{RoundStarts, round-starts, round-started, started-round}
use Rattle.simp.proofs.Turns.{zeros_at, turns_map, turns_placed, placed_turns, round_placed, round_places}
use Rattle.simp.proofs.Turns.{round_is}

-- ---- a turn, by its gate

-- 0, or another number
pub by_zero : {P : Type 0} (k : ℕ) → (k ≡ 0 → P) → (¬ (k ≡ 0) → P) → P
by_zero zero f g = f refl
by_zero (suc k) f g = g (λ e. absurd (omega arith))

module _ (gate : Gate) (sheet : List ℕ) (authority budget i : ℕ) (script memory : List ℕ) where
  pub turn_open : Open gate i
      → turn_of gate sheet authority budget i script memory ≡ run_of sheet script memory authority budget
  unfolding turn_of unless
  turn_open o = rw o refl

  pub turn_closed : ¬ Open gate i → turn_of gate sheet authority budget i script memory ≡ refused_run memory (gate i)
  unfolding turn_of
  turn_closed n = stops (refused_run memory) (gate i) (run_of sheet script memory authority budget) n

  -- the gate is open or not
  pub by_gate : {P : Type 0} → (Open gate i → P) → ((¬ Open gate i) → P) → P
  by_gate f g = by_zero (gate i) f g

  turn_goes : (r : Ran) → (turn_of gate sheet authority budget i script memory ≡ r)
      ↔ TurnGoes gate sheet authority budget i script memory r
  turn_goes r = (
    λ e. by_gate (λ o. inr (o, (run-exactly sheet script memory authority budget r).0 (sym (turn_open o) ∙ e)))
        (λ n. inl (n, sym e ∙ turn_closed n)),
    ⊎_elim (λ c. turn_closed c.0 ∙ sym c.1)
        (λ c. turn_open c.0 ∙ (run-exactly sheet script memory authority budget r).1 c.1),
  )

-- ---- the scripts of a round that has started

-- an accepted text is that of a script with a derivation
accepted_script : {sheet : List ℕ} {s : Sheet} (script : List ℕ) → OnSheet sheet s → number_of s script ≡ 0
    → (p : Script) × IsScript (counts_of s) script p × Typable s p
unfolding number_of on_script
accepted_script {s = s} script h n = go (script_of (counts_of s) script) refl n
  where
    go : (o : Option Script) → script_of (counts_of s) script ≡ o → on_script (λ k. k) o (λ p. untyped s p) ≡ 0
        → (p : Script) × IsScript (counts_of s) script p × Typable s p
    go none e z = absurd (omega arith)
    go (some p) e z = (p, (script_exact s h.form.is_formed script p).0 e, 0_typable s p z)

module _ (gate : Gate) {sheet : List ℕ} {s : Sheet} (authority budget : ℕ) (h : OnSheet sheet s)
    (a : Principals s authority) where
  abbrev turn : ℕ → List ℕ → List ℕ → Ran
  turn = turn_of gate sheet authority budget

  module _ (i : ℕ) (script memory : List ℕ) (n : number_of s script ≡ 0) (m : memory_refusal s memory ≡ 0) where
    its_script : (p : Script) × IsScript (counts_of s) script p × Typable s p
    its_script = accepted_script script h n

    its_start : Started sheet script memory authority s its_script.0
    unfolding memory_refusal
    its_start = record {
      on_sheet_lem = h;
      principals = a;
      of_script = its_script.1;
      typable = its_script.2;
      sized = unrefused-length (location_count s) (well_formed s memory) memory m;
      well_formed_lem = unrefused-formed (location_count s) (well_formed s memory) memory m;
    }

    its_turn : ScriptAnswers gate sheet authority budget i script memory (turn i script memory)
    its_turn = record {
      its_number =
          λ o. rw (turn_open gate sheet authority budget i script memory o) (past_refusals (run_ends its_start budget));
      as_run = λ o. rw (turn_open gate sheet authority budget i script memory o)
          (run_answers sheet script memory authority budget);
      finished = λ o.
          rw (turn_open gate sheet authority budget i script memory o) (finished its_start (run_ends its_start budget));
      closed = λ n. rw (turn_closed gate sheet authority budget i script memory n) (refl, refl, refl);
    }

    -- it leaves a memory that isn't refused
    turn_kept : memory_refusal s (turn i script memory).memory ≡ 0
    turn_kept =
        by_gate gate sheet authority budget i script memory
        (λ o.
        let c = its_script in
        rw (turn_open gate sheet authority budget i script memory o ∙ started-run its_start budget)
        (left_unrefused s c.0 c.1.source c.1.named_there
        (typable_0 s c.0 c.2) memory authority budget m))
        (λ z. rw (turn_closed gate sheet authority budget i script memory z) m)

  turns : (i : ℕ) (memory : List ℕ) (ts : List (List ℕ)) → lowest (number_of s) ts ≡ 0 → memory_refusal s memory ≡ 0
      → InTurn (λ j t m r. (r ≡ turn j t m) × ScriptAnswers gate sheet authority budget j t m r) i memory ts
      (memory_after memory (run_each turn i memory ts))
  unfolding run_each memory_after
  turns i memory [] n m = no_turn
  turns i memory (t ∷ ts) n m =
      let z = lower_none (number_of s t) (lowest (number_of s) ts) (sym (lowest_more (number_of s) t ts) ∙ n) in
      a_turn (turn i t memory) (refl, its_turn i t memory z.0 m)
      (turns (suc i) (turn i t memory).memory ts z.1 (turn_kept i t memory z.0 m))

-- ---- the demands

module _ (gate : Gate) (sheet scripts memory : List ℕ) (authority budget : ℕ) where
  abbrev R : RanRound
  R = round_by gate sheet scripts memory authority budget

  abbrev runs : List Ran
  runs = run_each (turn_of gate sheet authority budget) 0 memory (script_texts scripts)

  module _ (st : RoundStarts sheet scripts memory authority) where
    as_many : length runs ≡ length (script_texts scripts)
    as_many = each_length (turn_of gate sheet authority budget) 0 memory (script_texts scripts)

    few-runs : length runs ≤ most_scripts
    few-runs = omega (arith, as_many, st.few)

    -- its scripts went so, if each of their turns did
    played_so : (P : ℕ → List ℕ → List ℕ → Ran → Type 0)
        → ((j : ℕ) (t m : List ℕ) (r : Ran) → (r ≡ turn_of gate sheet authority budget j t m)
        × ScriptAnswers gate sheet authority budget j t m r → P j t m r)
        → Played P scripts memory R
    played_so P f =
        rw (started-round gate sheet scripts memory authority budget st) (record {
          not_refused = refl;
          places = rw (← as_many) (round_places memory runs few-runs);
          in_turn = turns_placed (turn_of gate sheet authority budget) (round_from memory runs) P
              (turns_map (λ j t m r g. (g.0, f j t m r g))
              (turns gate authority budget st.on_sheet_lem st.principals 0 memory (script_texts scripts) st.accepted
              st.unrefused))
              (round_placed memory runs few-runs);
        })

    -- and there is no other such round
    so_played : (r : RanRound) → Played (TurnGoes gate sheet authority budget) scripts memory r → R ≡ r
    so_played r p =
        let q = placed_turns (turn_of gate sheet authority budget) r
        (turns_map (λ j t m x g. (g.0, sym ((turn_goes gate sheet authority budget j t m x).1 g.1))) p.in_turn) in
        started-round gate sheet scripts memory authority budget st
        ∙ sym (round_is memory runs few-runs r p.not_refused
        (subst (λ (n : ℕ). Places n r) (sym as_many) p.places) q.0 q.1)

  pub round-exactly : Demand2Of (round_call gate sheet scripts memory authority budget)
  round-exactly =
      exactly (refused_round memory) _ _ R (round_rows sheet scripts memory authority)
      (λ n st r. (
        λ e. subst (Played (TurnGoes gate sheet authority budget) scripts memory) e
            (played_so st (TurnGoes gate sheet authority budget)
            (λ j t m x g. (turn_goes gate sheet authority budget j t m x).0 (sym g.0))),
        so_played st r,
      ))
      (round-starts gate sheet scripts memory authority budget)

  -- a round has its places, refused or not
  pub all_places : Places (length (script_texts scripts)) R
  all_places =
      by_rows (refused_round memory) _ (Places (length (script_texts scripts)))
      (round_rows sheet scripts memory authority)
      (λ k i g. record {
        answer_places = refl;
        step_places = refl;
        past_last = λ j l. (zeros_at most_scripts j, zeros_at most_scripts j);
      })
      (λ r n p. p.places) _ ((round-exactly _).0 refl)

  -- each script of a round that isn't refused went so in its turn
  pub round_played : R.answer ≡ 0 → Played (ScriptAnswers gate sheet authority budget) scripts memory R
  round_played h =
      played_so (round-started gate sheet scripts memory authority budget h) (ScriptAnswers gate sheet authority budget)
      (λ j t m r g. g.1)

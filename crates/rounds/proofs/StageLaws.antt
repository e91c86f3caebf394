-- The stages of a round: what each leaves, from what it calls.
use mathlib.Core.Path.{◌≡◌, refl, sym, ap, ◌∙◌}
use mathlib.Core.List.{List, [], ◌∷◌}
use Prim.Native.Nat.{ℕ, zero, suc, ◌≤◌, ◌<◌}
use native.Mathlib.Omega.{arith}
use lib.ListN.{length, take, replicate}
use borrow.Author.Tests.{lt-ltb, le-ltb}
use Rattle.sheet.specs.Sheet.{Sheet}
use Rattle.sheet_text.specs.Sheets.{accepted, sheet_of}
use Rattle.memory.specs.Memory.{memory_refusal}
use Rattle.memory.specs.Internal.InTable.{refusal_in}
use Rattle.stages.specs.Answers.{Ran}
use Rattle.stages.specs.Calls.{on_sheet, unless, strangers, number_of, run_of}
use Rattle.stages.specs.Internal.Stages.{TableOf, strangers_in}
use Rattle.stages.specs.declared.refusal.Refusal.{Refusal}
use Rattle.stages.specs.declared.refusal.Refusal.TheVariants.{TooManyScripts}
use Rattle.stages.specs.Refusals.{refusal_number}
use Rattle.stages.proofs.StageLaws.{accepted-verdict, refusal_in_lem, stopped, goes, strangers_same}
use Rattle.std.specs.Prelude.{Option, None, Err}
use Rattle.scripts.specs.declared.Parting.{Parting}
use Rattle.scripts.specs.Internal.Places.{kept_ends, scripts_counted}
use Rattle.scripts.proofs.Places.{few_scripts}
use Rattle.scripts.specs.Parting.{script_texts, most_scripts}
use Rattle.rounds.specs.Answers.{RanRound, refused_round, Gate, all_open}
use Rattle.rounds.specs.Calls.{too_many, lowest, run_each, turn_of, played_of}
use Rattle.rounds.specs.Internal.Stages.{turn_on, gate_in, ran_on, played_on, lowest_in, played_in, round_in}
use Rattle.rounds.specs.Internal.Stages.{Parted, NumbersAll, RunsEach, Plays, RoundsOn, answered_round}

-- ---- gates

always_open : (i : ℕ) → all_open i ≡ 0
unfolding all_open
always_open i = refl

-- none in each place: open
none_at : (n i : ℕ) → ◌≡◌ {A = ℕ} (gate_in (replicate n None) i) 0
none_at zero i = refl
none_at (suc n) zero = refl
none_at (suc n) (suc i) = none_at n i

pub all_none : (i : ℕ) → ◌≡◌ {A = ℕ} (gate_in (replicate most_scripts None) i) 0
all_none i = none_at most_scripts i

-- the same number in each place: the same round
module _ (gate gate' : Gate) (s : Sheet) (authority budget : ℕ) (same : (i : ℕ) → gate i ≡ gate' i) where
  each_same : (i : ℕ) (memory : List ℕ) (ts : List (List ℕ))
      → run_each (turn_on gate s authority budget) i memory ts ≡ run_each (turn_on gate' s authority budget) i memory ts
  unfolding run_each
  each_same i memory [] = refl
  each_same i memory (t ∷ ts) =
      rw (same i) (ap (λ (rs : List Ran). turn_on gate' s authority budget i t memory ∷ rs)
      (each_same (suc i) (turn_on gate' s authority budget i t memory).memory ts))

pub played_same : (gate gate' : Gate) (s : Sheet) (authority budget : ℕ) (ts : List (List ℕ)) (memory : List ℕ)
    → ((i : ℕ) → gate i ≡ gate' i)
    → played_on gate s authority budget ts memory ≡ played_on gate' s authority budget ts memory
played_same gate gate' s authority budget ts memory e = rw (each_same gate gate' s authority budget e 0 memory ts) refl

-- ---- the parting

pub parted : (text ends : List ℕ) (p : Parting)
    → p ≡ record { count = scripts_counted text; ends = kept_ends text } → p.count ≤ most_scripts
    → ends ≡ take p.count p.ends
    → Parted text ends
unfolding scripts_counted
parted text ends p e l k =
    let n : p.count ≡ scripts_counted text = ap (λ (q : Parting). q.count) e in
    let few = few_scripts text p.count n l in
    let all : p.count ≡ length (script_texts text) = omega (arith, n, few) in
    record { few = few; kept = k ∙ rw (all, ap (λ (q : Parting). q.ends) e) refl }

-- ---- the stages

module _ (scripts : List ℕ) (gates : List (Option Refusal)) (t memory : List ℕ) (authority budget : ℕ) where
  abbrev R : ℕ → RanRound
  R = refused_round memory

  -- ---- past 3 and 11

  -- 4, 5 and 6
  pub play_numbered : (refusal : Refusal) → NumbersAll scripts t (refusal_number refusal)
      → Plays scripts gates t memory authority budget (answered_round (Err refusal) memory)
  unfolding played_in
  play_numbered refusal n = let (v, of, is) = n.in_table in record {
    refused = λ v. refl;
    played = λ s T g. stopped R refusal _ _ (n.numbered s T);
    in_table = (v, of, R 0, refl, stopped R refusal _ _ is);
  }

  module _ (n : NumbersAll scripts t 0) where
    by-memory : (s : Sheet) → TableOf t s
        → played_on (gate_in gates) s authority budget (script_texts scripts) memory
        ≡ unless R (memory_refusal s memory) (ran_on (gate_in gates) s authority budget (script_texts scripts) memory)
    by-memory s T = goes R (lowest (number_of s) (script_texts scripts)) _ (sym (n.numbered s T))

    by-memory-in : (run : RanRound)
        → played_in n.in_table.0 run t (script_texts scripts) memory ≡ unless R (refusal_in t memory) run
    unfolding played_in
    by-memory-in run = goes R (lowest_in n.in_table.0 t (script_texts scripts)) _ (sym n.in_table.2)

    -- 7 and 8
    pub play-refused : (refusal : Refusal) → refusal_number refusal ≡ refusal_in t memory
        → Plays scripts gates t memory authority budget (answered_round (Err refusal) memory)
    play-refused refusal m = record {
      refused = λ v. refl;
      played = λ s T g. stopped R refusal _ _ (refusal_in_lem t memory _ m s T) ∙ sym (by-memory s T);
      in_table = (n.in_table.0, n.in_table.1, R 0, refl, stopped R refusal _ _ m ∙ sym (by-memory-in (R 0)));
    }

    pub play-runs : (r : RanRound) → 0 ≡ refusal_in t memory → RunsEach scripts gates t memory authority budget r
        → Plays scripts gates t memory authority budget r
    play-runs r m ran = let m' = refusal_in_lem t memory 0 m in record {
      refused = λ v. absurd (v ran.done);
      played = λ s T g. ran.ran s T g (sym (n.numbered s T)) (sym (m' s T))
          ∙ sym (by-memory s T ∙ goes R (memory_refusal s memory) _ (sym (m' s T)));
      in_table = (
        n.in_table.0,
        n.in_table.1,
        r,
        ran.done,
        sym (by-memory-in r ∙ goes R (refusal_in t memory) _ (sym m)),
      );
    }

-- ---- 3 and 11

module _ (scripts t memory : List ℕ) (authority budget : ℕ) where
  abbrev Refuse : ℕ → RanRound
  Refuse = refused_round memory

  pub round_stranger : (refusal : Refusal) → refusal_number refusal ≡ strangers_in t authority
      → RoundsOn scripts t memory authority budget (answered_round (Err refusal) memory)
  unfolding round_in
  round_stranger refusal h = record {
    refused = λ v. refl;
    played = λ s T. stopped Refuse refusal _ _ (h ∙ strangers_same t s authority T);
    in_table = (0, accepted-verdict, Refuse 0, refl, stopped Refuse refusal _ _ h);
  }

  module _ (h : 0 ≡ strangers_in t authority) where
    known : {A : Type 0} (refuse : ℕ → A) (go : A) → unless refuse (strangers_in t authority) go ≡ go
    known refuse go = goes refuse (strangers_in t authority) go (sym h)

    on_it : (s : Sheet) → TableOf t s → strangers s authority ≡ 0
    on_it s T = sym (h ∙ strangers_same t s authority T)

    pub round_many : most_scripts < length (script_texts scripts)
        → RoundsOn scripts t memory authority budget (answered_round (Err TooManyScripts) memory)
    unfolding too_many unless round_in
    round_many l = record {
      refused = λ v. refl;
      played = λ s T. sym (goes Refuse (strangers s authority) _ (on_it s T) ∙ rw (lt-ltb _ _ l) refl);
      in_table = (0, accepted-verdict, Refuse 0, refl, sym (known Refuse _ ∙ rw (lt-ltb _ _ l) refl));
    }

    pub round_played : length (script_texts scripts) ≤ most_scripts → (gates : List (Option Refusal)) (r : RanRound)
        → ((i : ℕ) → gate_in gates i ≡ 0) → Plays scripts gates t memory authority budget r
        → RoundsOn scripts t memory authority budget r
    unfolding too_many unless round_in
    round_played l gates r o p = let (v, of, run, z, is) = p.in_table in record {
      refused = p.refused;
      played = λ s T. p.played s T (on_it s T) ∙ played_same (gate_in gates)
          all_open s authority budget (script_texts scripts) memory (λ i. o i ∙ sym (always_open i))
          ∙ sym (goes Refuse (strangers s authority) _ (on_it s T) ∙ rw (le-ltb _ _ l) refl);
      in_table = (v, of, run, z, is ∙ sym (known Refuse _ ∙ rw (le-ltb _ _ l) refl));
    }

-- ---- the sheet of a text

module _ (gate : Gate) (sheet : List ℕ) (s : Sheet) (e : sheet_of sheet ≡ accepted s) (authority budget : ℕ) where
  -- a turn is that on the sheet
  turn_on_lem : (i : ℕ) (script memory : List ℕ)
      → turn_of gate sheet authority budget i script memory ≡ turn_on gate s authority budget i script memory
  unfolding turn_of run_of on_sheet
  turn_on_lem i script memory = rw e refl

  each_on : (i : ℕ) (memory : List ℕ) (ts : List (List ℕ))
      → run_each (turn_of gate sheet authority budget) i memory ts
      ≡ run_each (turn_on gate s authority budget) i memory ts
  unfolding run_each
  each_on i memory [] = refl
  each_on i memory (t ∷ ts) =
      rw (turn_on_lem i t memory) (ap (λ (rs : List Ran). turn_on gate s authority budget i t memory ∷ rs)
      (each_on (suc i) (turn_on gate s authority budget i t memory).memory ts))

  pub played_on_lem : (ts : List (List ℕ)) (memory : List ℕ)
      → played_on gate s authority budget ts memory ≡ played_of gate sheet s ts memory authority budget
  unfolding played_of
  played_on_lem ts memory = rw (each_on 0 memory ts) refl

module _ (sheet : List ℕ) (s : Sheet) (e : sheet_of sheet ≡ accepted s) (authority budget : ℕ) where
  pub round_of_lem : (scripts t memory : List ℕ) (r : RanRound) → RoundsOn scripts t memory authority budget r
      → TableOf t s
      → r
      ≡ unless (refused_round memory) (strangers s authority)
      (unless (refused_round memory) (too_many (script_texts scripts)) (
      played_of all_open sheet s (script_texts scripts) memory authority budget))
  round_of_lem scripts t memory r h T =
      h.played s T ∙ rw (played_on_lem all_open sheet s e authority budget (script_texts scripts) memory) refl

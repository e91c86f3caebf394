-- What the stages of a round ensure, on the table that they are given: for any table, and where it is that of a sheet
-- that isn't refused.
use Rattle.std.specs.Prelude.{◌≡◌, List, ℕ, ◌≤◌, length, get_or, take, Option, Some, None, Result, Ok, Err}
use Rattle.sheet.specs.Sheet.{Sheet}
use Rattle.memory.specs.Memory.{memory_refusal}
use Rattle.memory.specs.Internal.InTable.{refusal_in}
use Rattle.stages.specs.declared.refusal.Refusal.{Refusal}
use Rattle.stages.specs.Refusals.{refusal_number}
use Rattle.stages.specs.Answers.{Ran, refused_run}
use Rattle.stages.specs.Calls.{unless, strangers, number_of, run_on}
use Rattle.stages.specs.Internal.Stages.{TableOf, Spares, OfVerdict, OfState, strangers_in, number_in}
use Rattle.scripts.specs.Parting.{script_texts, most_scripts}
use Rattle.scripts.specs.Internal.Places.{kept_ends}
use Rattle.rounds.specs.declared.Round.{Round}
use Rattle.rounds.specs.Answers.{RanRound, refused_round, round_from, Gate, all_open}
use Rattle.rounds.specs.Calls.{too_many, lower, lowest, run_each}

-- each script of a text has a place, and ends are theirs
pub record Parted (scripts ends : List ℕ) : Type 0 where
  pub few : length (script_texts scripts) ≤ most_scripts
  pub kept : ends ≡ take (length (script_texts scripts)) (kept_ends scripts)

-- the script in place i by a gate, on a sheet that isn't refused
abbrev pub turn_on : Gate → Sheet → ℕ → ℕ → ℕ → List ℕ → List ℕ → Ran
turn_on gate s authority budget i script memory =
    unless (refused_run memory) (gate i) (run_on s script memory authority budget)

-- the number of a script's gate: 0 where it is open
abbrev pub gate_number : Option Refusal → ℕ
gate_number None = 0
gate_number (Some refusal) = refusal_number refusal

-- the gate that a refusal or none for each place stands for
abbrev pub gate_in : List (Option Refusal) → Gate
gate_in gates i = gate_number (get_or gates i None)

-- these scripts one after another on a sheet that isn't refused, where no number refuses the round
abbrev pub ran_on : Gate → Sheet → ℕ → ℕ → List (List ℕ) → List ℕ → RanRound
ran_on gate s authority budget ts memory = round_from memory (run_each (turn_on gate s authority budget) 0 memory ts)

-- a round on a sheet that isn't refused, past 3 and 11
abbrev pub played_on : Gate → Sheet → ℕ → ℕ → List (List ℕ) → List ℕ → RanRound
played_on gate s authority budget ts memory =
    unless (refused_round memory) (lowest (number_of s) ts) (
    unless (refused_round memory) (memory_refusal s memory) (
    ran_on gate s authority budget ts memory))

-- ---- By what a table says, whatever its words are. Free is what is found where the table is no sheet's: the number of
-- a verdict, and the round that is run, whose answer is 0.

-- 4 where one of them is no script, else the verdict's number
unfoldable pub lowest_in : ℕ → List ℕ → List (List ℕ) → ℕ
lowest_in verdict t ts = lower (lowest (number_in 0 t) ts) verdict

-- a round past 3 and 11
unfoldable pub played_in : ℕ → RanRound → List ℕ → List (List ℕ) → List ℕ → RanRound
played_in verdict run t ts memory =
    unless (refused_round memory) (lowest_in verdict t ts) (
    unless (refused_round memory) (refusal_in t memory) run)

-- a round, as round_by has it on a sheet
unfoldable pub round_in : ℕ → RanRound → List ℕ → List (List ℕ) → List ℕ → ℕ → RanRound
round_in verdict run t ts memory authority =
    unless (refused_round memory) (strangers_in t authority) (
    unless (refused_round memory) (too_many ts) (
    played_in verdict run t ts memory))

-- ---- what the functions ensure

-- what a call answers of a round, with the memory that it leaves
abbrev pub answered_round : Result Round Refusal → List ℕ → RanRound
answered_round (Ok round) memory =
    record { answer = round.answer; answers = round.answers; steps = round.steps; memory = memory }
answered_round (Err refusal) memory = refused_round memory (refusal_number refusal)

pub record NumbersAll (scripts t : List ℕ) (r : ℕ) : Type 0 where
  pub numbered : (s : Sheet) → TableOf t s → r ≡ lowest (number_of s) (script_texts scripts)
  pub in_table : (verdict : ℕ) × OfVerdict verdict × (r ≡ lowest_in verdict t (script_texts scripts))

-- An accepted script, on a memory that isn't refused: its run, and the memory that it leaves isn't refused either.
pub record RunsScript (script t memory : List ℕ) (authority budget : ℕ) (r : Ran) : Type 0 where
  pub spares : Spares memory budget r
  pub ran : (s : Sheet) → TableOf t s → strangers s authority ≡ 0 → number_of s script ≡ 0 → memory_refusal s memory ≡ 0
      → (r ≡ run_on s script memory authority budget) × (memory_refusal s r.memory ≡ 0)
  pub in_table : OfState r.answer

-- the same by the number of its gate
pub record RunsTurn (script : List ℕ) (number : ℕ) (t memory : List ℕ) (authority budget : ℕ) (r : Ran) : Type 0 where
  pub ran : (s : Sheet) → TableOf t s → strangers s authority ≡ 0 → number_of s script ≡ 0 → memory_refusal s memory ≡ 0
      → (r ≡ unless (refused_run memory) number (run_on s script memory authority budget))
      × (memory_refusal s r.memory ≡ 0)
  pub in_table : (run : Ran) × Spares memory budget run × OfState run.answer
      × (r ≡ unless (refused_run memory) number run)

pub record RunsEach (scripts : List ℕ) (gates : List (Option Refusal)) (t memory : List ℕ) (authority budget : ℕ)
    (r : RanRound) : Type 0 where
  pub done : r.answer ≡ 0
  pub ran : (s : Sheet) → TableOf t s → strangers s authority ≡ 0 → lowest (number_of s) (script_texts scripts) ≡ 0
      → memory_refusal s memory ≡ 0
      → r ≡ ran_on (gate_in gates) s authority budget (script_texts scripts) memory

-- Whatever the table is, a refused round has zeros in every place and leaves the memory.
abbrev pub SparesRound : List ℕ → RanRound → Type 0
SparesRound memory r = (r.answer ≡ 0 → ⊥) → r ≡ refused_round memory r.answer

pub record Plays (scripts : List ℕ) (gates : List (Option Refusal)) (t memory : List ℕ) (authority budget : ℕ)
    (r : RanRound) : Type 0 where
  pub refused : SparesRound memory r
  pub played : (s : Sheet) → TableOf t s → strangers s authority ≡ 0
      → r ≡ played_on (gate_in gates) s authority budget (script_texts scripts) memory
  pub in_table : (verdict : ℕ) × OfVerdict verdict × (run : RanRound) × (run.answer ≡ 0)
      × (r ≡ played_in verdict run t (script_texts scripts) memory)

pub record RoundsOn (scripts t memory : List ℕ) (authority budget : ℕ) (r : RanRound) : Type 0 where
  pub refused : SparesRound memory r
  pub played : (s : Sheet) → TableOf t s
      → r ≡ unless (refused_round memory) (strangers s authority) (
      unless (refused_round memory) (too_many (script_texts scripts)) (
      played_on all_open s authority budget (script_texts scripts) memory))
  pub in_table : (verdict : ℕ) × OfVerdict verdict × (run : RanRound) × (run.answer ≡ 0)
      × (r ≡ round_in verdict run t (script_texts scripts) memory authority)

-- What simp_round must answer, by the papers and request (a): its numbers in the order judged, each with when it
-- applies, and where none does, its scripts in turn.
use Rattle.std.specs.Prelude.{◌⊎◌, ◌≡◌, List, [], ◌∷◌, ℕ, suc, ◌≤◌, ◌<◌, length, get_or}
use Rattle.numbers.specs.Rows.{Row, ◌when◌}
use Rattle.numbers.specs.Calls.{Table, AnswerBy}
use Rattle.stages.specs.Answers.{Ran, refused_run}
use Rattle.scripts.specs.Parting.{script_texts, most_scripts}
use Rattle.rounds.specs.Answers.{RanRound, refused_round, Gate}
use Rattle.simp.specs.Judgements.{NoSheet, Repeats, Strangers, NoScript, IllTyped, IllLabelled, OtherSize}
use Rattle.simp.specs.Judgements.{IllFormed, run_table}

-- ---- when each number applies

-- 11
abbrev pub TooMany : List ℕ → Type 0
TooMany scripts = most_scripts < length (script_texts scripts)

-- P holds of one of the scripts
unfoldable pub OneOf : (List ℕ → Type 0) → List (List ℕ) → Type 0
OneOf P [] = ⊥
OneOf P (t ∷ ts) = P t ⊎ OneOf P ts

-- 4, 5 and 6 apply where they apply to one of the scripts. So the lowest number over all scripts is given: 5 only where
-- no script is refused by 4, and 6 only where none is by 4 or 5.
abbrev pub played_rows : List ℕ → List ℕ → List ℕ → List Row
played_rows sheet scripts memory =
    4 when OneOf (NoScript sheet) (script_texts scripts)
    ∷ 5 when OneOf (IllTyped sheet) (script_texts scripts)
    ∷ 6 when OneOf (IllLabelled sheet) (script_texts scripts)
    ∷ 7 when OtherSize sheet memory
    ∷ 8 when IllFormed sheet memory
    ∷ []

abbrev pub round_rows : List ℕ → List ℕ → List ℕ → ℕ → List Row
round_rows sheet scripts memory authority =
    1 when NoSheet sheet
    ∷ 2 when Repeats sheet
    ∷ 3 when Strangers sheet authority
    ∷ 11 when TooMany scripts
    ∷ played_rows sheet scripts memory

-- ---- the scripts in turn

-- Scripts in turn, from place i and a memory on, and the memory after the last. `Turn` says of a place, its script
-- and the memory before it how the script went: what it answers and leaves; the next one starts from what it leaves.
pub data InTurn {A : Type 0} (Turn : ℕ → A → List ℕ → Ran → Type 0) : ℕ → List ℕ → List A → List ℕ → Type 0 where
  no_turn : {i : ℕ} {memory : List ℕ} → InTurn Turn i memory [] memory
  a_turn : {i : ℕ} {memory : List ℕ} {t : A} {ts : List A} {after : List ℕ} (r : Ran) → Turn i t memory r
      → InTurn Turn (suc i) r.memory ts after
      → InTurn Turn i memory (t ∷ ts) after

-- The places of a round of n scripts: 32 for the answers and 32 for the steps, zero past the last script.
pub record Places (n : ℕ) (r : RanRound) : Type 0 where
  pub answer_places : length r.answers ≡ most_scripts
  pub step_places : length r.steps ≡ most_scripts
  pub past_last : (i : ℕ) → n ≤ i → (get_or r.answers i 0 ≡ 0) × (get_or r.steps i 0 ≡ 0)

-- what a script answers, and its steps, stand in its place
pub record InPlace (r : RanRound) (i : ℕ) (ran : Ran) : Type 0 where
  pub its_answer : get_or r.answers i 0 ≡ ran.answer
  pub its_steps : get_or r.steps i 0 ≡ ran.steps

-- A round that isn't refused: its scripts went so, in turn, from the lent memory to the memory after the last.
pub record Played (Turn : ℕ → List ℕ → List ℕ → Ran → Type 0) (scripts memory : List ℕ) (r : RanRound) : Type 0 where
  pub not_refused : r.answer ≡ 0
  pub places : Places (length (script_texts scripts)) r
  pub in_turn : InTurn (λ i script before ran. InPlace r i ran × Turn i script before ran) 0 memory
      (script_texts scripts) r.memory

-- the script in this place is open
abbrev pub Open : Gate → ℕ → Type 0
Open gate i = gate i ≡ 0

-- P holds of each script that is open, the first of these being in place i.
unfoldable pub EachOpen : (List ℕ → Type 0) → Gate → ℕ → List (List ℕ) → Type 0
EachOpen P gate i [] = Unit {0}
EachOpen P gate i (t ∷ ts) = (Open gate i → P t) × EachOpen P gate (suc i) ts

-- A script that isn't open is refused with its gate's number; one that is open goes as simp_run with the whole budget
-- must (Judgements.antt).
abbrev pub TurnGoes : Gate → List ℕ → ℕ → ℕ → ℕ → List ℕ → List ℕ → Ran → Type 0
TurnGoes gate sheet authority budget i script memory r =
    ((¬ Open gate i) × (r ≡ refused_run memory (gate i)))
    ⊎ (Open gate i × AnswerBy (run_table sheet script memory authority budget) r)

abbrev pub round_table : Gate → List ℕ → List ℕ → List ℕ → ℕ → ℕ → Table RanRound
round_table gate sheet scripts memory authority budget = record {
  rows = round_rows sheet scripts memory authority;
  refuse = refused_round memory;
  Else = Played (TurnGoes gate sheet authority budget) scripts memory;
}

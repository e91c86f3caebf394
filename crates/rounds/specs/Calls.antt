-- A round (request (a), rounds): the scripts of one text, one after another on one memory, each by simp_run.
use Rattle.std.specs.Prelude.{cond, List, [], ◌∷◌, ℕ, zero, suc, leb, ltb, length}
use Rattle.sheet.specs.Sheet.{Sheet}
use Rattle.sheet_text.specs.Sheets.{sheet_of}
use Rattle.memory.specs.Memory.{memory_refusal}
use Rattle.stages.specs.Answers.{Ran, refused_run}
use Rattle.stages.specs.Calls.{on_sheet, unless, strangers, number_of, run_of}
use Rattle.scripts.specs.Parting.{script_texts, most_scripts}
use Rattle.rounds.specs.Answers.{RanRound, refused_round, round_from, Gate, all_open}

-- 11: more scripts than places
unfoldable pub too_many : List (List ℕ) → ℕ
too_many ts = cond (ltb most_scripts (length ts)) 11 0

-- the lower of two numbers, where 0 is none
unfoldable pub lower : ℕ → ℕ → ℕ
lower zero k = k
lower (suc j) zero = suc j
lower (suc j) (suc k) = cond (leb j k) (suc j) (suc k)

-- 4, 5, 6: the lowest number over all scripts
unfoldable pub lowest : (List ℕ → ℕ) → List (List ℕ) → ℕ
lowest number [] = 0
lowest number (t ∷ ts) = lower (number t) (lowest number ts)

-- Scripts in turn, the first of them in place i, each from the memory after the one before it. `run`: of the script in
-- a place, from a memory.
unfoldable pub run_each : {A : Type 0} → (ℕ → A → List ℕ → Ran) → ℕ → List ℕ → List A → List Ran
run_each run i memory [] = []
run_each run i memory (t ∷ ts) = let r = run i t memory in r ∷ run_each run (suc i) r.memory ts

-- the script in place i, from a memory: refused with its gate's number, or run with the whole budget
unfoldable pub turn_of : Gate → List ℕ → ℕ → ℕ → ℕ → List ℕ → List ℕ → Ran
turn_of gate sheet authority budget i script memory =
    unless (refused_run memory) (gate i) (run_of sheet script memory authority budget)

-- 4 to 8 in this order, then the scripts in turn: scripts that have a place each, and s the sheet of the text
unfoldable pub played_of : Gate → List ℕ → Sheet → List (List ℕ) → List ℕ → ℕ → ℕ → RanRound
played_of gate sheet s ts memory authority budget =
    unless (refused_round memory) (lowest (number_of s) ts) (
    unless (refused_round memory) (memory_refusal s memory) (
    round_from memory (run_each (turn_of gate sheet authority budget) 0 memory ts)))

-- a round by a gate: 1 2 3 11 before these
unfoldable pub round_by : Gate → List ℕ → List ℕ → List ℕ → ℕ → ℕ → RanRound
round_by gate sheet scripts memory authority budget =
    on_sheet (refused_round memory) (sheet_of sheet) (λ s.
    unless (refused_round memory) (strangers s authority) (
    unless (refused_round memory) (too_many (script_texts scripts)) (
    played_of gate sheet s (script_texts scripts) memory authority budget)))

-- simp_round
abbrev pub round_of : List ℕ → List ℕ → List ℕ → ℕ → ℕ → RanRound
round_of = round_by all_open

-- Kept from tampering (request (e)): by done runs of accepted, trust-keeping scripts nothing that distrusted parties
-- can write reaches what is left of the memory.
use Rattle.std.specs.Prelude.{◌≡◌, List, ℕ}
use Rattle.sheet.specs.Sheet.{Sheet}
use Rattle.sheet_text.specs.Theorems.{IsSheet}
use Rattle.memory.specs.View.{trusted_words}
use Rattle.stages.specs.Calls.{run_of, trust_of}
use Rattle.scripts.specs.Parting.{script_texts}
use Rattle.rounds.specs.Answers.{Gate}
use Rattle.rounds.specs.Calls.{round_by}
use Rattle.simp.specs.Rounds.{EachOpen}
use Rattle.simp.specs.RoundView.{EachDone}

-- The two memories are alike in what is left: equal once all locations and package contents are blanked out whose
-- labels the distrusted group writes. (The text is that of one sheet at most; if of none, any two are alike.)
abbrev pub SameTrusted : List ℕ → ℕ → List ℕ → List ℕ → Type 0
SameTrusted sheet group memory memory' =
    (s : Sheet) → IsSheet sheet s → trusted_words s group memory ≡ trusted_words s group memory'

-- simp_trust says that the script is accepted and trust-keeping. (1 stands beside no number but 0: `Demand1`.)
abbrev pub SaidKeeping : List ℕ → List ℕ → Type 0
SaidKeeping sheet script = (trust_of sheet script).keeping ≡ 1

-- Any sheet, any group of distrusted parties, any authority, any two budgets, any two memories: if they are alike in
-- what is left, so are the memories after the runs, word for word. (A done run started from a well-formed memory:
-- `Demand1`.)
pub record TrustKept : Type 0 where
  -- done runs of the same accepted, trust-keeping script, wherever it starts
  pub run : (sheet script : List ℕ) → SaidKeeping sheet script
      → (authority budget budget' group : ℕ) (memory memory' : List ℕ)
      → SameTrusted sheet group memory memory'
      → (run_of sheet script memory authority budget).answer ≡ 0
      → (run_of sheet script memory' authority budget').answer ≡ 0
      → SameTrusted sheet group (run_of sheet script memory authority budget).memory
      (run_of sheet script memory' authority budget').memory
  -- rounds of the same scripts: each open one is accepted and trust-keeping, and is done in both
  pub round : (gate : Gate) (sheet scripts : List ℕ) → EachOpen (SaidKeeping sheet) gate 0 (script_texts scripts)
      → (authority budget budget' group : ℕ) (memory memory' : List ℕ)
      → SameTrusted sheet group memory memory'
      → EachDone gate (round_by gate sheet scripts memory authority budget)
      → EachDone gate (round_by gate sheet scripts memory' authority budget')
      → SameTrusted sheet group (round_by gate sheet scripts memory authority budget).memory
      (round_by gate sheet scripts memory' authority budget').memory

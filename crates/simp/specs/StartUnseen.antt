-- A group that can't read a script's starting label is shown the same before and after it is run
-- (request (d), buttons).
use Rattle.std.specs.Prelude.{◌≡◌, true, List, ℕ}
use Rattle.language.specs.Syntax.{Script}
use Rattle.sheet.specs.Sheet.{Sheet}
use Rattle.sheet.specs.Meaning.{reads_start}
use Rattle.sheet_text.specs.Theorems.{IsSheet}
use Rattle.script_text.specs.Counts.{counts_of}
use Rattle.script_text.specs.Theorems.{IsScript}
use Rattle.stages.specs.Calls.{run_of, view_of}
use Rattle.scripts.specs.Parting.{script_texts}
use Rattle.rounds.specs.Answers.{Gate}
use Rattle.rounds.specs.Calls.{round_by}
use Rattle.simp.specs.Rounds.{EachOpen}

-- The group can't read the label that the script starts at. (One sheet and one script at most have these texts. If the
-- script is accepted there are such; where there are none, this holds.)
abbrev pub StartHidden : List ℕ → ℕ → List ℕ → Type 0
StartHidden sheet group script =
    (s : Sheet) (p : Script) → IsSheet sheet s → IsScript (counts_of s) script p → ¬ (reads_start s group p ≡ true)

-- the same of each open script, the first of these texts being in place i
abbrev pub HiddenFrom : List ℕ → ℕ → Gate → ℕ → List (List ℕ) → Type 0
HiddenFrom sheet group gate i ts = EachOpen (StartHidden sheet group) gate i ts

-- Any sheet, group, authority, budget and memory, and any slice for the view: simp_view answers and hands out the same
-- before and after, word for word, whatever the call in between answers. Of a memory that gives no view it gives the
-- same number both times, and the slice as it was.
pub record StartUnseen : Type 0 where
  -- a run of a script whose starting label the group can't read: done, stopped or refused. (Whether the script is
  -- accepted isn't asked: one that isn't is refused.)
  pub run : (sheet script : List ℕ) (group : ℕ) → StartHidden sheet group script
      → (authority budget : ℕ) (memory view : List ℕ)
      → view_of sheet (run_of sheet script memory authority budget).memory group view ≡ view_of sheet memory group view
  -- a round whose open scripts all start so: each done or stopped, or the round refused
  pub round : (sheet scripts : List ℕ) (group : ℕ) (gate : Gate) → HiddenFrom sheet group gate 0 (script_texts scripts)
      → (authority budget : ℕ) (memory view : List ℕ)
      → view_of sheet (round_by gate sheet scripts memory authority budget).memory group view
      ≡ view_of sheet memory group view

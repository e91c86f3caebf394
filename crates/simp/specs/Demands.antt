-- The three demands, stated of the definitions that the contracts equate the calls with.
use Rattle.std.specs.Prelude.{◌≡◌, List, [], ◌∷◌, ◌++◌, ℕ, ◌≤◌, ◌<◌, length}
use Rattle.language.specs.Syntax.{skip, Script}
use Rattle.language.specs.World.{Mem}
use Rattle.language.specs.Figures.{Steps}
use Rattle.sheet.specs.Sheet.{Sheet, location_count}
use Rattle.sheet.specs.Meaning.{world_for}
use Rattle.memory.specs.Memory.{memory_of, words_of}
use Rattle.stages.specs.Answers.{Ran, Viewed, TrustAnswer}
use Rattle.stages.specs.Calls.{check_of, run_of, view_of, trust_of}
use Rattle.scripts.specs.Parting.{script_texts}
use Rattle.rounds.specs.Answers.{RanRound, Gate, all_open}
use Rattle.rounds.specs.Calls.{round_by}
use Rattle.groups.specs.Answers.{Grouped}
use Rattle.groups.specs.Calls.{groups_of}
use Rattle.numbers.specs.Rows.{Among}
use Rattle.numbers.specs.Calls.{Call, Demand1Of, Demand2Of}
use Rattle.simp.specs.Judgements.{Started, check_table, run_table, view_table}
use Rattle.simp.specs.Rounds.{Places, Played, Open, round_table}
use Rattle.simp.specs.Groups.{groups_table}
use Rattle.simp.specs.Trust.{trust_table}

-- The run started and reached skip within the budget, after so many steps, and these are the words of the memory that
-- it reached. (`Ends` says besides that no value on the way was too long: that would be 10.)
pub record Finished (sheet script memory : List ℕ) (authority budget steps : ℕ) (after : List ℕ) : Type 0 where
  pub its_sheet : Sheet
  pub its_script : Script
  pub reached : Mem
  pub started : Started sheet script memory authority its_sheet its_script
  pub run : Steps (world_for its_sheet authority its_script) steps (memory_of memory) its_script.command reached skip
  pub words : after ≡ words_of (location_count its_sheet) reached
  pub in_budget : steps ≤ budget

-- What a run leaves, and its steps where it stops, whatever it is given: the memory as it was, unless it is done;
-- beside 9 as many steps as the budget, beside 10 fewer (how many, `Ends` says).
pub record RunAnswers (memory : List ℕ) (budget : ℕ) (r : Ran) : Type 0 where
  pub kept : ¬ (r.answer ≡ 0) → r.memory ≡ memory
  pub all_steps : r.answer ≡ 9 → r.steps ≡ budget
  pub fewer_steps : r.answer ≡ 10 → r.steps < budget

-- How a script goes in its turn, in a round that isn't refused. Open, it answers 0, 9 or 10: done, it is a finished run
-- from the memory before it to the one after it; stopped, it leaves the memory as it was (RunAnswers). Not open, it has
-- its gate's number, no steps, and leaves the memory.
pub record ScriptAnswers (gate : Gate) (sheet : List ℕ) (authority budget i : ℕ) (script memory : List ℕ)
    (r : Ran) : Type 0 where
  pub its_number : Open gate i → Among (0 ∷ 9 ∷ 10 ∷ []) r.answer
  pub as_run : Open gate i → RunAnswers memory budget r
  pub finished : Open gate i → r.answer ≡ 0 → Finished sheet script memory authority budget r.steps r.memory
  pub closed : ¬ Open gate i → (r.answer ≡ gate i) × (r.steps ≡ 0) × (r.memory ≡ memory)

-- ---- the calls, each with its table (Judgements.antt, Rounds.antt, Groups.antt, Trust.antt) and the function that its
-- contract equates it with

abbrev pub check_call : List ℕ → List ℕ → Call ℕ
check_call sheet script = record {
  table = check_table sheet script;
  may_give = 0 ∷ 1 ∷ 2 ∷ 4 ∷ 5 ∷ 6 ∷ [];
  number = λ r. r;
  besides = λ r. [];
  leaves = λ r. [];
  lent = [];
  gives = check_of sheet script;
}

abbrev pub run_call : List ℕ → List ℕ → List ℕ → ℕ → ℕ → Call Ran
run_call sheet script memory authority budget = record {
  table = run_table sheet script memory authority budget;
  may_give = 0 ∷ 1 ∷ 2 ∷ 3 ∷ 4 ∷ 5 ∷ 6 ∷ 7 ∷ 8 ∷ 9 ∷ 10 ∷ [];
  number = λ r. r.answer;
  besides = λ r. r.steps ∷ [];
  leaves = λ r. r.memory;
  lent = memory;
  gives = run_of sheet script memory authority budget;
}

abbrev pub view_call : List ℕ → List ℕ → ℕ → List ℕ → Call Viewed
view_call sheet memory group view = record {
  table = view_table sheet memory group view;
  may_give = 0 ∷ 1 ∷ 2 ∷ 3 ∷ 7 ∷ 8 ∷ [];
  number = λ v. v.answer;
  besides = λ v. [];
  leaves = λ v. v.view;
  lent = view;
  gives = view_of sheet memory group view;
}

-- a round by a gate; that of simp_round is `all_open`
abbrev pub round_call : Gate → List ℕ → List ℕ → List ℕ → ℕ → ℕ → Call RanRound
round_call gate sheet scripts memory authority budget = record {
  table = round_table gate sheet scripts memory authority budget;
  may_give = 0 ∷ 1 ∷ 2 ∷ 3 ∷ 11 ∷ 4 ∷ 5 ∷ 6 ∷ 7 ∷ 8 ∷ [];
  number = λ r. r.answer;
  besides = λ r. r.answers ++ r.steps;
  leaves = λ r. r.memory;
  lent = memory;
  gives = round_by gate sheet scripts memory authority budget;
}

abbrev pub groups_call : List ℕ → ℕ → List ℕ → Call Grouped
groups_call sheet l places = record {
  table = groups_table sheet l places;
  may_give = 0 ∷ 1 ∷ 2 ∷ 12 ∷ [];
  number = λ r. r.answer;
  besides = λ r. r.count ∷ [];
  leaves = λ r. r.places;
  lent = places;
  gives = groups_of sheet l places;
}

abbrev pub trust_call : List ℕ → List ℕ → Call TrustAnswer
trust_call sheet script = record {
  table = trust_table sheet script;
  may_give = 0 ∷ 1 ∷ 2 ∷ 4 ∷ 5 ∷ 6 ∷ [];
  number = λ r. r.answer;
  besides = λ r. r.keeping ∷ [];
  leaves = λ r. [];
  lent = [];
  gives = trust_of sheet script;
}

-- ---- the demands

-- Demand 1. The number of each call is one of its table's, the first that applies, in their fixed order; or it is 0, of
-- a run also 9 or 10, and then none applies. Beside a number other than 0, 9 and 10 all else that is handed back is
-- zero or no; and unless the number is 0 the call writes to no lent slice (Demand1Of). After any call the lent memory
-- holds the finished run's values or exactly what it held before. That a call ends is proved with each function;
-- simp_check and simp_trust are lent nothing to write, and simp_view is lent its memory for reading.
pub record Demand1 : Type 1 where
  pub check : (sheet script : List ℕ) → Demand1Of (check_call sheet script)
  pub run : (sheet script memory : List ℕ) (authority budget : ℕ)
      → Demand1Of (run_call sheet script memory authority budget)
  pub view : (sheet memory : List ℕ) (group : ℕ) (view : List ℕ) → Demand1Of (view_call sheet memory group view)
  pub round : (gate : Gate) (sheet scripts memory : List ℕ) (authority budget : ℕ)
      → Demand1Of (round_call gate sheet scripts memory authority budget)
  pub groups : (sheet : List ℕ) (l : ℕ) (places : List ℕ) → Demand1Of (groups_call sheet l places)
  pub trust : (sheet script : List ℕ) → Demand1Of (trust_call sheet script)
  -- a run leaves the memory as it was, or is done: then it is a finished run
  pub run_answers : (sheet script memory : List ℕ) (authority budget : ℕ)
      → RunAnswers memory budget (run_of sheet script memory authority budget)
  pub run_finished : (sheet script memory : List ℕ) (authority budget : ℕ)
      → (run_of sheet script memory authority budget).answer ≡ 0
      → Finished sheet script memory authority budget (run_of sheet script memory authority budget).steps
      (run_of sheet script memory authority budget).memory
  -- where a round isn't refused, each script went so in its turn: a round's finished run is its done scripts, one after
  -- another
  pub round_played : (gate : Gate) (sheet scripts memory : List ℕ) (authority budget : ℕ)
      → (round_by gate sheet scripts memory authority budget).answer ≡ 0
      → Played (ScriptAnswers gate sheet authority budget) scripts memory
      (round_by gate sheet scripts memory authority budget)
  -- it has 32 places for the answers and 32 for the steps, also where it is refused, zero past the last script
  pub round_places : (gate : Gate) (sheet scripts memory : List ℕ) (authority budget : ℕ)
      → Places (length (script_texts scripts)) (round_by gate sheet scripts memory authority budget)
  -- simp_round shuts no script out
  pub all_open_lem : (i : ℕ) → Open all_open i
  -- the number of simp_trust is that of simp_check, and keeping is 0 or 1
  pub trust_as_check : (sheet script : List ℕ) → (trust_of sheet script).answer ≡ check_of sheet script
  pub trust_bit : (sheet script : List ℕ) → Among (0 ∷ 1 ∷ []) (trust_of sheet script).keeping

-- Demand 2. Each call answers exactly what the papers say: the numbers in their order, acceptance by the typing
-- rules, the memory and the step count of the evaluation rules, the smallest groups, and whether a script is
-- trust-keeping. So there is exactly one answer by each table: the call's.
pub record Demand2 : Type 0 where
  pub check : (sheet script : List ℕ) → Demand2Of (check_call sheet script)
  pub run : (sheet script memory : List ℕ) (authority budget : ℕ)
      → Demand2Of (run_call sheet script memory authority budget)
  pub view : (sheet memory : List ℕ) (group : ℕ) (view : List ℕ) → Demand2Of (view_call sheet memory group view)
  pub round : (gate : Gate) (sheet scripts memory : List ℕ) (authority budget : ℕ)
      → Demand2Of (round_call gate sheet scripts memory authority budget)
  pub groups : (sheet : List ℕ) (l : ℕ) (places : List ℕ) → Demand2Of (groups_call sheet l places)
  pub trust : (sheet script : List ℕ) → Demand2Of (trust_call sheet script)

-- Two memories give a group the same view: the view of each is handed out into a lent slice, and these agree in every
-- word. `shown` holds exactly if the sheet is of its form and repeats nothing, the group is on it, the slices have
-- their size and the memory is well-formed; `view` and `view'` are what the lent slices held before.
pub record SameView (sheet : List ℕ) (group : ℕ) (memory memory' view view' : List ℕ) : Type 0 where
  pub shown : (view_of sheet memory group view).answer ≡ 0
  pub shown' : (view_of sheet memory' group view').answer ≡ 0
  pub same : (view_of sheet memory group view).view ≡ (view_of sheet memory' group view').view

-- Demand 3, noninterference. Any sheet, any script accepted on it, any authority, any two budgets, any two memories,
-- any group: if both memories give the group the same view and both runs are done, the memories left behind give it the
-- same view. (That the script is accepted follows from a done run too; it stands because the demand names it.)
abbrev pub Demand3 : Type 0
Demand3 = (sheet script : List ℕ) → check_of sheet script ≡ 0
    → (authority budget budget' group : ℕ) (memory memory' view view' : List ℕ)
    → SameView sheet group memory memory' view view'
    → (run_of sheet script memory authority budget).answer ≡ 0
    → (run_of sheet script memory' authority budget').answer ≡ 0
    → SameView sheet group (run_of sheet script memory authority budget).memory
    (run_of sheet script memory' authority budget').memory view view'

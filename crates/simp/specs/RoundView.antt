-- What a group is shown after a whole round follows from what it is shown before (request (a), rounds).
use Rattle.std.specs.Prelude.{◌≡◌, List, ℕ, get_or}
use Rattle.rounds.specs.Answers.{RanRound, Gate}
use Rattle.rounds.specs.Calls.{round_by}
use Rattle.simp.specs.Rounds.{Open}
use Rattle.simp.specs.Demands.{SameView}

-- The round isn't refused, and each script that is open is done. (Places past the last script are zero.)
pub record EachDone (gate : Gate) (r : RanRound) : Type 0 where
  pub not_refused : r.answer ≡ 0
  pub each : (i : ℕ) → Open gate i → get_or r.answers i 0 ≡ 0

-- Any sheet, scripts and authority, any two budgets, any two memories, any group, and any gate, the same in both
-- rounds: if both memories give the group the same view and each script is done in both rounds, the memories
-- after them give it the same view.
abbrev pub RoundView : Type 0
RoundView =
    (gate : Gate) (sheet scripts : List ℕ) (authority budget budget' group : ℕ) (memory memory' view view' : List ℕ)
    → SameView sheet group memory memory' view view'
    → EachDone gate (round_by gate sheet scripts memory authority budget)
    → EachDone gate (round_by gate sheet scripts memory' authority budget')
    → SameView sheet group (round_by gate sheet scripts memory authority budget).memory
    (round_by gate sheet scripts memory' authority budget').memory view view'

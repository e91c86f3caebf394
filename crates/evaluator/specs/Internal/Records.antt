-- What the relations between words and trees speak of.
use Rattle.std.specs.Prelude.{ℕ, List, Result, Ok, Err}
use Rattle.language.specs.World.{World}
use Rattle.language.specs.Substitution.{Env}
use Rattle.script.specs.Names.{Counts}
use Rattle.evaluator.specs.State.{state_number}
use Rattle.evaluator.specs.declared.Stop.{Stop}

-- What a run is given and asks of types and labels: the table, and the authority's powers.
pub record Setting : Type 0 where
  pub table : List ℕ
  pub powers : ℕ

-- Where a run stands: a place in the code, below so many cases, and the cells.
pub record Place : Type 0 where
  pub code : List ℕ
  pub at : ℕ
  pub depth : ℕ
  pub cells : List ℕ

-- What an evaluation hands back: its state's number, where its lines end, and the cells.
pub record Reached : Type 0 where
  pub state : ℕ
  pub next : ℕ
  pub cells : List ℕ

-- the place of an answer that has one
abbrev pub place_of : Result ℕ Stop → ℕ
place_of (Ok n) = n
place_of (Err s) = 0

abbrev pub reached : Result ℕ Stop → List ℕ → Reached
reached r cells = record { state = state_number r; next = place_of r; cells = cells }

-- the same of an answer without a place, and the place that was moved
abbrev pub arrived : Result Unit Stop → ℕ → List ℕ → Reached
arrived r next cells = record { state = state_number r; next = next; cells = cells }

-- What the words stand for: the world, what a script may name, and what the enclosing cases bind.
pub record Context : Type 0 where
  pub world : World
  pub counts : Counts
  pub env : Env

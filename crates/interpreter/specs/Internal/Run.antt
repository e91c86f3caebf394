-- The outcome of a run on a memory (the scope, "Running", refusals 9 and 10).
use Rattle.std.specs.Prelude.{◌≡◌, true, List, [], ℕ, ◌-◌, ◌*◌, ◌≤◌, length}
use Rattle.language.specs.Syntax.{Cmd}
use Rattle.language.specs.World.{cell_words}
use Rattle.language.specs.Transition.{Out, done, spent, over, wrong, iterate}
use Rattle.script.specs.Lines.{Source, cmd_lines}
use Rattle.script.specs.Internal.Code.{code}
use Rattle.script.specs.Names.{Counts, named}
use Rattle.sheet.specs.Sheet.{Sheet, label_count, location_count, formed}
use Rattle.sheet.specs.Internal.Tables.{table_of}
use Rattle.sheet.specs.Meaning.{world_of}
use Rattle.memory.specs.Memory.{memory_of, words_of, well_formed}

-- The answer to a run that ends in an outcome: its state's number (`state_number`), its steps, and what the memory of n
-- locations then holds. Where no rule applies nothing is promised: no accepted script comes there.
unfoldable pub RunLeaves : ℕ → ℕ → List ℕ → Out → ℕ → ℕ → List ℕ → Type 0
RunLeaves n budget memory (done M b) state steps memory' = (state ≡ 0) × (steps ≡ budget - b) × (memory' ≡ words_of n M)
RunLeaves n budget memory spent state steps memory' = (state ≡ 9) × (steps ≡ budget) × (memory' ≡ memory)
RunLeaves n budget memory (over b) state steps memory' = (state ≡ 10) × (steps ≡ budget - b) × (memory' ≡ memory)
RunLeaves n budget memory wrong state steps memory' = Unit {0}

-- A run of the code ws: it ends as the command does whose code it is, takes no more steps than the budget, and changes
-- the memory only where it is done.
pub record Runs (ws table memory : List ℕ) (authority budget state steps : ℕ) (memory' : List ℕ) : Type 0 where
  pub long : length memory' ≡ length memory
  pub untouched : (state ≡ 0 → ⊥) → memory' ≡ memory
  pub within : steps ≤ budget
  pub means : (s : Sheet) (k : Counts) (c : Cmd) → formed s ≡ true → table ≡ table_of s → k.labels ≡ label_count s
      → k.locations ≡ location_count s
      → Source c → named k 0 c ≡ true → ws ≡ code (cmd_lines c [])
      → length memory ≡ cell_words * location_count s → well_formed s memory ≡ true
      → RunLeaves (location_count s) budget memory
      (iterate (world_of s authority) budget (memory_of memory) c) state steps memory'

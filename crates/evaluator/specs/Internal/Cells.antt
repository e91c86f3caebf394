-- Where a run keeps its values: one list of cells (crate cells).
-- Cell 0 is the accumulator, the value of the expression just evaluated; cell d holds what the case at depth d binds;
-- the locations follow.
use Rattle.std.specs.Prelude.{◌≡◌, ℕ, suc, ◌+◌, ◌*◌, ◌<◌, ◌≤◌, List, [], ◌∷◌, length}
use Rattle.language.specs.Syntax.{Value}
use Rattle.language.specs.World.{Mem, cell_words}
use Rattle.language.specs.Substitution.{Env}
use Rattle.script.specs.Names.{max_depth}
use Rattle.sheet.specs.Sheet.{max_locations}
use Rattle.memory.specs.Words.{cell}
use Rattle.memory.specs.Memory.{cell_of}

-- the cell of location 0
abbrev pub first_location : ℕ
first_location = 1 + max_depth

-- the words of all cells
abbrev pub work_words : ℕ
work_words = cell_words * (first_location + max_locations)

-- The cells hold what the enclosing cases bind, the innermost at the given depth.
pub data Binds (work : List ℕ) : ℕ → Env → Type 0 where
  bound_none : Binds work 0 []
  bound_more : {depth : ℕ} {v : Value} {ρ : Env} → cell_of work (suc depth) ≡ cell v → Binds work depth ρ
      → Binds work (suc depth) (v ∷ ρ)

-- The cells hold the memory M of so many locations, and the environment ρ.
pub record CellsHold (work : List ℕ) (locations depth : ℕ) (M : Mem) (ρ : Env) : Type 0 where
  pub whole : length work ≡ work_words
  pub few : locations ≤ max_locations
  pub memory : (x : ℕ) → x < locations → cell_of work (first_location + x) ≡ cell (M x)
  pub shallow : depth ≤ max_depth
  pub bindings : Binds work depth ρ

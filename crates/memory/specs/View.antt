-- The words that a group is shown of a memory (the scope, "The view"), and those whose labels a group doesn't write
-- (request (e)).
use Rattle.std.specs.Prelude.{Bool, true, false, not, List, ℕ}
use Rattle.language.specs.Syntax.{Value}
use Rattle.language.specs.World.{Mem, cell_words}
use Rattle.language.specs.View.{mask}
use Rattle.sheet.specs.Sheet.{Sheet, location_no, location_count}
use Rattle.sheet.specs.Meaning.{reads_no, writes_no}
use Rattle.memory.specs.Words.{zeros, cell}
use Rattle.memory.specs.Memory.{memory_of, cells, slice_refusal, memory_refusal}

-- A location whose label is seen shows the value; any other shows zero words.
unfoldable pub view_cell : Bool → Value → List ℕ
view_cell true v = cell v
view_cell false v = zeros cell_words

-- The view of n locations, by any rule of who sees which label: `sees x` tells whether the label of location x is seen,
-- `shows l` whether label l is.
unfoldable pub view_by : ℕ → (ℕ → Bool) → (ℕ → Bool) → Mem → List ℕ
view_by n sees shows M = cells n (λ (x : ℕ). view_cell (sees x) (mask shows (M x)))

-- the group reads the label of location x
unfoldable pub sees_no : Sheet → ℕ → ℕ → Bool
sees_no s g x = reads_no s g (location_no s x).label

-- What the group g is shown of the memory ws.
unfoldable pub view_words : Sheet → ℕ → List ℕ → List ℕ
view_words s g ws = view_by (location_count s) (sees_no s g) (reads_no s g) (memory_of ws)

-- ---- kept from tampering (request (e))

-- label l is trusted: the group g of distrusted parties doesn't write it
unfoldable pub trusted_label_no : Sheet → ℕ → ℕ → Bool
trusted_label_no s g l = not (writes_no s g l)

-- the label of location x is trusted
unfoldable pub trusted_location_no : Sheet → ℕ → ℕ → Bool
trusted_location_no s g x = trusted_label_no s g (location_no s x).label

-- What is left of the memory ws once all locations and package contents whose labels the group g writes are blanked
-- out: a view that goes by trust instead of by reading.
unfoldable pub trusted_words : Sheet → ℕ → List ℕ → List ℕ
trusted_words s g ws = view_by (location_count s) (trusted_location_no s g) (trusted_label_no s g) (memory_of ws)

-- ---- refusals

-- refusal 7 of either slice, or 8 of the memory ws, for a view into `len` words; else 0
unfoldable pub view_refusal : Sheet → List ℕ → ℕ → ℕ
view_refusal s ws len = slice_refusal (location_count s) (memory_refusal s ws) len

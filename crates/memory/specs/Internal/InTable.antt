-- The same by a sheet's table, for the code.
use Rattle.std.specs.Prelude.{◌≡◌, Bool, cond, List, ℕ, eqb, length}
use Rattle.language.specs.Syntax.{Value}
use Rattle.sheet.specs.Sheet.{Sheet}
use Rattle.sheet.specs.Meaning.{reads_no}
use Rattle.sheet.specs.Internal.Tables.{table_of, labels_in, locations_in, type_in, home_in, reads_in}
use Rattle.sheet.specs.Internal.TypeTest.{has_no}
use Rattle.memory.specs.Memory.{memory_of, formed_by, slice_refusal, refusal_by, memory_refusal}
use Rattle.memory.specs.View.{view_by, view_words, view_refusal}

-- what a lent slice holds after a call: `out` where nothing is refused, else what it held before
unfoldable pub leaves : ℕ → List ℕ → List ℕ → List ℕ
leaves refusal out before = cond (eqb refusal 0) out before

-- What the slice that is lent for a view holds after the call.
unfoldable pub view_leaves : Sheet → ℕ → List ℕ → List ℕ → List ℕ
view_leaves s g ws before = leaves (view_refusal s ws (length before)) (view_words s g ws) before

unfoldable pub as_declared_in : List ℕ → ℕ → Value → Bool
as_declared_in t x v = has_no t v (type_in t x)

unfoldable pub well_formed_in : List ℕ → List ℕ → Bool
well_formed_in t ws = formed_by (locations_in t) (labels_in t) (as_declared_in t) ws

-- refusal 7 or 8 of a memory, else 0
unfoldable pub refusal_in : List ℕ → List ℕ → ℕ
refusal_in t ws = refusal_by (locations_in t) (well_formed_in t ws) ws

-- the group g reads the label of location x
unfoldable pub sees_in : List ℕ → ℕ → ℕ → Bool
sees_in t g x = reads_in t g (home_in t x)

unfoldable pub view_in : List ℕ → ℕ → List ℕ → List ℕ
view_in t g ws = view_by (locations_in t) (sees_in t g) (reads_in t g) (memory_of ws)

unfoldable pub view_refusal_in : List ℕ → List ℕ → ℕ → ℕ
view_refusal_in t ws len = slice_refusal (locations_in t) (refusal_in t ws) len

unfoldable pub view_leaves_in : List ℕ → ℕ → List ℕ → List ℕ → List ℕ
view_leaves_in t g ws before = leaves (view_refusal_in t ws (length before)) (view_in t g ws) before

-- What the code reads from the table of a sheet is what the sheet says. `table_agrees` (proofs/Exactness.antt) shows it
-- for every sheet of the right form.
pub record TableAgrees (s : Sheet) : Type 0 where
  pub refusal : (ws : List ℕ) → refusal_in (table_of s) ws ≡ memory_refusal s ws
  pub reads : (g l : ℕ) → reads_in (table_of s) g l ≡ reads_no s g l
  pub view : (g : ℕ) (ws : List ℕ) → view_in (table_of s) g ws ≡ view_words s g ws
  pub view_refusal_lem : (ws : List ℕ) (len : ℕ) → view_refusal_in (table_of s) ws len ≡ view_refusal s ws len
  pub view_leaves_lem : (g : ℕ) (ws before : List ℕ)
      → view_leaves_in (table_of s) g ws before ≡ view_leaves s g ws before

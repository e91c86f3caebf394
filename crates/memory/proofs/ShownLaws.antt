-- Laws of the loop that stores a view, and of what a call leaves, by the table.
use mathlib.Core.Path.{◌≡◌, sym, ap, ◌∙◌}
use mathlib.Core.Bool.{Bool}
use mathlib.Core.List.{List, ◌++◌}
use Prim.Native.Nat.{ℕ, ◌+◌, ◌*◌, ◌≤◌, ◌<◌}
use native.Mathlib.Omega.{arith}
use borrow.Author.Tests.{eq-eqb, ne_eqb}
use lib.ListN.{length, drop}
use lib.Seq.{paste}
use Rattle.language.specs.Syntax.{Value, size}
use Rattle.language.specs.World.{cell_words}
use Rattle.language.specs.View.{seen, mask}
use Rattle.sheet.specs.Internal.Tables.{labels_in, locations_in, reads_in}
use Rattle.std.specs.Prelude.{Err}
use Rattle.memory.specs.declared.MemoryError.{MemoryError}
use Rattle.memory.specs.declared.MemoryError.TheVariants.{OtherSize, IllFormed}
use Rattle.memory.specs.Verdict.{memory_number}
use Rattle.memory.specs.Words.{value_of}
use Rattle.memory.specs.Memory.{cell_of, memory_of, cells, slice_refusal}
use Rattle.memory.specs.View.{view_cell, view_by}
use Rattle.memory.specs.Internal.InTable.{leaves, as_declared_in, well_formed_in, refusal_in, sees_in, view_in}
use Rattle.memory.specs.Internal.InTable.{view_refusal_in, view_leaves_in}
use Rattle.memory.proofs.WordLaws.{length-cell}
use Rattle.memory.proofs.CellsLaws.{Cellwise, stored_more, stored_all}
use Rattle.memory.proofs.MemoryLaws.{value_there, value_fits, unrefused-length, unrefused-formed}
use Rattle.memory.proofs.ViewLaws.{seen_size, mask_size, view-cell}

pub length-view-cell : (b : Bool) (v : Value) → size v ≤ cell_words → length (view_cell b v) ≡ cell_words
length-view-cell b v h = ap length (view-cell b v) ∙ length-cell (seen b v) (seen_size b v cell_words h (omega arith))

module _ (t ws : List ℕ) where
  -- what the group is shown of location x
  abbrev pub Shown : ℕ → ℕ → List ℕ
  Shown g x = view_cell (sees_in t g x) (mask (reads_in t g) (memory_of ws x))

  module _ (h : refusal_in t ws ≡ 0) where
    pub whole_in : length ws ≡ cell_words * locations_in t
    unfolding refusal_in
    whole_in = unrefused-length (locations_in t) (well_formed_in t ws) ws h

    fits_in : (x : ℕ) → size (memory_of ws x) ≤ cell_words
    unfolding refusal_in well_formed_in
    fits_in = value_fits (locations_in t) (labels_in t) (as_declared_in t) ws whole_in
        (unrefused-formed (locations_in t) (well_formed_in t ws) ws h)

    pub shown_cellwise : (g n : ℕ) → Cellwise n (Shown g)
    shown_cellwise g n x l = length-view-cell (sees_in t g x) (mask (reads_in t g) (memory_of ws x))
        (omega (arith, mask_size (reads_in t g) (memory_of ws x), fits_in x))

    pub shown_is : (g x : ℕ) {r : List ℕ} → x < locations_in t
        → (size (value_of (cell_of ws x)) ≤ cell_words
        → r ≡ view_cell (sees_in t g x) (mask (reads_in t g) (value_of (cell_of ws x)))) → r ≡ Shown g x
    shown_is g x l k =
        let e : memory_of ws x ≡ value_of (cell_of ws x) = value_there ws x (omega (arith, whole_in)) in
        k (rw e at (fits_in x)) ∙ ap (λ v. view_cell (sees_in t g x) (mask (reads_in t g) v)) (sym e)

    -- x locations are stored, and the rest is as in d
    pub view_more : (g x : ℕ) (d us vs c : List ℕ) → us ≡ cells x (Shown g) ++ drop (cell_words * x) d
        → x < locations_in t
        → (size (value_of (cell_of ws x)) ≤ cell_words
        → c ≡ view_cell (sees_in t g x) (mask (reads_in t g) (value_of (cell_of ws x))))
        → vs ≡ paste us (cell_words * x) c cell_words → vs ≡ cells (x + 1) (Shown g) ++ drop (cell_words * (x + 1)) d
    view_more g x d us vs c e l k p =
        stored_more (Shown g) x d us vs c (λ y m. shown_cellwise g _ y m) e (shown_is g x l k) p

  pub view_all : (g : ℕ) (d us : List ℕ) (n : ℕ) → us ≡ cells n (Shown g) ++ drop (cell_words * n) d
      → n ≡ locations_in t
      → length d ≡ cell_words * locations_in t
      → us ≡ view_in t g ws
  unfolding view_in view_by
  view_all g d us n e k m = stored_all (Shown g) n d us (omega arith) e ∙ ap (λ (j : ℕ). cells j (Shown g)) k

  -- ---- what a call answers and leaves

  module _ (n : ℕ) where
    pub view_7 : (n ≡ cell_words * locations_in t → ⊥) → 7 ≡ view_refusal_in t ws n
    unfolding view_refusal_in slice_refusal
    view_7 h = simp (ne_eqb n (cell_words * locations_in t) h)

    pub view-answer : n ≡ cell_words * locations_in t → refusal_in t ws ≡ view_refusal_in t ws n
    unfolding view_refusal_in slice_refusal
    view-answer h = simp (eq-eqb n (cell_words * locations_in t) h)

  module _ (g : ℕ) (vs : List ℕ) {r : ℕ} (e : r ≡ view_refusal_in t ws (length vs)) where
    pub left_refused : (r ≡ 0 → ⊥) → vs ≡ view_leaves_in t g ws vs
    unfolding view_leaves_in leaves
    left_refused h = simp (ne_eqb (view_refusal_in t ws (length vs)) 0 (λ k. h (e ∙ k)))

    pub left_shown : {us : List ℕ} → r ≡ 0 → us ≡ view_in t g ws → us ≡ view_leaves_in t g ws vs
    unfolding view_leaves_in leaves
    left_shown h k = k ∙ simp (eq-eqb (view_refusal_in t ws (length vs)) 0 (sym e ∙ h))

-- the number of a refusal isn't 0
pub refusal-number : (e : MemoryError) → memory_number (Err e) ≡ 0 → ⊥
unfolding memory_number
refusal-number OtherSize h = omega arith
refusal-number IllFormed h = omega arith

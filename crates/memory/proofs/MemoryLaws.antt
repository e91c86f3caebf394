-- Laws of a memory whose words are well-formed, over the number of locations and labels and the test of each location's
-- value: its values, and its words from its values.
use mathlib.Core.Path.{◌≡◌, refl, sym, ap, ◌∙◌}
use mathlib.Core.Bool.{Bool, true, false, cond}
use mathlib.Core.List.{List}
use Prim.Native.Nat.{ℕ, ◌*◌, ◌-◌, ◌≤◌, ◌<◌}
use native.Mathlib.Omega.{arith}
use borrow.Author.Tests.{lt-ltb, le-ltb, eqb-true}
use lib.Dec.{eqb}
use lib.ListN.{length}
use Rattle.logic.proofs.BooleanLaws.{both_left, both_right, both_true}
use Rattle.sets.proofs.Walks.{by_below, every_true, every_at}
use Rattle.language.specs.Syntax.{Value, int, size}
use Rattle.language.specs.World.{Mem, cell_words}
use Rattle.memory.specs.Words.{zeros, cell, value_of}
use Rattle.memory.specs.Memory.{cell_of, memory_of, words_of, proper, exactly, holds_by, formed_by, slice_refusal}
use Rattle.memory.specs.Memory.{refusal_by}
use Rattle.memory.proofs.WordLaws.{length-enc, length-cell, value_cell}
use Rattle.memory.proofs.CellLaws.{equal_refl, equal_means}
use Rattle.memory.proofs.CellsLaws.{Cellwise, length-cells, cells_at, cells_ext, cells_all, length-cell_of}

-- ---- one location

module _ (labels : ℕ) (test : Value → Bool) (ws : List ℕ) (v : Value) where
  pub exact_parts : exactly labels test ws v ≡ true → (proper labels v ≡ true) × (test v ≡ true) × (cell v ≡ ws)
  unfolding exactly
  exact_parts h = let k = both_right _ _ h in (both_left _ _ h, both_left _ _ k, equal_means _ _ (both_right _ _ k))

  -- words that are a cell hold its value
  pub cell_holds : proper labels v ≡ true → test v ≡ true → cell v ≡ ws → holds_by labels test ws ≡ true
  unfolding exactly
  cell_holds p q e =
      let u : value_of ws ≡ v = ap value_of (sym e) ∙ value_cell v in
      rw u (both_true p (both_true q (rw e (equal_refl ws))))

-- a value whose words fill a location is not too long
pub cell_fits : (v : Value) → length (cell v) ≡ cell_words → size v ≤ cell_words
unfolding cell
cell_fits v h = omega (arith, length-enc v (zeros (cell_words - size v)))

-- ---- a memory's values

module _ (ws : List ℕ) (x : ℕ) where
  pub value_there : cell_words * x < length ws → memory_of ws x ≡ value_of (cell_of ws x)
  unfolding memory_of
  value_there h = simp (lt-ltb _ _ h)

  pub value_past : length ws ≤ cell_words * x → memory_of ws x ≡ int 0
  unfolding memory_of
  value_past h = simp (le-ltb _ _ h)

module _ (n labels : ℕ) (test : ℕ → Value → Bool) (ws : List ℕ) (whole : length ws ≡ cell_words * n)
    (f : formed_by n labels test ws ≡ true) where
  pub value_exact : (x : ℕ) → x < n
      → (proper labels (memory_of ws x) ≡ true) × (test x (memory_of ws x) ≡ true)
      × (cell (memory_of ws x) ≡ cell_of ws x)
  unfolding formed_by
  value_exact x l =
      rw (value_there ws x (omega arith)) (exact_parts labels (test x) (cell_of ws x) _ (every_at n _ f x l))

  -- the words of a location are those of its value
  pub value_words : (x : ℕ) → x < n → cell (memory_of ws x) ≡ cell_of ws x
  value_words x l = (value_exact x l).2

  pub value_passes : (x : ℕ) → x < n → test x (memory_of ws x) ≡ true
  value_passes x l = (value_exact x l).1

  by_place : (P : Value → Type 0) → P (int 0) → ((x : ℕ) → x < n → P (memory_of ws x)) → (x : ℕ) → P (memory_of ws x)
  by_place P z h x = by_below x n (h x) (λ l. rw (value_past ws x (omega arith)) z)

  pub value_proper : (x : ℕ) → proper labels (memory_of ws x) ≡ true
  unfolding proper
  value_proper = by_place (λ v. proper labels v ≡ true) refl (λ x l. (value_exact x l).0)

  -- no value is too long
  pub value_fits : (x : ℕ) → size (memory_of ws x) ≤ cell_words
  unfolding size
  value_fits = by_place (λ v. size v ≤ cell_words) (omega arith)
      (λ x l. cell_fits (memory_of ws x) (ap length (value_words x l) ∙ length-cell_of ws x (omega arith)))

  -- the words are those of the values
  pub words_back : words_of n (memory_of ws) ≡ ws
  unfolding words_of
  words_back = cells_ext n (λ (x : ℕ). cell (memory_of ws x)) (λ (x : ℕ). cell_of ws x) value_words
      ∙ cells_all n ws whole

-- ---- the words of values

module _ (n : ℕ) (M : Mem) (fits : (x : ℕ) → x < n → size (M x) ≤ cell_words) where
  pub cellwise : Cellwise n (λ (x : ℕ). cell (M x))
  cellwise x l = length-cell (M x) (fits x l)

  pub length_words : length (words_of n M) ≡ cell_words * n
  unfolding words_of
  length_words = length-cells n (λ (x : ℕ). cell (M x)) cellwise

  pub words_at : (x : ℕ) → x < n → cell_of (words_of n M) x ≡ cell (M x)
  unfolding words_of
  words_at x l = cells_at n (λ (x : ℕ). cell (M x)) cellwise x l

  -- the values are back
  pub values_back : (x : ℕ) → x < n → memory_of (words_of n M) x ≡ M x
  values_back x l =
      value_there (words_of n M) x (omega (arith, length_words)) ∙ ap value_of (words_at x l) ∙ value_cell (M x)

  pub words_formed : (labels : ℕ) (test : ℕ → Value → Bool) → ((x : ℕ) → x < n → proper labels (M x) ≡ true)
      → ((x : ℕ) → x < n → test x (M x) ≡ true)
      → formed_by n labels test (words_of n M) ≡ true
  unfolding formed_by
  words_formed labels test p q =
      every_true n _
      (λ x l. cell_holds labels (test x) (cell_of (words_of n M) x) (M x) (p x l) (q x l) (sym (words_at x l)))

-- ---- refusals

module _ (n : ℕ) (formed : Bool) (ws : List ℕ) (h : refusal_by n formed ws ≡ 0) where
  pub unrefused-length : length ws ≡ cell_words * n
  unfolding refusal_by slice_refusal
  unrefused-length = eqb-true (length ws) (cell_words * n) (on (eqb (length ws) (cell_words * n)) h)
    where
      on : (b : Bool) → ◌≡◌ {A = ℕ} (cond b (cond formed 0 8) 7) 0 → b ≡ true
      on true e = refl
      on false e = absurd (omega arith)

  pub unrefused-formed : formed ≡ true
  unfolding refusal_by slice_refusal
  unrefused-formed = on (eqb (length ws) (cell_words * n)) formed h
    where
      on : (b c : Bool) → ◌≡◌ {A = ℕ} (cond b (cond c 0 8) 7) 0 → c ≡ true
      on true true e = refl
      on true false e = absurd (omega arith)
      on false c e = absurd (omega arith)

-- Laws of the view: one location's words, and all of them.
use mathlib.Core.Path.{◌≡◌, refl, sym, ap, ◌∙◌}
use mathlib.Core.Bool.{Bool, true, false}
use mathlib.Core.List.{List, [], ◌++◌}
use Prim.Native.Nat.{ℕ, zero, suc, ◌+◌, ◌-◌, ◌≤◌}
use native.Mathlib.Omega.{arith}
use native.Mathlib.Nat.{zero-add, add-zero}
use lib.ListN.{length, drop}
use lib.Seq.{sets, sets-eq}
use Rattle.language.specs.Syntax.{Value, int, err, inl, inr, pkg, pair, blank, size}
use Rattle.language.specs.World.{cell_words}
use Rattle.language.specs.View.{seen, mask}
use Rattle.sheet.specs.Internal.Tables.{home_in, reads_in}
use Rattle.memory.specs.Words.{enc, zeros, cell, read_of, value_of}
use Rattle.memory.specs.View.{view_cell}
use Rattle.memory.specs.Internal.InTable.{sees_in}
use Rattle.memory.specs.Internal.Post.{Masks}
use Rattle.memory.proofs.WordLaws.{size_pos, length-enc, enc-append}

-- ---- masks

pub seen_size : (b : Bool) (v : Value) (n : ℕ) → size v ≤ n → 1 ≤ n → size (seen b v) ≤ n
unfolding seen size
seen_size true v n h k = h
seen_size false v n h k = k

-- a mask is no longer than the value
pub mask_size : (shows : ℕ → Bool) (v : Value) → size (mask shows v) ≤ size v
unfolding mask size
mask_size shows (int n) = omega arith
mask_size shows (err e) = omega arith
mask_size shows (inl v) = omega (arith, mask_size shows v)
mask_size shows (inr v) = omega (arith, mask_size shows v)
mask_size shows (pkg h v) =
    omega (arith, seen_size (shows h.label) (mask shows v) (size v) (mask_size shows v) (size_pos v))
mask_size shows (pair v w) = omega (arith, mask_size shows v, mask_size shows w)
mask_size shows blank = omega arith

-- what a view has for a location: the cell of the masked value, 16 zero words being the cell of one that is hidden
pub view-cell : (b : Bool) (v : Value) → view_cell b v ≡ cell (seen b v)
unfolding view_cell seen cell enc size
view-cell true v = refl
view-cell false v = refl

-- ---- words stored over zeros

drop-zeros : (k n : ℕ) → drop k (zeros (k + n)) ≡ zeros n
drop-zeros zero n = rw (zero-add n) refl
drop-zeros (suc k) n =
    let e : suc k + n ≡ suc (k + n) = omega arith in
    rw e (drop-zeros k n)

pub stored-cell : (v : Value) → size v ≤ cell_words → sets (zeros cell_words) 0 (enc v []) ≡ cell v
unfolding cell
stored-cell v h =
    let n : length (enc v []) ≡ size v = length-enc v [] ∙ add-zero (size v) in
    let e : cell_words ≡ size v + (cell_words - size v) = omega arith in
    sets-eq (enc v []) (zeros cell_words) 0 (omega arith)
    ∙ rw (zero-add (length (enc v [])), n) (ap (λ (us : List ℕ). enc v [] ++ us)
    (ap (λ (k : ℕ). drop (size v) (zeros k)) e ∙ drop-zeros (size v) (cell_words - size v)))
    ∙ enc-append v [] (zeros (cell_words - size v))

-- ---- one location

module _ (t : List ℕ) (g x : ℕ) {home : ℕ} {r : Bool} (e : home ≡ home_in t x) (k : r ≡ reads_in t g home) where
  sees_is : sees_in t g x ≡ r
  unfolding sees_in
  sees_is = rw (← e) (sym k)

  pub hidden_view : (v : Value) → r ≡ false → zeros cell_words ≡ view_cell (sees_in t g x) v
  unfolding view_cell
  hidden_view v h = rw (sees_is, h) refl

  pub shown-view : {ws left : List ℕ} {next end : ℕ} → r ≡ true
      → Masks (reads_in t g) ws (read_of ws) (zeros cell_words) 0 left next end
      → size (value_of ws) ≤ cell_words
      → left ≡ view_cell (sees_in t g x) (mask (reads_in t g) (value_of ws))
  unfolding view_cell
  shown-view {ws = ws} h m s =
      let q = mask_size (reads_in t g) (value_of ws) in
      m.stored ∙ rw (sees_is, h) (stored-cell (mask (reads_in t g) (value_of ws)) (omega arith))

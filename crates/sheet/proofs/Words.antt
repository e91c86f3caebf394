-- Words that stand in a table: lists filled up with zeros, and two words for each element of a list.
use mathlib.Core.Path.{◌≡◌, refl, sym, ap, ◌∙◌}
use mathlib.Core.List.{List, [], ◌∷◌, ◌++◌}
use Prim.Native.Nat.{ℕ, zero, suc, ◌+◌, ◌*◌, ◌<◌, ◌≤◌}
use native.Mathlib.Omega.{arith}
use lib.ListN.{length, get_or, length-append, length-replicate, get_or-append, get_or-eq_default}
use lib.Seq.{get_or-append-add}
use Rattle.sets.proofs.Walks.{by_below}
use Rattle.sheet.specs.Padding.{padded}
use Rattle.sheet.specs.Internal.Tables.{entry_words, entry_in}
use Rattle.sheet.proofs.Entries.{entry_there, entry_past}

-- ---- filled up with zeros

pub length-padded : (n : ℕ) (xs : List ℕ) → length xs ≤ n → length (padded n xs) ≡ n
unfolding padded
length-padded n xs h = simp (length-append, length-replicate) (omega arith)

-- a word of the block that stands behind some words
pub block_at : (before ws after : List ℕ) (room k : ℕ) → length ws ≤ room → k < length ws
    → get_or (before ++ (padded room ws ++ after)) (length before + k) 0 ≡ get_or ws k 0
unfolding padded
block_at before ws after room k fits h =
    get_or-append-add before (padded room ws ++ after) k 0
    ∙ get_or-append (padded room ws) after 0 k (omega (arith, length-padded room ws fits))
    ∙ get_or-append ws _ 0 k h

-- ---- two words for each element

module _ {A : Type 0} (first second : A → ℕ) where
  pub length_entries : (xs : List A) → length (entry_words first second xs) ≡ 2 * length xs
  unfolding entry_words
  length_entries [] = refl
  length_entries (x ∷ xs) = omega (arith, length_entries xs)

  pub entry_at : (xs : List A) (d : A) (i : ℕ) → i < length xs
      → (get_or (entry_words first second xs) (0 + 2 * i) 0 ≡ first (get_or xs i d))
      × (get_or (entry_words first second xs) (1 + 2 * i) 0 ≡ second (get_or xs i d))
  unfolding entry_words
  entry_at [] d i h = absurd (omega arith)
  entry_at (x ∷ xs) d zero h = (refl, refl)
  entry_at (x ∷ xs) d (suc i) h =
      let e : 0 + 2 * suc i ≡ suc (suc (0 + 2 * i)) = omega arith in
      let k : 1 + 2 * suc i ≡ suc (suc (1 + 2 * i)) = omega arith in
      rw (e, k) (entry_at xs d i (omega arith))

-- ---- the entry of an element

-- One of the two words that a block has for each element of xs, the one at place j: f of the element; 0 past the last.
pub entry_of : {A : Type 0} (xs : List A) (d : A) (f : A → ℕ) (j : ℕ) (before ws after : List ℕ) (room base : ℕ)
    → f d ≡ 0 → base ≡ length before + j → j < 2 → length ws ≡ 2 * length xs → length ws ≤ room
    → ((i : ℕ) → i < length xs → get_or ws (j + 2 * i) 0 ≡ f (get_or xs i d))
    → (i : ℕ) → entry_in (before ++ (padded room ws ++ after)) (length xs) base i ≡ f (get_or xs i d)
entry_of xs d f j before ws after room base none start two long fits word i =
    by_below i (length xs)
    (λ h.
    let place : base + 2 * i ≡ length before + (j + 2 * i) = omega arith in
    entry_there _ (length xs) base i h
    ∙ ap (λ (k : ℕ). get_or (before ++ (padded room ws ++ after)) k 0) place
    ∙ block_at before ws after room (j + 2 * i) fits (omega arith)
    ∙ word i h)
    (λ h. entry_past _ (length xs) base i h ∙ sym none ∙ ap f (sym (get_or-eq_default xs d {n = i} h)))

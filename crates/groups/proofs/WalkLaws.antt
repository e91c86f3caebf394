-- The walk through the groups: the rest of the list at each of its steps.
use mathlib.Core.Path.{◌≡◌, sym, ap, ◌∙◌}
use mathlib.Core.Bool.{true, false}
use mathlib.Core.List.{List, [], ◌∷◌}
use Prim.Native.Nat.{ℕ, zero, suc, ◌+◌, ◌-◌, ◌^◌, ◌≤◌, ◌<◌, suc-le-suc}
use native.Mathlib.Omega.{arith}
use lib.ListN.{length}
use Rattle.logic.proofs.BooleanLaws.{cases}
use Rattle.sets.proofs.Walks.{by_below}
use Rattle.groups.specs.Smallest.{AccessStructure}
use Rattle.groups.specs.Listing.{is_smallest, smallest_from, smallest_of}
use Rattle.groups.specs.Internal.Walk.{past_holders, smallest_up_to}
use Rattle.groups.proofs.SmallestLaws.{holder_not, silent_not}
use Rattle.groups.proofs.PastLaws.{past_rises, past_holds}
use Rattle.groups.proofs.ListLaws.{from_on, from_off, from_over}

module _ (reads : AccessStructure) (end : ℕ) where
  abbrev left : ℕ → List ℕ
  left from = smallest_up_to reads end from

  pub left_over : (g : ℕ) → end ≤ g → left g ≡ []
  unfolding smallest_up_to
  left_over g l = let z : end - g ≡ 0 = omega arith in rw z (from_over reads g)

  up_to_next : (g : ℕ) → g < end → end - g ≡ suc (end - suc g)
  up_to_next g l = omega arith

  left_found : (g : ℕ) → g < end → is_smallest reads g ≡ true → left g ≡ g ∷ left (suc g)
  unfolding smallest_up_to
  left_found g l t = rw (up_to_next g l) (from_on reads (end - suc g) g t)

  pub left_step : (g : ℕ) → is_smallest reads g ≡ false → left g ≡ left (suc g)
  unfolding smallest_up_to
  left_step g f =
      by_below g end (λ l. rw (up_to_next g l) (from_off reads (end - suc g) g f))
      (λ l. left_over g l ∙ sym (left_over (suc g) (omega arith)))

  left_steps : (k g : ℕ) → ((h : ℕ) → g ≤ h → h < g + k → is_smallest reads h ≡ false) → left g ≡ left (g + k)
  left_steps zero g f = ap left (omega arith)
  left_steps (suc k) g f =
      left_step g (f g (omega arith) (omega arith)) ∙ left_steps k (suc g) (λ h a b. f h (omega arith) (omega arith))
      ∙ ap left (omega arith)

  -- none of those that hold a group that reads is smallest
  left_past : (g : ℕ) → 1 ≤ g → reads g ≡ true → left (suc g) ≡ left (past_holders g)
  left_past g p r =
      left_steps (past_holders g - suc g) (suc g)
      (λ h a b. holder_not reads g h r (past_holds g h p (omega arith) (omega (arith, past_rises g)))
      (λ z. omega arith))
      ∙ ap left (omega (arith, past_rises g))

  -- a group that is smallest is the first of the rest
  pub walk_found : (g : ℕ) → 1 ≤ g → g < end → reads g ≡ true → is_smallest reads g ≡ true
      → left g ≡ g ∷ left (past_holders g)
  walk_found g p l r t = left_found g l t ∙ ap (λ (gs : List ℕ). g ∷ gs) (left_past g p r)

  -- after one that reads and isn't, the rest is the same
  pub walk_past : (g : ℕ) → 1 ≤ g → reads g ≡ true → is_smallest reads g ≡ false → left g ≡ left (past_holders g)
  walk_past g p r f = left_step g f ∙ left_past g p r

-- of k numbers no more are smallest than k
length_from : (reads : AccessStructure) (k g : ℕ) → length (smallest_from reads k g) ≤ k
length_from reads zero g = rw (from_over reads g) (omega arith)
length_from reads (suc k) g =
    let i = length_from reads k (suc g) in
    cases (is_smallest reads g) (λ t. rw (from_on reads k g t) (suc-le-suc i))
    (λ f. rw (from_off reads k g f) (omega arith))

pub left_few : (reads : AccessStructure) (end : ℕ) → length (smallest_up_to reads end 1) ≤ end
unfolding smallest_up_to
left_few reads end = omega (arith, length_from reads (end - 1) 1)

-- where the empty group doesn't read, the walk begins at 1
pub from_one : (reads : AccessStructure) (n : ℕ) → reads 0 ≡ false
    → smallest_of n reads ≡ smallest_up_to reads (2 ^ n) 1
unfolding smallest_of smallest_up_to
from_one reads n f =
    let z : 2 ^ n - 0 ≡ 2 ^ n = omega arith in
    ap (λ (k : ℕ). smallest_from reads k 0) (sym z) ∙ left_step reads (2 ^ n) 0 (silent_not reads 0 f)

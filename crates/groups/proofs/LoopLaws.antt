-- The steps of the walk: what is still to come from a group on, by what the group is.
use mathlib.Core.Path.{◌≡◌, refl, sym, ap, ap₂, ◌∙◌}
use mathlib.Core.Bool.{Bool, true, false}
use mathlib.Core.List.{List, ◌∷◌, ◌++◌}
use Prim.Native.Nat.{ℕ, ◌+◌, ◌^◌, ◌≤◌, ◌<◌}
use native.Mathlib.Nat.{zero-add}
use lib.ListN.{length, set, get_or, take, drop}
use lib.Seq.{paste, take_all}
use Rattle.std.proofs.lemmas.List.Edits.{paste_more, paste_all}
use Rattle.std.proofs.lemmas.List.FromFn.{length-enumerate_from, get_or-enumerate_from}
use Rattle.std.specs.List.{enumerate_from}
use native.Mathlib.Omega.{arith}
use native.Mathlib.Numerals.{add-one}
use Rattle.logic.proofs.BooleanLaws.{both_on}
use Rattle.sets.specs.Sets.{width}
use Rattle.groups.specs.Smallest.{AccessStructure, Grows}
use Rattle.groups.specs.Listing.{is_smallest}
use Rattle.groups.specs.Internal.Walk.{past_holders, needs_each, smallest_up_to}
use Rattle.groups.proofs.SmallestLaws.{silent_not, one_less}
use Rattle.groups.proofs.WalkLaws.{left_step, walk_found, walk_past}

module _ (reads : AccessStructure) (end : ℕ) where
  abbrev left : ℕ → List ℕ
  left from = smallest_up_to reads end from

  -- a group that doesn't read is passed by
  pub next_silent : (g : ℕ) → reads g ≡ false → left g ≡ left (g + 1)
  next_silent g f = left_step reads end g (silent_not reads g f) ∙ ap left (sym (add-one g))

  module _ (grows : Grows reads) (g : ℕ) (some : 1 ≤ g) (below : g < end) (few : end ≤ 2 ^ width)
      (r : reads g ≡ true) {b : Bool} (tested : b ≡ needs_each reads g) where
    is-tested : b ≡ is_smallest reads g
    is-tested = tested ∙ both_on (reads g) (needs_each reads g) r ∙ sym (one_less reads grows g (omega arith))

    -- of one that reads the walk goes on behind those that hold it, and it is the next if it needs each member
    pub next_found : b ≡ true → left g ≡ g ∷ left (past_holders g)
    next_found e = walk_found reads end g some below r (sym is-tested ∙ e)

    pub next_past : b ≡ false → left g ≡ left (past_holders g)
    next_past e = walk_past reads end g some r (sym is-tested ∙ e)

-- ---- the places

-- the group that a walk gives with its number is written to the place of that number
module _ (before all : List ℕ) (room : length all ≤ length before) where
  pub placed_more : (n k i g : ℕ) → n ≡ length all → k < length (take n (enumerate_from 0 all))
      → ◌≡◌ {A = ℕ × ℕ} (i, g) (get_or (take n (enumerate_from 0 all)) k (i, g))
      → set (paste before 0 all k) i g ≡ paste before 0 all (k + 1)
  placed_more n k i g e l is =
      let whole : take n (enumerate_from 0 all) ≡ enumerate_from 0 all =
      take_all n (enumerate_from 0 all) (omega (arith, e, length-enumerate_from 0 all)) in
      let m : k < length all = omega (arith, ap length whole, length-enumerate_from 0 all) in
      let at = is ∙ ap (λ (xs : List (ℕ × ℕ)). get_or xs k (i, g)) whole ∙ get_or-enumerate_from 0 all k (i, g) m in
      let place : i ≡ k = ap (λ (p : ℕ × ℕ). p.0) at ∙ zero-add k in
      let group : g ≡ get_or all k g = ap (λ (p : ℕ × ℕ). p.1) at in
      ap₂ (set (paste before 0 all k)) (place ∙ sym (zero-add k)) group
      ∙ paste_more before 0 all k g (omega (arith, zero-add k)) m

  -- where all were given, they stand in the first places
  pub all_given : (n k : ℕ) → n ≡ length all → k ≡ length (take n (enumerate_from 0 all)) → k ≡ length all
  all_given n k e l =
      let whole = take_all n (enumerate_from 0 all) (omega (arith, e, length-enumerate_from 0 all)) in
      l ∙ ap length whole ∙ length-enumerate_from 0 all

  pub placed_all : paste before 0 all (length all) ≡ all ++ drop (length all) before
  placed_all = paste_all before 0 all (length all) refl ∙ ap (λ (k : ℕ). all ++ drop k before) (zero-add (length all))

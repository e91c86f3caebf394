-- The members of a set as a list, the lowest first: the walk over them, and what it computes.
use mathlib.Core.Path.{◌≡◌, refl, sym, ap, ap₂, ◌∙◌}
use mathlib.Core.Bool.{Bool, true, false, cond, not}
use mathlib.Core.List.{List, [], ◌∷◌}
use Prim.Native.Nat.{ℕ, zero, suc, ◌+◌, ◌-◌, ◌^◌, ◌<◌, ◌≤◌}
use native.Mathlib.Numerals.{add-one}
use native.Mathlib.Omega.{arith}
use native.Mathlib.Decide.{dec_lt}
use borrow.Author.Tests.{eq-eqb}
use Rattle.std.specs.Int.{w64}
use Rattle.std.specs.Int.{trailing_zeros, bit_at}
use Rattle.std.specs.List.{fold}
use Rattle.std.proofs.lemmas.Nat.Bits.{bit_at-trailing_zeros}
use Rattle.logic.specs.Booleans.{both}
use Rattle.logic.proofs.BooleanLaws.{not_so, both_no_left, both_no_right, both_implied}
use Rattle.sets.specs.Sets.{member, single}
use Rattle.sets.proofs.SetLaws.{member_empty, member_single, member_single_self, member_difference, single_within}
use Rattle.sets.proofs.SetLaws.{within_le}
use Rattle.labels.specs.declared.Label.{Label}
use Rattle.labels.specs.Labels.{join_of}
use Rattle.members.specs.Internal.Members.{member_in, members_from, members_of, max_members, join_up_to, join_in}
use Rattle.members.proofs.MemberLaws.{up_to_with, up_to_without}

-- ---- the list from a place on

here : (m p n : ℕ) → member p m ≡ true → members_from m p (suc n) ≡ p ∷ members_from m (suc p) n
unfolding members_from
here m p n h = rw h refl

passed : (m p n : ℕ) → member p m ≡ false → members_from m p (suc n) ≡ members_from m (suc p) n
unfolding members_from
passed m p n h = rw h refl

-- places without a member are left out
skipped : (m p a n : ℕ) → a ≤ p → p ≤ a + n → ((q : ℕ) → a ≤ q → q < p → member q m ≡ false)
    → members_from m a n ≡ members_from m p (a + n - p)
skipped m p a zero l k h =
    let e : a ≡ p = omega arith in
    let z : zero ≡ a + zero - p = omega arith in
    ap₂ (members_from m) e z
skipped m p a (suc n) l k h =
    on (dec_lt a p) (λ w. skipped m p (suc a) n w (omega arith) (λ q j i. h q (omega arith) i))
  where
    on : Dec (a < p) → (a < p → members_from m (suc a) n ≡ members_from m p (suc a + n - p))
        → members_from m a (suc n) ≡ members_from m p (a + suc n - p)
    on (yes w) f =
        let z : suc a + n - p ≡ a + suc n - p = omega arith in
        passed m a n (h a (omega arith) w) ∙ f w ∙ ap (members_from m p) z
    on (no w) f =
        let e : a ≡ p = omega arith in
        let z : suc n ≡ a + suc n - p = omega arith in
        ap₂ (members_from m) e z

-- sets with the same members from p on
same_members : (m k p n : ℕ) → ((q : ℕ) → p ≤ q → member q m ≡ member q k) → members_from m p n ≡ members_from k p n
unfolding members_from
same_members m k p zero h = refl
same_members m k p (suc n) h =
    let rest = same_members m k (suc p) n (λ q l. h q (omega arith)) in
    ap₂ (λ (b : Bool) (xs : List ℕ). cond b (p ∷ xs) xs) (h p (omega arith)) rest

pub none_left : members_of 0 ≡ []
unfolding members_from
none_left = skipped 0 max_members 0 max_members (omega arith) (omega arith) (λ q l k. member_empty q)

-- ---- the lowest member first, and then those of the set without it

module _ (m p : ℕ) (bound : p < max_members) (has : member p m ≡ true)
    (lowest : (q : ℕ) → q < p → member q m ≡ false) where
  inside : single p ≤ m
  inside = within_le (single p) m (single_within p m ∙ has)

  without : (q : ℕ) → member q (m - single p) ≡ both (member q m) (not (member q (single p)))
  without q = member_difference q m (single p) (single_within p m ∙ has)

  gone : (q : ℕ) → q < suc p → member q (m - single p) ≡ false
  gone q l = on (dec_lt q p)
    where
      on : Dec (q < p) → member q (m - single p) ≡ false
      on (yes k) = without q ∙ both_no_left _ _ (lowest q k)
      on (no k) =
          let e : p ≡ q = omega arith in
          without q ∙ both_no_right (member q m) _ (rw (← e, member_single_self p) refl)

  kept : (q : ℕ) → suc p ≤ q → member q m ≡ member q (m - single p)
  kept q l = sym (without q ∙ rw (not_so (member q (single p)) (λ h. omega (arith, member_single q p h))) stays)
    where
      stays : both (member q m) (not false) ≡ member q m
      stays = both_implied (member q m) true (λ h. refl)

  pub lowest_first : members_of m ≡ p ∷ members_of (m - single p)
  lowest_first =
      let z : 0 + max_members - p ≡ suc (0 + max_members - suc p) = omega arith in
      skipped m p 0 max_members (omega arith) (omega arith) (λ q l k. lowest q k)
      ∙ ap (members_from m p) z ∙ here m p _ has
      ∙ ap (λ (xs : List ℕ). p ∷ xs) (same_members m (m - single p) (suc p) _ kept
      ∙ sym (skipped (m - single p) (suc p) 0 max_members (omega arith) (omega arith) (λ q l k. gone q k)))

module _ (m : ℕ) (some : 0 < m) (fits : m < 2 ^ 64) where
  first_place : ℕ
  first_place = trailing_zeros w64 m

  found : (first_place < 64) × (bit_at m first_place ≡ 1) × ((i : ℕ) → i < first_place → bit_at m i ≡ 0)
  unfolding first_place
  found = bit_at-trailing_zeros w64 m some fits

  has_first : member first_place m ≡ true
  unfolding member
  has_first = eq-eqb _ _ found.1

  none_before : (q : ℕ) → q < first_place → member q m ≡ false
  unfolding member
  none_before q l = let e = found.2 q l in rw e refl

  pub first_there : trailing_zeros w64 m < 64
  unfolding first_place
  first_there = found.0

  pub first_within : single (trailing_zeros w64 m) ≤ m
  unfolding first_place
  first_within = inside m first_place found.0 has_first none_before

  pub first_of : members_of m ≡ trailing_zeros w64 m ∷ members_of (m - single (trailing_zeros w64 m))
  unfolding first_place
  first_of = lowest_first m first_place found.0 has_first none_before

-- ---- what is computed of them: the join of their labels, and a test of each

module _ (t : List ℕ) where
  abbrev pub joins : Label → ℕ → Label
  joins a q = join_of a (member_in t q)

  joined_from : (m p n : ℕ)
      → fold joins (join_up_to t m p) (members_from m p n) ≡ join_up_to t m (p + n)
  unfolding members_from
  joined_from m p zero = let z : p ≡ p + zero = omega arith in ap (join_up_to t m) z
  joined_from m p (suc n) =
      let z : suc p + n ≡ p + suc n = omega arith in
      one (member p m) (members_from m (suc p) n) refl
      ∙ rw (add-one p) (joined_from m (suc p) n) ∙ ap (join_up_to t m) z
    where
      one : (b : Bool) (xs : List ℕ) → member p m ≡ b
          → fold joins (join_up_to t m p) (cond b (p ∷ xs) xs) ≡ fold joins (join_up_to t m (p + 1)) xs
      one true xs h = ap (λ (a : Label). fold joins a xs) (up_to_with t m p h)
      one false xs h = ap (λ (a : Label). fold joins a xs) (up_to_without t m p h)

  pub joined_of : (m : ℕ) → fold (λ a q. join_of a (member_in t q)) (join_up_to t m 0) (members_of m) ≡ join_in t m
  unfolding join_in
  joined_of m = joined_from m 0 max_members

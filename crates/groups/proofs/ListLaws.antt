-- The list of smallest groups: what stands in it, that it rises, that there is no other, and that it says who reads.
use mathlib.Core.Logic.{◌⊎◌, inl, inr, ⊎_elim}
use mathlib.Core.Path.{◌≡◌, refl, sym, ap₂, ◌∙◌}
use mathlib.Core.Bool.{true, false}
use mathlib.Core.List.{List, [], ◌∷◌}
use Prim.Native.Nat.{ℕ, zero, suc, ◌+◌, ◌^◌, ◌≤◌, ◌<◌, suc-le-suc}
use native.Mathlib.Nat.{le_of_suc-le-suc, not-suc-le-zero, zero-lt-suc, le_refl, eq-or-lt_of_le}
use native.Mathlib.Omega.{arith}
use lib.Pow.{pow_pos}
use lib.ListN.{length, get_or}
use borrow.Author.Tests.{not-false}
use Rattle.logic.specs.Booleans.{both}
use Rattle.logic.proofs.BooleanLaws.{absurd_false, cases, both_left, both_right, both_yes_left}
use Rattle.sets.specs.Sets.{within, everyone}
use Rattle.sets.proofs.Walks.{every_fails}
use Rattle.sets.proofs.SetLaws.{within_refl, within_trans, within_le, within_everyone}
use Rattle.groups.specs.Smallest.{AccessStructure, Smallest, Listed, ListsSmallest}
use Rattle.groups.specs.Listing.{is_smallest, smallest_from, smallest_of}
use Rattle.groups.specs.Theorems.{GroupsExact, ReadersHoldOne}
use Rattle.groups.proofs.SmallestLaws.{smallest_iff}

-- ---- what stands in a list

listed_none : {x : ℕ} → ¬ Listed x []
listed_none (i, l, e) = not-suc-le-zero l

listed_first : (x : ℕ) (ys : List ℕ) → Listed x (x ∷ ys)
listed_first x ys = (0, zero-lt-suc (length ys), refl)

listed-later : (x y : ℕ) (ys : List ℕ) → Listed x ys → Listed x (y ∷ ys)
listed-later x y ys (i, l, e) = (suc i, suc-le-suc l, e)

listed_in : (x y : ℕ) (ys : List ℕ) → Listed x (y ∷ ys) → (y ≡ x) ⊎ Listed x ys
listed_in x y ys (zero, l, e) = inl e
listed_in x y ys (suc i, l, e) = inr (i, le_of_suc-le-suc l, e)

-- ---- rising lists

abbrev Rising : List ℕ → Type 0
Rising gs = (i j : ℕ) → i < j → j < length gs → get_or gs i 0 < get_or gs j 0

rising_none : Rising []
rising_none i j l u = absurd (not-suc-le-zero u)

rising_on : (x : ℕ) (ys : List ℕ) → ((y : ℕ) → Listed y ys → x < y) → Rising ys → Rising (x ∷ ys)
rising_on x ys f r zero zero l u = absurd (omega arith)
rising_on x ys f r zero (suc j) l u = f (get_or ys j 0) (j, le_of_suc-le-suc u, refl)
rising_on x ys f r (suc i) zero l u = absurd (omega arith)
rising_on x ys f r (suc i) (suc j) l u = r i j (le_of_suc-le-suc l) (le_of_suc-le-suc u)

rising_rest : (x : ℕ) (ys : List ℕ) → Rising (x ∷ ys) → Rising ys
rising_rest x ys r i j l u = r (suc i) (suc j) (suc-le-suc l) (suc-le-suc u)

rising_above : (x : ℕ) (ys : List ℕ) → Rising (x ∷ ys) → (y : ℕ) → Listed y ys → x < y
rising_above x ys r y (i, l, e) = rw (← e) (r 0 (suc i) (omega arith) (suc-le-suc l))

-- two rising lists of the same numbers are equal
same_rising : (xs ys : List ℕ) → Rising xs → Rising ys → ((z : ℕ) → Listed z xs → Listed z ys)
    → ((z : ℕ) → Listed z ys → Listed z xs) → xs ≡ ys
same_rising [] [] r q f g = refl
same_rising [] (y ∷ ys) r q f g = absurd (listed_none (g y (listed_first y ys)))
same_rising (x ∷ xs) [] r q f g = absurd (listed_none (f x (listed_first x xs)))
same_rising (x ∷ xs) (y ∷ ys) r q f g =
    ap₂ (λ (z : ℕ) (zs : List ℕ). z ∷ zs) first
    (same_rising xs ys (rising_rest x xs r) (rising_rest y ys q)
    (λ z l. ⊎_elim (λ e. absurd (omega (arith, first, e, rising_above x xs r z l))) (λ m. m)
    (listed_in z y ys (f z (listed-later z x xs l))))
    (λ z l. ⊎_elim (λ e. absurd (omega (arith, first, e, rising_above y ys q z l))) (λ m. m)
    (listed_in z x xs (g z (listed-later z y ys l)))))
  where
    first : x ≡ y
    first =
        ⊎_elim (λ e. sym e)
        (λ l. ⊎_elim (λ e. e) (λ m. absurd (omega (arith, rising_above y ys q x l, rising_above x xs r y m)))
        (listed_in y x xs (g y (listed_first y ys))))
        (listed_in x y ys (f x (listed_first x xs)))

-- ---- the list of smallest groups

module _ (reads : AccessStructure) where
  pub from_on : (k g : ℕ) → is_smallest reads g ≡ true
      → smallest_from reads (suc k) g ≡ g ∷ smallest_from reads k (suc g)
  unfolding smallest_from
  from_on k g e = rw e refl

  pub from_off : (k g : ℕ) → is_smallest reads g ≡ false → smallest_from reads (suc k) g ≡ smallest_from reads k (suc g)
  unfolding smallest_from
  from_off k g e = rw e refl

  pub from_over : (g : ℕ) → smallest_from reads 0 g ≡ []
  unfolding smallest_from
  from_over g = refl

  -- each that stands in it is smallest, and among the k numbers from g on
  from_sound : (k g x : ℕ) → Listed x (smallest_from reads k g) → (g ≤ x) × (x < g + k) × (is_smallest reads x ≡ true)
  from_sound zero g x l = absurd (listed_none (rw (from_over g) at l))
  from_sound (suc k) g x l =
      cases (is_smallest reads g)
      (λ t. ⊎_elim (λ e. (omega arith, omega arith, rw (← e) t)) (λ m. on (from_sound k (suc g) x m))
      (listed_in x g (smallest_from reads k (suc g)) (rw (from_on k g t) at l)))
      (λ f. on (from_sound k (suc g) x (rw (from_off k g f) at l)))
    where
      on : (suc g ≤ x) × (x < suc g + k) × (is_smallest reads x ≡ true)
          → (g ≤ x) × (x < g + suc k) × (is_smallest reads x ≡ true)
      on (a, b, c) = (omega arith, omega arith, c)

  -- and each of these stands in it
  from_all : (k g x : ℕ) → g ≤ x → x < g + k → is_smallest reads x ≡ true → Listed x (smallest_from reads k g)
  from_all zero g x a b t = absurd (omega arith)
  from_all (suc k) g x a b t =
      cases (is_smallest reads g)
      (λ s. rw (from_on k g s) (⊎_elim (λ e. rw (← e) (listed_first g (smallest_from reads k (suc g)))) (λ l.
      listed-later x g (smallest_from reads k (suc g)) (from_all k (suc g) x l (omega arith) t)) (eq-or-lt_of_le a)))
      (λ f. rw (from_off k g f) (⊎_elim (λ e. absurd (absurd_false (sym f ∙ rw e t)))
      (λ l. from_all k (suc g) x l (omega arith) t) (eq-or-lt_of_le a)))

  from_rising : (k g : ℕ) → Rising (smallest_from reads k g)
  from_rising zero g = rw (from_over g) rising_none
  from_rising (suc k) g =
      cases (is_smallest reads g)
      (λ t. rw (from_on k g t)
      (rising_on g (smallest_from reads k (suc g)) (λ y l. (from_sound k (suc g) y l).0) (from_rising k (suc g))))
      (λ f. rw (from_off k g f) (from_rising k (suc g)))

-- a set of n principals is a number below 2^n
below_all : (n g : ℕ) → within g (everyone n) ≡ true → g < 2 ^ n
unfolding everyone
below_all n g w = omega (arith, within_le g (everyone n) w, pow_pos n)

lists : (n : ℕ) (reads : AccessStructure) → ListsSmallest n reads (smallest_of n reads)
unfolding smallest_of
lists n reads = record {
  listed = λ g. (
    λ l. let (a, b, t) = from_sound reads (2 ^ n) 0 g l in
        (within_everyone n g (omega arith), (smallest_iff reads g).0 t),
    λ (w, s). from_all reads (2 ^ n) 0 g (omega arith) (omega (arith, below_all n g w)) ((smallest_iff reads g).1 s),
  );
  rising = from_rising reads (2 ^ n) 0;
}

pub groups_exact : GroupsExact
groups_exact = record {
  lists = lists;
  no_other = λ n reads gs s.
      same_rising gs (smallest_of n reads) s.rising (lists n reads).rising
      (λ z l. ((lists n reads).listed z).1 ((s.listed z).0 l)) (λ z l. (s.listed z).1 (((lists n reads).listed z).0 l));
}

-- ---- who reads

-- a group that reads and isn't smallest holds a lower one that reads
reads_lower : (reads : AccessStructure) (g : ℕ) → reads g ≡ true → is_smallest reads g ≡ false
    → (h : ℕ) × (h < g) × (within h g ≡ true) × (reads h ≡ true)
unfolding is_smallest
reads_lower reads g r f =
    let (h, l, e) = every_fails g _ (sym (both_yes_left (reads g) _ r) ∙ f) in
    let b = not-false (both (within h g) (reads h)) e in
    (h, l, both_left (within h g) (reads h) b, both_right (within h g) (reads h) b)

-- so it holds one that is smallest
holds_smallest : (reads : AccessStructure) (most g : ℕ) → g ≤ most → reads g ≡ true
    → (h : ℕ) × (within h g ≡ true) × Smallest reads h
holds_smallest reads zero g l r =
    cases (is_smallest reads g) (λ t. (g, within_refl g, (smallest_iff reads g).0 t))
    (λ f. let (h, b, w, t) = reads_lower reads g r f in absurd (omega arith))
holds_smallest reads (suc most) g l r =
    cases (is_smallest reads g) (λ t. (g, within_refl g, (smallest_iff reads g).0 t)) (λ f.
    let (h, b, w, t) = reads_lower reads g r f in
    let (k, v, s) = holds_smallest reads most h (omega arith) t in
    (k, within_trans k h g v w, s))

pub readers_hold_one : ReadersHoldOne
readers_hold_one n reads grows gs s g w = (
  λ r.
      let (h, v, t) = holds_smallest reads g g (le_refl g) r in
      (h, (s.listed h).1 (within_trans h g (everyone n) v w, t), v),
  λ (h, l, v). grows h g v ((s.listed h).0 l).1.itself,
)

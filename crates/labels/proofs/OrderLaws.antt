-- The order of labels, equality, and the join as least upper bound. Each law goes owner by owner.
use mathlib.Core.Path.{◌≡◌, sym, ◌∙◌, subst}
use mathlib.Core.Bool.{true}
use mathlib.Core.List.{List}
use Prim.Native.Nat.{ℕ, ◌<◌}
use lib.ListN.{length, get_or}
use lib.Seq.{ext_get_or}
use borrow.Author.Tests.{eq-eqb, eqb-true}
use Rattle.logic.specs.Booleans.{both}
use Rattle.logic.proofs.BooleanLaws.{bool_ext, both_left, both_right, both_true}
use Rattle.sets.specs.Sets.{union, intersection, within, every}
use Rattle.sets.proofs.Walks.{every_true, every_at, every_both, get_d_tab, length-tab}
use Rattle.sets.proofs.SetLaws.{within_refl, within_trans, within_antisym, intersection_within_left}
use Rattle.sets.proofs.SetLaws.{intersection_within_right, within_intersection, within_union_left, within_union_right}
use Rattle.sets.proofs.SetLaws.{union_within}
use Rattle.labels.specs.declared.Label.{Label}
use Rattle.labels.specs.Labels.{owners, readers_of, writers_of, below_at, below_of, same_at, same_of, join_of, whole_of}

-- ---- a label is its two lists, and a whole label has a place for each owner
pub label_path : (a b : Label) → a.readers ≡ b.readers → a.writers ≡ b.writers → a ≡ b
label_path a b r w = λ i. record { readers = r i; writers = w i }

pub whole_intro : (a : Label) → length a.readers ≡ owners → length a.writers ≡ owners → whole_of a ≡ true
unfolding whole_of
whole_intro a r w = both_true (eq-eqb (length a.readers) owners r) (eq-eqb (length a.writers) owners w)

pub whole_lengths : (a : Label) → whole_of a ≡ true → (length a.readers ≡ owners) × (length a.writers ≡ owners)
unfolding whole_of
whole_lengths a h = (eqb-true _ owners (both_left _ _ h), eqb-true _ owners (both_right _ _ h))

sets_path : (x y : List ℕ) → length x ≡ owners → length y ≡ owners
    → ((o : ℕ) → o < owners → get_or x o 0 ≡ get_or y o 0) → x ≡ y
sets_path x y hx hy e = ext_get_or 0 x y (hx ∙ sym hy) (λ o l. e o (subst (λ (n : ℕ). o < n) hx l))

-- ---- the order, owner by owner
pub below_intro : (a b : Label)
    → ((o : ℕ) → o < owners → within (readers_of b o) (readers_of a o) ≡ true)
    → ((o : ℕ) → o < owners → within (writers_of a o) (writers_of b o) ≡ true)
    → below_of a b ≡ true
unfolding below_of below_at
below_intro a b r w = every_true owners (below_at a b) (λ o l. both_true (r o l) (w o l))

pub below_at_lem : (a b : Label) → below_of a b ≡ true → (o : ℕ) → o < owners
    → (within (readers_of b o) (readers_of a o) ≡ true) × (within (writers_of a o) (writers_of b o) ≡ true)
unfolding below_of below_at
below_at_lem a b h o l = let e = every_at owners (below_at a b) h o l in (both_left _ _ e, both_right _ _ e)

-- the order as one test of readers and one of writers
pub below_split : (a b : Label)
    → below_of a b
    ≡ both (every owners (λ (o : ℕ). within (readers_of b o) (readers_of a o)))
    (every owners (λ (o : ℕ). within (writers_of a o) (writers_of b o)))
unfolding below_of below_at
below_split a b = every_both owners (λ (o : ℕ). within (readers_of b o) (readers_of a o))
    (λ (o : ℕ). within (writers_of a o) (writers_of b o))

pub below_refl : (a : Label) → below_of a a ≡ true
below_refl a = below_intro a a (λ o l. within_refl _) (λ o l. within_refl _)

pub below_trans : (a b c : Label) → below_of a b ≡ true → below_of b c ≡ true → below_of a c ≡ true
below_trans a b c h k =
    below_intro a c (λ o l. within_trans _ _ _ (below_at_lem b c k o l).0 (below_at_lem a b h o l).0)
    (λ o l. within_trans _ _ _ (below_at_lem a b h o l).1 (below_at_lem b c k o l).1)

pub below_antisym : (a b : Label) → whole_of a ≡ true → whole_of b ≡ true → below_of a b ≡ true
    → below_of b a ≡ true → a ≡ b
below_antisym a b ha hb h k =
    label_path a b
    (sets_path _ _ (whole_lengths a ha).0 (whole_lengths b hb).0
    (λ o l. within_antisym _ _ (below_at_lem b a k o l).0 (below_at_lem a b h o l).0))
    (sets_path _ _ (whole_lengths a ha).1 (whole_lengths b hb).1
    (λ o l. within_antisym _ _ (below_at_lem a b h o l).1 (below_at_lem b a k o l).1))

-- ---- the test of equality

-- two labels have the same sets exactly if each is at or below the other
pub same_both_ways : (a b : Label) → same_of a b ≡ both (below_of a b) (below_of b a)
unfolding same_of same_at
same_both_ways a b =
    bool_ext (same_of a b) (both (below_of a b) (below_of b a))
    (λ h.
    let e : (o : ℕ) → o < owners → (readers_of a o ≡ readers_of b o) × (writers_of a o ≡ writers_of b o) =
    λ o l. let s = every_at owners (same_at a b) h o l in
    (eqb-true _ _ (both_left _ _ s), eqb-true _ _ (both_right _ _ s)) in
    both_true (below_intro a b (λ o l. rw (e o l).0 (within_refl _)) (λ o l. rw (e o l).1 (within_refl _)))
    (below_intro b a (λ o l. rw (e o l).0 (within_refl _)) (λ o l. rw (e o l).1 (within_refl _))))
    (λ h.
    let ab = below_at_lem a b (both_left _ _ h) in
    let ba = below_at_lem b a (both_right _ _ h) in
    every_true owners (same_at a b)
    (λ o l. both_true (eq-eqb _ _ (within_antisym _ _ (ba o l).0 (ab o l).0))
    (eq-eqb _ _ (within_antisym _ _ (ab o l).1 (ba o l).1))))

pub same_refl : (a : Label) → same_of a a ≡ true
same_refl a = same_both_ways a a ∙ both_true (below_refl a) (below_refl a)

-- ---- the join is the least upper bound
pub join_at : (a b : Label) (o : ℕ) → o < owners
    → (readers_of (join_of a b) o ≡ intersection (readers_of a o) (readers_of b o))
    × (writers_of (join_of a b) o ≡ union (writers_of a o) (writers_of b o))
unfolding join_of
join_at a b o l = (get_d_tab owners _ o 0 l, get_d_tab owners _ o 0 l)

pub join_whole : (a b : Label) → whole_of (join_of a b) ≡ true
unfolding join_of
join_whole a b = whole_intro (join_of a b) (length-tab _ _) (length-tab _ _)

pub join_left : (a b : Label) → below_of a (join_of a b) ≡ true
join_left a b =
    below_intro a (join_of a b) (λ o l. rw (join_at a b o l).0 (intersection_within_left _ _))
    (λ o l. rw (join_at a b o l).1 (within_union_left _ _))

pub join_right : (a b : Label) → below_of b (join_of a b) ≡ true
join_right a b =
    below_intro b (join_of a b) (λ o l. rw (join_at a b o l).0 (intersection_within_right _ _))
    (λ o l. rw (join_at a b o l).1 (within_union_right _ _))

pub join_least : (a b c : Label) → below_of a c ≡ true → below_of b c ≡ true → below_of (join_of a b) c ≡ true
join_least a b c h k =
    below_intro (join_of a b) c
    (λ o l. rw (join_at a b o l).0 (within_intersection _ _ _ (below_at_lem a c h o l).0 (below_at_lem b c k o l).0))
    (λ o l. rw (join_at a b o l).1 (union_within _ _ _ (below_at_lem a c h o l).1 (below_at_lem b c k o l).1))

-- one test of the join stands for two
pub join_below : (a b c : Label) → below_of (join_of a b) c ≡ both (below_of a c) (below_of b c)
join_below a b c =
    bool_ext (below_of (join_of a b) c) (both (below_of a c) (below_of b c))
    (λ h. both_true (below_trans a (join_of a b) c (join_left a b) h)
    (below_trans b (join_of a b) c (join_right a b) h))
    (λ h. join_least a b c (both_left _ _ h) (both_right _ _ h))

-- Effective labels: what each place of one holds, and which operations keep a label effective.
use mathlib.Core.Path.{◌≡◌, ap, ◌∙◌}
use mathlib.Core.Bool.{true}
use Prim.Native.Nat.{ℕ, ◌<◌, ◌≤◌}
use lib.ListN.{get_or-replicate}
use borrow.Author.Tests.{lt-ltb, le-ltb}
use Rattle.logic.specs.Booleans.{both}
use Rattle.logic.proofs.BooleanLaws.{both_left, both_right, both_true}
use Rattle.sets.specs.Sets.{within, single, everyone, every}
use Rattle.sets.proofs.Walks.{by_below, get_d_tab, length-tab, every_ext}
use Rattle.sets.proofs.SetLaws.{within_refl, single_within_everyone}
use Rattle.labels.specs.declared.Label.{Label}
use Rattle.labels.specs.Labels.{owners, readers_of, writers_of, open_at, below_of, join_of, confidentiality_of}
use Rattle.labels.specs.Labels.{integrity_of, bottom_of, closed_at, top_of, whole_of, effective}
use Rattle.labels.proofs.OrderLaws.{whole_intro, below_intro, below_at_lem, below_refl, below_trans, join_left}
use Rattle.labels.proofs.OrderLaws.{join_least, join_whole}
use Rattle.labels.proofs.PartLaws.{own_at, c_whole, i_whole, bottom_whole, c_mono, i_mono, i_bottom}
use Rattle.labels.proofs.PartLaws.{c_below_readers}

-- ---- an effective label is whole and lies between bottom and top
pub effective_intro : (n : ℕ) (a : Label)
    → whole_of a ≡ true → below_of (bottom_of (everyone n)) a ≡ true → below_of a (top_of n) ≡ true
    → effective n a ≡ true
unfolding effective
effective_intro n a w b t = both_true w (both_true b t)

pub effective_whole : (n : ℕ) (a : Label) → effective n a ≡ true → whole_of a ≡ true
unfolding effective
effective_whole n a h = both_left _ (both (below_of (bottom_of (everyone n)) a) (below_of a (top_of n))) h

pub bottom_least : (n : ℕ) (a : Label) → effective n a ≡ true → below_of (bottom_of (everyone n)) a ≡ true
unfolding effective
bottom_least n a h = both_left _ (below_of a (top_of n)) (both_right (whole_of a) _ h)

pub top_greatest : (n : ℕ) (a : Label) → effective n a ≡ true → below_of a (top_of n) ≡ true
unfolding effective
top_greatest n a h = both_right (below_of (bottom_of (everyone n)) a) _ (both_right (whole_of a) _ h)

-- ---- the sets of bottom and top
pub bottom_at : (all o : ℕ) → o < owners
    → (readers_of (bottom_of all) o ≡ all) × (writers_of (bottom_of all) o ≡ single o)
unfolding bottom_of
bottom_at all o l = (get_or-replicate owners o all 0 l, own_at o l)

-- C of bottom is at or below C of a label whose readers are all principals of bottom
pub bottom_below_c : (all : ℕ) (a : Label)
    → below_of (confidentiality_of (bottom_of all)) (confidentiality_of a)
    ≡ every owners (λ (o : ℕ). within (readers_of a o) all)
bottom_below_c all a =
    c_below_readers (bottom_of all) a
    ∙ every_ext owners _ _ (λ o l. ap (within (readers_of a o)) (bottom_at all o l).0)

pub top_at : (n o : ℕ) → o < owners
    → (readers_of (top_of n) o ≡ closed_at n o) × (writers_of (top_of n) o ≡ open_at n (everyone n) o)
unfolding top_of
top_at n o l = (get_d_tab owners _ o 0 l, get_d_tab owners _ o 0 l)

pub open_principal : (n all o : ℕ) → o < n → open_at n all o ≡ all
unfolding open_at
open_principal n all o l = rw (lt-ltb o n l)

pub open_other : (n all o : ℕ) → n ≤ o → open_at n all o ≡ single o
unfolding open_at
open_other n all o l = rw (le-ltb o n l)

pub closed_principal : (n o : ℕ) → o < n → closed_at n o ≡ single o
unfolding closed_at
closed_principal n o l = rw (lt-ltb o n l)

pub closed_other : (n o : ℕ) → n ≤ o → closed_at n o ≡ everyone n
unfolding closed_at
closed_other n o l = rw (le-ltb o n l)

pub closed_within : (n o : ℕ) → within (closed_at n o) (everyone n) ≡ true
unfolding closed_at
closed_within n o =
    by_below o n (λ l. rw (lt-ltb o n l) (single_within_everyone o n l)) (λ l. rw (le-ltb o n l) (within_refl _))

pub single_within_open : (n o : ℕ) → within (single o) (open_at n (everyone n) o) ≡ true
unfolding open_at
single_within_open n o =
    by_below o n (λ l. rw (lt-ltb o n l) (single_within_everyone o n l)) (λ l. rw (le-ltb o n l) (within_refl _))

pub bottom_below_top : (n : ℕ) → below_of (bottom_of (everyone n)) (top_of n) ≡ true
bottom_below_top n =
    below_intro (bottom_of (everyone n)) (top_of n)
    (λ o l. rw ((top_at n o l).0, (bottom_at (everyone n) o l).0) (closed_within n o))
    (λ o l. rw ((bottom_at (everyone n) o l).1, (top_at n o l).1) (single_within_open n o))

pub top_whole : (n : ℕ) → whole_of (top_of n) ≡ true
unfolding top_of
top_whole n = whole_intro (top_of n) (length-tab _ _) (length-tab _ _)

-- ---- what each place holds

-- the sets r and w that owner o may have in an effective label
pub record Fits (n o r w : ℕ) : Type 0 where
  pub closed_in : within (closed_at n o) r ≡ true
  pub readers_in_lem : within r (everyone n) ≡ true
  pub owner_in : within (single o) w ≡ true
  pub open_over : within w (open_at n (everyone n) o) ≡ true

pub effective_fits : (n : ℕ) (a : Label) → effective n a ≡ true → (o : ℕ) → o < owners
    → Fits n o (readers_of a o) (writers_of a o)
effective_fits n a h o l =
    record {
      closed_in = rw (top_at n o l).0 at (below_at_lem a (top_of n) (top_greatest n a h) o l).0;
      readers_in_lem =
          rw (bottom_at (everyone n) o l).0 at (below_at_lem (bottom_of (everyone n)) a (bottom_least n a h) o l).0;
      owner_in = rw (bottom_at (everyone n) o l).1 at
          (below_at_lem (bottom_of (everyone n)) a (bottom_least n a h) o l).1;
      open_over = rw (top_at n o l).1 at (below_at_lem a (top_of n) (top_greatest n a h) o l).1;
    }

pub fits_effective : (n : ℕ) (a : Label)
    → whole_of a ≡ true → ((o : ℕ) → o < owners → Fits n o (readers_of a o) (writers_of a o)) → effective n a ≡ true
fits_effective n a w f =
    effective_intro n a w
    (below_intro (bottom_of (everyone n)) a
    (λ o l. rw (bottom_at (everyone n) o l).0 (f o l).readers_in_lem)
    (λ o l. rw (bottom_at (everyone n) o l).1 (f o l).owner_in))
    (below_intro a (top_of n) (λ o l. rw (top_at n o l).0 (f o l).closed_in)
    (λ o l. rw (top_at n o l).1 (f o l).open_over))

-- ---- the operations keep labels effective
pub bottom_effective : (n : ℕ) → effective n (bottom_of (everyone n)) ≡ true
bottom_effective n = effective_intro n _ (bottom_whole (everyone n)) (below_refl _) (bottom_below_top n)

pub top_effective : (n : ℕ) → effective n (top_of n) ≡ true
top_effective n = effective_intro n _ (top_whole n) (bottom_below_top n) (below_refl _)

pub join_effective : (n : ℕ) (a b : Label) → effective n a ≡ true → effective n b ≡ true
    → effective n (join_of a b) ≡ true
join_effective n a b h k =
    effective_intro n (join_of a b) (join_whole a b)
    (below_trans _ a (join_of a b) (bottom_least n a h) (join_left a b))
    (join_least a b (top_of n) (top_greatest n a h) (top_greatest n b k))

-- C(A) ≤ A and I(A) ≤ A
pub c_below : (n : ℕ) (a : Label) → effective n a ≡ true → below_of (confidentiality_of a) a ≡ true
unfolding confidentiality_of
c_below n a h =
    below_intro (confidentiality_of a) a (λ o l. within_refl _)
    (λ o l. rw (own_at o l) (effective_fits n a h o l).owner_in)

pub i_below : (n : ℕ) (a : Label) → effective n a ≡ true → below_of (integrity_of (everyone n) a) a ≡ true
unfolding integrity_of
i_below n a h =
    below_intro (integrity_of (everyone n) a) a
    (λ o l. rw (get_or-replicate owners o (everyone n) 0 l) (effective_fits n a h o l).readers_in_lem)
    (λ o l. within_refl _)

pub c_effective : (n : ℕ) (a : Label) → effective n a ≡ true → effective n (confidentiality_of a) ≡ true
unfolding confidentiality_of bottom_of
c_effective n a h =
    effective_intro n (confidentiality_of a) (c_whole a (effective_whole n a h))
    (c_mono (bottom_of (everyone n)) a (bottom_least n a h))
    (below_trans (confidentiality_of a) a (top_of n) (c_below n a h) (top_greatest n a h))

pub i_effective : (n : ℕ) (a : Label) → effective n a ≡ true → effective n (integrity_of (everyone n) a) ≡ true
i_effective n a h =
    effective_intro n (integrity_of (everyone n) a) (i_whole (everyone n) a (effective_whole n a h))
    (rw (i_bottom (everyone n)) at (i_mono (everyone n) (bottom_of (everyone n)) a (bottom_least n a h)))
    (below_trans (integrity_of (everyone n) a) a (top_of n) (i_below n a h) (top_greatest n a h))

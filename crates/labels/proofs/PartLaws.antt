-- The parts of a label: C, I and bottom.
use mathlib.Core.Path.{◌≡◌, refl, sym, ap, ◌∙◌}
use mathlib.Core.Bool.{true}
use Prim.Native.Nat.{ℕ, ◌<◌}
use lib.ListN.{get_or, length-replicate}
use Rattle.logic.specs.Booleans.{both}
use Rattle.logic.proofs.BooleanLaws.{bool_ext, both_left, both_right, both_true, both_implied}
use Rattle.sets.specs.Sets.{union, within, single, every}
use Rattle.sets.proofs.Walks.{every_true, get_d_tab, length-tab, tab_ext}
use Rattle.sets.proofs.SetLaws.{within_refl, union_of_within}
use Rattle.labels.specs.declared.Label.{Label}
use Rattle.labels.specs.Labels.{owners, own, readers_of, below_of, join_of, confidentiality_of, integrity_of, bottom_of}
use Rattle.labels.specs.Labels.{whole_of}
use Rattle.labels.proofs.OrderLaws.{label_path, whole_intro, whole_lengths, below_intro, below_at_lem, below_split}
use Rattle.labels.proofs.OrderLaws.{join_below}

-- ---- the sets that are the same in every label
pub own_at : (o : ℕ) → o < owners → get_or own o 0 ≡ single o
unfolding own
own_at o l = get_d_tab owners single o 0 l

-- ---- C and I of bottom are bottom, and so is C(I(A))
pub c_bottom : (all : ℕ) → confidentiality_of (bottom_of all) ≡ bottom_of all
unfolding confidentiality_of bottom_of
c_bottom all = refl

pub i_bottom : (all : ℕ) → integrity_of all (bottom_of all) ≡ bottom_of all
unfolding integrity_of bottom_of
i_bottom all = refl

pub c_of_i : (all : ℕ) (a : Label) → confidentiality_of (integrity_of all a) ≡ bottom_of all
unfolding confidentiality_of integrity_of bottom_of
c_of_i all a = refl

-- ---- whole labels stay whole
pub c_whole : (a : Label) → whole_of a ≡ true → whole_of (confidentiality_of a) ≡ true
unfolding confidentiality_of own
c_whole a h = whole_intro (confidentiality_of a) (whole_lengths a h).0 (length-tab owners single)

pub i_whole : (all : ℕ) (a : Label) → whole_of a ≡ true → whole_of (integrity_of all a) ≡ true
unfolding integrity_of
i_whole all a h = whole_intro (integrity_of all a) (length-replicate owners all) (whole_lengths a h).1

pub bottom_whole : (all : ℕ) → whole_of (bottom_of all) ≡ true
unfolding bottom_of own
bottom_whole all = whole_intro (bottom_of all) (length-replicate owners all) (length-tab owners single)

-- ---- C and I are monotone, and together they are the order
pub c_mono : (a b : Label) → below_of a b ≡ true → below_of (confidentiality_of a) (confidentiality_of b) ≡ true
unfolding confidentiality_of
c_mono a b h = below_intro _ _ (λ o l. (below_at_lem a b h o l).0) (λ o l. within_refl _)

pub i_mono : (all : ℕ) (a b : Label) → below_of a b ≡ true → below_of (integrity_of all a) (integrity_of all b) ≡ true
unfolding integrity_of
i_mono all a b h = below_intro _ _ (λ o l. within_refl _) (λ o l. (below_at_lem a b h o l).1)

pub below_of_parts : (all : ℕ) (a b : Label)
    → below_of (confidentiality_of a) (confidentiality_of b) ≡ true
    → below_of (integrity_of all a) (integrity_of all b) ≡ true → below_of a b ≡ true
unfolding confidentiality_of integrity_of
below_of_parts all a b h k = below_intro a b (λ o l. (below_at_lem _ _ h o l).0) (λ o l. (below_at_lem _ _ k o l).1)

-- C(A) ≤ C(B) is a test of readers alone, since both have the same writers
pub c_below_readers : (a b : Label)
    → below_of (confidentiality_of a) (confidentiality_of b)
    ≡ every owners (λ (o : ℕ). within (readers_of b o) (readers_of a o))
unfolding confidentiality_of
c_below_readers a b =
    below_split (confidentiality_of a) (confidentiality_of b)
    ∙ both_implied _ _ (λ h. every_true owners _ (λ o l. within_refl _))

-- A ≤ B exactly if C(A) ≤ C(B) and I(A) ≤ I(B)
pub below_parts : (all : ℕ) (a b : Label)
    → below_of a b
    ≡ both (below_of (confidentiality_of a) (confidentiality_of b)) (below_of (integrity_of all a) (integrity_of all b))
below_parts all a b =
    bool_ext (below_of a b)
    (both (below_of (confidentiality_of a) (confidentiality_of b)) (below_of (integrity_of all a) (integrity_of all b)))
    (λ h. both_true (c_mono a b h) (i_mono all a b h))
    (λ h. below_of_parts all a b (both_left _ _ h) (both_right _ _ h))

-- ---- C of a join
pub c_join : (a b : Label) → confidentiality_of (join_of a b) ≡ join_of (confidentiality_of a) (confidentiality_of b)
unfolding confidentiality_of join_of own
c_join a b =
    label_path (confidentiality_of (join_of a b)) (join_of (confidentiality_of a) (confidentiality_of b)) refl
    (tab_ext owners single (λ (o : ℕ). union (get_or own o 0) (get_or own o 0))
    (λ o l. sym (union_of_within _ _ (within_refl _) ∙ own_at o l)))

-- testing a join's C is testing that of each of its two labels
pub c_join_below : (a b c : Label)
    → below_of (confidentiality_of (join_of a b)) (confidentiality_of c)
    ≡ both (below_of (confidentiality_of a) (confidentiality_of c))
    (below_of (confidentiality_of b) (confidentiality_of c))
c_join_below a b c = ap (λ (x : Label). below_of x (confidentiality_of c)) (c_join a b) ∙ join_below _ _ _

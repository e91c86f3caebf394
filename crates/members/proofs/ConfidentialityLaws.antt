-- Testing C of the join of the members against C of a label: the same as testing bottom and each member by itself,
-- and of the members only the labels, since C of I of a label is bottom.
use mathlib.Core.Path.{◌≡◌, refl, sym, ap, ap₂, ◌∙◌}
use mathlib.Core.Bool.{Bool, true, false, cond}
use mathlib.Core.List.{List, ◌∷◌}
use Prim.Native.Nat.{ℕ, zero, suc, ◌+◌, ◌<◌, ◌≤◌}
use native.Mathlib.Omega.{arith}
use borrow.Author.Tests.{lt-ltb, le-ltb}
use Rattle.logic.specs.Booleans.{both}
use Rattle.logic.proofs.BooleanLaws.{bool_ext, both_left, both_right, both_true, both_yes_left, both_no_left}
use Rattle.logic.proofs.BooleanLaws.{both_assoc, both_implied}
use Rattle.std.proofs.Math.Bool.{◌&&◌}
use Rattle.std.specs.List.{list_all}
use Rattle.sets.specs.Sets.{member, every, restrict}
use Rattle.sets.proofs.Walks.{by_below, every_true, every_at, every_last}
use Rattle.sets.proofs.SetLaws.{member-restrict}
use Rattle.labels.specs.declared.Label.{Label}
use Rattle.labels.specs.Labels.{below_of, join_of, bottom_of, confidentiality_of}
use Rattle.labels.proofs.PartLaws.{c_bottom, c_of_i, c_join_below}
use Rattle.sheet.specs.Sheet.{max_labels}
use Rattle.sheet.specs.Internal.Tables.{everyone_in, label_in}
use Rattle.members.specs.Internal.Members.{member_in, join_up_to, max_members, join_in, members_from, members_of}
use Rattle.members.proofs.MemberLaws.{member-label, member_integrity}

pub both_alone : (b : Bool) → b ≡ both b true
both_alone b = sym (both_implied b true (λ h. refl))

-- tests that another one implies may be left out
implied_past : (b : Bool) (f : ℕ → Bool) (p n : ℕ) → p ≤ n → ((q : ℕ) → p ≤ q → q < n → b ≡ true → f q ≡ true)
    → both b (every p f) ≡ both b (every n f)
implied_past b f p n l h =
    bool_ext (both b (every p f)) (both b (every n f))
    (λ e. both_true (both_left b _ e)
    (every_true n f (λ q k. by_below q p (every_at p f (both_right b _ e) q) (λ w. h q w k (both_left b _ e)))))
    (λ e. both_true (both_left b _ e) (every_true p f (λ q k. every_at n f (both_right b _ e) q (omega arith))))

-- ---- the members that are labels

label-member : (m q : ℕ) → q < max_labels → member q (restrict max_labels m) ≡ member q m
label-member m q l = member-restrict q max_labels m ∙ both_yes_left _ _ (lt-ltb q max_labels l)

label_past : (m q : ℕ) → max_labels ≤ q → member q (restrict max_labels m) ≡ false
label_past m q l = member-restrict q max_labels m ∙ both_no_left _ _ (le-ltb q max_labels l)

-- ---- tests of each place

and_both : (a b : Bool) → (a && b) ≡ both a b
unfolding both
and_both true b = refl
and_both false b = refl

pub one_more : (a b c : Bool) → both (a && b) c ≡ both a (b && c)
unfolding both
one_more true b c = sym (and_both b c)
one_more false b c = refl

every_same : (n : ℕ) (f g : ℕ → Bool) → ((i : ℕ) → i < n → f i ≡ g i) → every n f ≡ every n g
every_same n f g h =
    bool_ext _ _
    (λ e. every_true n g (λ i l. sym (h i l) ∙ every_at n f e i l))
    (λ e. every_true n f (λ i l. h i l ∙ every_at n g e i l))

-- a label passes: its C is at or below that of c
abbrev pub Passes : Label → Label → Bool
Passes c a = below_of (confidentiality_of a) (confidentiality_of c)

module _ (t : List ℕ) (c : Label) where
  abbrev BottomPasses : Bool
  BottomPasses = Passes c (bottom_of (everyone_in t))

  -- member p passes where it is in m
  unfoldable pub member_passes : ℕ → ℕ → Bool
  member_passes m p = cond (member p m) (Passes c (member_in t p)) true

  -- ---- testing the join is testing bottom and each member by itself

  more_passes : (b : Bool) (a d : Label)
      → Passes c (cond b (join_of a d) a) ≡ both (Passes c a) (cond b (Passes c d) true)
  more_passes true a d = c_join_below a d c
  more_passes false a d = both_alone _

  up_to_passes : (m n : ℕ) → Passes c (join_up_to t m n) ≡ both BottomPasses (every n (member_passes m))
  unfolding join_up_to every member_passes
  up_to_passes m zero = both_alone _
  up_to_passes m (suc n) =
      let each = member_passes m in
      more_passes (member n m) (join_up_to t m n) (member_in t n)
      ∙ ap (λ (b : Bool). both b (each n)) (up_to_passes m n)
      ∙ sym (both_assoc BottomPasses (every n each) (each n)) ∙ ap (both BottomPasses) (sym (every_last n each))

  pub join_passes : (m : ℕ) → Passes c (join_in t m) ≡ both BottomPasses (every max_members (member_passes m))
  unfolding join_in
  join_passes m = up_to_passes m max_members

  -- ---- and of the members only the labels: I of a label passes where bottom does

  integrity_passes : (m q : ℕ) → max_labels ≤ q → BottomPasses ≡ true → member_passes m q ≡ true
  unfolding member_passes
  integrity_passes m q l h = on (member q m)
    where
      on : (b : Bool) → cond b (Passes c (member_in t q)) true ≡ true
      on true =
          ap (Passes c) (member_integrity t q l)
          ∙ ap (λ (a : Label). below_of a (confidentiality_of c)) (c_of_i _ _ ∙ sym (c_bottom _)) ∙ h
      on false = refl

  pub labels_pass : (m : ℕ) → Passes c (join_in t m) ≡ both BottomPasses (every max_labels (member_passes m))
  labels_pass m =
      join_passes m
      ∙ sym (implied_past BottomPasses (member_passes m) max_labels max_members (omega arith)
      (λ q k w. integrity_passes m q k))

  -- ---- a walk over the labels of m

  abbrev pub label_passes : ℕ → Bool
  label_passes q = Passes c (label_in t q)

  abbrev place_passes : ℕ → ℕ → ℕ → Bool
  place_passes m p i = cond (member (p + i) m) (label_passes (p + i)) true

  passes_from : (m p n : ℕ) → list_all label_passes (members_from m p n) ≡ every n (place_passes m p)
  unfolding members_from every both
  passes_from m p zero = refl
  passes_from m p (suc n) =
      one (member p m) (members_from m (suc p) n)
      ∙ ap₂ both (ap (λ (q : ℕ). cond (member q m) (label_passes q) true) here)
      (passes_from m (suc p) n ∙ every_same n _ _ (λ i l. let z : suc p + i ≡ p + suc i = omega arith in
      ap (λ (q : ℕ). cond (member q m) (label_passes q) true) z))
    where
      here : p ≡ p + 0
      here = omega arith

      one : (b : Bool) (xs : List ℕ)
          → list_all label_passes (cond b (p ∷ xs) xs) ≡ both (cond b (label_passes p) true) (list_all label_passes xs)
      one true xs = and_both (label_passes p) (list_all label_passes xs)
      one false xs = refl

  pub all_pass : (m : ℕ)
      → both BottomPasses (list_all label_passes (members_of (restrict max_labels m))) ≡ Passes c (join_in t m)
  unfolding member_passes
  all_pass m =
      let labels = restrict max_labels m in
      ap (both BottomPasses) (passes_from labels 0 max_members)
      ∙ sym (implied_past BottomPasses (place_passes labels 0) max_labels max_members (omega arith)
      (λ q k w b. past q k))
      ∙ ap (both BottomPasses) (every_same max_labels _ _ same) ∙ sym (labels_pass m)
    where
      past : (q : ℕ) → max_labels ≤ q → place_passes (restrict max_labels m) 0 q ≡ true
      past q k =
          let z : 0 + q ≡ q = omega arith in
          rw (z, label_past m q k) refl

      same : (q : ℕ) → q < max_labels → place_passes (restrict max_labels m) 0 q ≡ member_passes m q
      same q k =
          let z : 0 + q ≡ q = omega arith in
          rw (z, label-member m q k, member-label t q k) refl

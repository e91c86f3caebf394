-- What a set of members stands for: a union the join, {l} label l.
use mathlib.Core.Path.{◌≡◌, refl, sym, ap, ◌∙◌}
use mathlib.Core.Bool.{Bool, true, false, cond}
use mathlib.Core.List.{List}
use Prim.Native.Nat.{ℕ, zero, suc, ◌+◌, ◌-◌, ◌<◌, ◌≤◌}
use native.Mathlib.Numerals.{add-one}
use native.Mathlib.Omega.{arith}
use native.Mathlib.Decide.{dec_lt}
use borrow.Author.Tests.{lt-ltb, le-ltb}
use Rattle.logic.specs.Booleans.{both}
use Rattle.logic.proofs.BooleanLaws.{absurd_false, either_left, either_right, either_case}
use Rattle.sets.specs.Sets.{member, union, single}
use Rattle.sets.proofs.SetLaws.{member_union, member_single, member_single_self, member_empty}
use Rattle.labels.specs.declared.Label.{Label}
use Rattle.labels.specs.Labels.{below_of, join_of, bottom_of, whole_of, integrity_of}
use Rattle.labels.proofs.OrderLaws.{below_refl, below_trans, below_antisym, join_left, join_right, join_least}
use Rattle.labels.proofs.OrderLaws.{join_whole, join_below}
use Rattle.labels.proofs.PartLaws.{bottom_whole}
use Rattle.sheet.specs.Sheet.{max_labels}
use Rattle.sheet.specs.Internal.Tables.{everyone_in, label_in}
use Rattle.members.specs.Internal.Members.{label_member, integrity_member, member_in, join_up_to, max_members, join_in}

module _ (t : List ℕ) where
  abbrev Bottom : Label
  Bottom = bottom_of (everyone_in t)

  -- ---- a join with one label more, or without it

  more_whole : (b : Bool) (a c : Label) → whole_of a ≡ true → whole_of (cond b (join_of a c) a) ≡ true
  more_whole true a c h = join_whole a c
  more_whole false a c h = h

  more_above : (b : Bool) (a c d : Label) → below_of d a ≡ true → below_of d (cond b (join_of a c) a) ≡ true
  more_above true a c d h = below_trans d a (join_of a c) h (join_left a c)
  more_above false a c d h = h

  more_has : (b : Bool) (a c : Label) → b ≡ true → below_of c (cond b (join_of a c) a) ≡ true
  more_has true a c h = join_right a c
  more_has false a c h = absurd (absurd_false h)

  more_least : (b : Bool) (a c d : Label) → below_of a d ≡ true → (b ≡ true → below_of c d ≡ true)
      → below_of (cond b (join_of a c) a) d ≡ true
  more_least true a c d h k = join_least a c d h (k refl)
  more_least false a c d h k = h

  -- ---- the join of the members is the least label above bottom and each of them

  up_to_whole : (m n : ℕ) → whole_of (join_up_to t m n) ≡ true
  unfolding join_up_to
  up_to_whole m zero = bottom_whole _
  up_to_whole m (suc p) = more_whole (member p m) _ _ (up_to_whole m p)

  up_to_bottom : (m n : ℕ) → below_of Bottom (join_up_to t m n) ≡ true
  unfolding join_up_to
  up_to_bottom m zero = below_refl _
  up_to_bottom m (suc p) = more_above (member p m) _ _ _ (up_to_bottom m p)

  up_to-member : (m n p : ℕ) → p < n → member p m ≡ true → below_of (member_in t p) (join_up_to t m n) ≡ true
  unfolding join_up_to
  up_to-member m zero p l h = absurd (omega arith)
  up_to-member m (suc n) p l h = on (dec_lt p n) (λ k. up_to-member m n p k h)
    where
      on : Dec (p < n) → (p < n → below_of (member_in t p) (join_up_to t m n) ≡ true)
          → below_of (member_in t p) (cond (member n m) (join_of (join_up_to t m n) (member_in t n)) (join_up_to t m n))
          ≡ true
      on (yes k) f = more_above (member n m) _ _ _ (f k)
      on (no k) f = let e : p ≡ n = omega arith in rw e (more_has (member n m) _ _ (rw (sym e) h))

  up_to_least : (m n : ℕ) (c : Label) → below_of Bottom c ≡ true
      → ((p : ℕ) → p < n → member p m ≡ true → below_of (member_in t p) c ≡ true)
      → below_of (join_up_to t m n) c ≡ true
  unfolding join_up_to
  up_to_least m zero c h k = h
  up_to_least m (suc n) c h k =
      more_least (member n m) _ _ c (up_to_least m n c h (λ p l. k p (omega arith))) (k n (omega arith))

  -- the empty set is bottom
  pub join_none : join_in t 0 ≡ Bottom
  unfolding join_in
  join_none =
      below_antisym _ _ (up_to_whole 0 max_members) (bottom_whole _)
      (up_to_least 0 max_members _ (below_refl _) (λ p l h. absurd (absurd_false (sym (member_empty p) ∙ h))))
      (up_to_bottom 0 max_members)

  -- a union is the join
  pub join_union : (x y : ℕ) → join_in t (union x y) ≡ join_of (join_in t x) (join_in t y)
  unfolding join_in
  join_union x y =
      let X = join_up_to t x max_members in
      let Y = join_up_to t y max_members in
      let U = join_up_to t (union x y) max_members in
      below_antisym U (join_of X Y) (up_to_whole _ _) (join_whole X Y)
      (up_to_least (union x y) max_members (join_of X Y)
      (below_trans _ X _ (up_to_bottom x max_members) (join_left X Y)) (λ p l h.
      either_case (member p x) (member p y) _
      (λ k. below_trans _ X _ (up_to-member x max_members p l k) (join_left X Y))
      (λ k. below_trans _ Y _ (up_to-member y max_members p l k) (join_right X Y)) (sym (member_union p x y) ∙ h)))
      (join_least X Y U
      (up_to_least x max_members U (up_to_bottom _ _)
      (λ p l h. up_to-member (union x y) max_members p l (member_union p x y ∙ either_left _ _ h)))
      (up_to_least y max_members U (up_to_bottom _ _)
      (λ p l h. up_to-member (union x y) max_members p l (member_union p x y ∙ either_right _ _ h))))

  -- one test of a union stands for two
  pub union_below : (x y : ℕ) (c : Label)
      → below_of (join_in t (union x y)) c ≡ both (below_of (join_in t x) c) (below_of (join_in t y) c)
  union_below x y c = ap (λ (a : Label). below_of a c) (join_union x y) ∙ join_below _ _ c

  -- one member, if bottom is at or below it
  join_one : (p : ℕ) → p < max_members → whole_of (member_in t p) ≡ true → below_of Bottom (member_in t p) ≡ true
      → join_in t (single p) ≡ member_in t p
  unfolding join_in
  join_one p l w b =
      below_antisym _ _ (up_to_whole (single p) max_members) w
      (up_to_least (single p) max_members _ b (λ q k h. rw (member_single q p h) (below_refl _)))
      (up_to-member (single p) max_members p l (member_single_self p))

  -- ---- the members, by cases

  pub member-label : (l : ℕ) → l < max_labels → member_in t l ≡ label_in t l
  unfolding member_in
  member-label l k = rw (lt-ltb l max_labels k)

  pub member_integrity : (p : ℕ) → max_labels ≤ p
      → member_in t p ≡ integrity_of (everyone_in t) (label_in t (p - max_labels))
  unfolding member_in
  member_integrity p k = rw (le-ltb p max_labels k)

  pub up_to_with : (m p : ℕ) → member p m ≡ true → join_of (join_up_to t m p) (member_in t p) ≡ join_up_to t m (p + 1)
  unfolding join_up_to
  up_to_with m p h = rw (add-one p, h)

  pub up_to_without : (m p : ℕ) → member p m ≡ false → join_up_to t m p ≡ join_up_to t m (p + 1)
  unfolding join_up_to
  up_to_without m p h = rw (add-one p, h)

pub label_there : (l : ℕ) → l < max_labels → label_member l ≡ single l
unfolding label_member
label_there l k = rw (lt-ltb l max_labels k)

pub label_past : (l : ℕ) → max_labels ≤ l → label_member l ≡ 0
unfolding label_member
label_past l k = rw (le-ltb l max_labels k)

pub integrity_there : (l : ℕ) → l < max_labels → integrity_member l ≡ single (max_labels + l)
unfolding integrity_member
integrity_there l k = rw (lt-ltb l max_labels k)

pub integrity_past : (l : ℕ) → max_labels ≤ l → integrity_member l ≡ 0
unfolding integrity_member
integrity_past l k = rw (le-ltb l max_labels k)

-- a member alone, where every label of the table is one of the sheet's
module _ (t : List ℕ) (past : (l : ℕ) → max_labels ≤ l → label_in t l ≡ bottom_of (everyone_in t)) (l : ℕ) where
  pub join_label : whole_of (label_in t l) ≡ true → below_of (Bottom t) (label_in t l) ≡ true
      → join_in t (label_member l) ≡ label_in t l
  join_label w b = on (dec_lt l max_labels)
    where
      on : Dec (l < max_labels) → join_in t (label_member l) ≡ label_in t l
      on (yes k) =
          let e = member-label t l k in
          ap (join_in t) (label_there l k)
          ∙ join_one t l (omega arith) (ap whole_of e ∙ w) (ap (below_of (Bottom t)) e ∙ b) ∙ e
      on (no k) = ap (join_in t) (label_past l (omega arith)) ∙ join_none t ∙ sym (past l (omega arith))

  pub join_integrity : integrity_of (everyone_in t) (Bottom t) ≡ Bottom t
      → whole_of (integrity_of (everyone_in t) (label_in t l)) ≡ true
      → below_of (Bottom t) (integrity_of (everyone_in t) (label_in t l)) ≡ true
      → join_in t (integrity_member l) ≡ integrity_of (everyone_in t) (label_in t l)
  join_integrity i w b = on (dec_lt l max_labels)
    where
      is : member_in t (max_labels + l) ≡ integrity_of (everyone_in t) (label_in t l)
      is =
          let e : max_labels + l - max_labels ≡ l = omega arith in
          member_integrity t (max_labels + l) (omega arith)
          ∙ ap (λ (k : ℕ). integrity_of (everyone_in t) (label_in t k)) e

      on : Dec (l < max_labels) → join_in t (integrity_member l) ≡ integrity_of (everyone_in t) (label_in t l)
      on (yes k) = ap (join_in t) (integrity_there l k)
          ∙ join_one t (max_labels + l) (omega arith) (ap whole_of is ∙ w) (ap (below_of (Bottom t)) is ∙ b) ∙ is
      on (no k) = ap (join_in t) (integrity_past l (omega arith)) ∙ join_none t
          ∙ sym (ap (integrity_of (everyone_in t)) (past l (omega arith)) ∙ i)

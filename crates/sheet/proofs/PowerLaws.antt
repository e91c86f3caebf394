-- What a set of powers says of a label is what the table says.
use mathlib.Core.Path.{◌≡◌, refl, sym, ap, ◌∙◌}
use mathlib.Core.Bool.{Bool, true, false, cond}
use mathlib.Core.List.{List}
use Prim.Native.Nat.{ℕ, zero, suc, ◌+◌, ◌-◌, ◌%◌, ◌<◌, ◌≤◌, min}
use lib.Dec.{ltb}
use native.Mathlib.Omega.{arith}
use native.Mathlib.Numerals.{add-one}
use native.Mathlib.Decide.{dec_lt}
use borrow.Author.Tests.{lt-ltb, le-ltb}
use Rattle.logic.specs.Booleans.{both, either}
use Rattle.logic.proofs.BooleanLaws.{either_right}
use Rattle.sets.specs.Sets.{member, union, single}
use Rattle.sets.proofs.SetLaws.{member_union, member_single, member_single_self, member_empty}
use Rattle.sheet.specs.Sheet.{max_labels}
use Rattle.sheet.specs.Internal.Tables.{labels_in, reads_in, writes_in}
use Rattle.sheet.specs.Internal.Powers.{has_power, with_power, powers_up_to, labels_held, powers_in, may_write}
use Rattle.sheet.specs.Internal.Powers.{may_read}

-- ---- one power more, if the group has it

module _ (m q : ℕ) where
  more_self : (b : Bool) → member q m ≡ false → member q (cond b (union m (single q)) m) ≡ b
  more_self true h = member_union q m (single q) ∙ either_right _ _ (member_single_self q)
  more_self false h = h

  more_other : (b : Bool) (p : ℕ) → (p ≡ q → ⊥) → member p (cond b (union m (single q)) m) ≡ member p m
  unfolding either
  more_other true p n = member_union p m (single q) ∙ on (member p m) (member p (single q)) (member_single p q)
    where
      on : (a b : Bool) → (b ≡ true → p ≡ q) → either a b ≡ a
      on a true h = absurd (n (h refl))
      on true false h = refl
      on false false h = refl
  more_other false p n = refl

module _ (t : List ℕ) (g : ℕ) where
  power_write : (p : ℕ) → p < max_labels → writes_in t g p ≡ has_power t g p
  unfolding has_power
  power_write p h = rw (lt-ltb p 32 h)

  power_read : (p : ℕ) → max_labels ≤ p → reads_in t g (p - max_labels) ≡ has_power t g p
  unfolding has_power
  power_read p h = rw (le-ltb p 32 h)

  -- ---- the powers over the labels below n

  -- those over one label more, of a group that writes it and reads it or doesn't
  pub up_to_more : (l : ℕ) → l < max_labels → {m n o : ℕ} {w r : Bool} → w ≡ writes_in t g l → r ≡ reads_in t g l
      → m ≡ powers_up_to t g l → n ≡ cond w (union m (single l)) m
      → o ≡ cond r (union n (single (max_labels + l))) n → o ≡ powers_up_to t g (l + 1)
  unfolding powers_up_to with_power
  up_to_more l h {m = m} {n = n} {w = w} {r = r} writes reads before one two =
      let e : max_labels + l - max_labels ≡ l = omega arith in
      let w-is : w ≡ has_power t g l = writes ∙ power_write l h in
      let r-is : r ≡ has_power t g (max_labels + l) =
      reads ∙ ap (reads_in t g) (sym e) ∙ power_read (32 + l) (omega arith) in
      rw (add-one l, ← before, ← w-is, ← one, ← r-is) two

  none_yet : (n p : ℕ) → n ≤ p % max_labels → member p (powers_up_to t g n) ≡ false
  unfolding powers_up_to with_power
  none_yet zero p h = member_empty p
  none_yet (suc n) p h =
      more_other _ (32 + n) (has_power t g (32 + n)) p (λ e. omega arith)
      ∙ more_other _ n (has_power t g n) p (λ e. omega arith) ∙ none_yet n p (omega arith)

  -- each power over a label below n
  up_to-member : (n p : ℕ) → n ≤ max_labels → p % max_labels < n → p < max_labels + max_labels
      → member p (powers_up_to t g n) ≡ has_power t g p
  unfolding powers_up_to with_power
  up_to-member zero p few h l = absurd (omega arith)
  up_to-member (suc n) p few h l = on (dec_lt (p % 32) n) (dec_lt p 32) (λ k. up_to-member n p (omega arith) k l)
    where
      on : Dec (p % 32 < n) → Dec (p < 32) → (p % 32 < n → member p (powers_up_to t g n) ≡ has_power t g p)
          → member p (with_power t g (with_power t g (powers_up_to t g n) n) (32 + n)) ≡ has_power t g p
      on (yes k) d m =
          more_other _ (32 + n) (has_power t g (32 + n)) p (λ e. omega arith)
          ∙ more_other _ n (has_power t g n) p (λ e. omega arith) ∙ m k
      on (no k) (yes w) m =
          let e : p ≡ n = omega arith in
          more_other _ (32 + n) (has_power t g (32 + n)) p (λ i. omega arith)
          ∙ rw e (more_self _ n (has_power t g n) (none_yet n n (omega arith)))
      on (no k) (no w) m =
          let e : p ≡ 32 + n = omega arith in
          rw e (more_self _ (32 + n) (has_power t g (32 + n))
          (more_other _ n (has_power t g n) (32 + n) (λ i. omega arith) ∙ none_yet n (32 + n) (omega arith)))

-- ---- the labels that powers are over

module _ (t : List ℕ) where
  pub held_least : min (labels_in t) max_labels ≡ labels_held t
  unfolding labels_held
  held_least = on (dec_lt (labels_in t) 32)
    where
      on : Dec (labels_in t < 32) → min (labels_in t) 32 ≡ cond (ltb (labels_in t) 32) (labels_in t) 32
      on (yes k) = rw (lt-ltb (labels_in t) 32 k) (omega arith)
      on (no k) = rw (le-ltb (labels_in t) 32 (omega arith)) (omega arith)

  held_there : labels_in t ≤ max_labels → labels_held t ≡ labels_in t
  held_there few = omega (arith, held_least)

-- what a set of powers says, by its bits
module _ (powers l : ℕ) where
  write_bit : l < max_labels → member l powers ≡ may_write powers l
  unfolding may_write both
  write_bit h = rw (lt-ltb l 32 h)

  read_bit : l < max_labels → member (max_labels + l) powers ≡ may_read powers l
  unfolding may_read both
  read_bit h = rw (lt-ltb l 32 h)

module _ (t : List ℕ) (g l : ℕ) (few : labels_in t ≤ max_labels) (there : l < labels_in t) where
  has_bit : (p : ℕ) → p % max_labels ≡ l → p < max_labels + max_labels → member p (powers_in t g) ≡ has_power t g p
  unfolding powers_in
  has_bit p e h = ap (λ (n : ℕ). member p (powers_up_to t g n)) (held_there t few)
      ∙ up_to-member t g (labels_in t) p few (omega arith) h

  pub writes_by : may_write (powers_in t g) l ≡ writes_in t g l
  writes_by =
      sym (write_bit _ l (omega arith)) ∙ has_bit l (omega arith) (omega arith) ∙ sym (power_write t g l (omega arith))

  pub reads_by_lem : may_read (powers_in t g) l ≡ reads_in t g l
  reads_by_lem =
      let e : 32 + l - 32 ≡ l = omega arith in
      sym (read_bit _ l (omega arith)) ∙ has_bit (32 + l) (omega arith) (omega arith)
      ∙ sym (power_read t g (32 + l) (omega arith)) ∙ ap (reads_in t g) e

-- What no repeat means: entries that are the same stand at the same place.
use mathlib.Core.Path.{◌≡◌, refl, sym}
use mathlib.Core.Bool.{Bool, true, false}
use mathlib.Core.List.{List, [], ◌∷◌, ◌++◌}
use Prim.Native.Nat.{ℕ, zero, suc, ◌<◌, ◌≤◌}
use native.Mathlib.Omega.{arith}
use lib.ListN.{length, get_or, length-map}
use borrow.Author.Tests.{eq-eqb}
use Rattle.logic.specs.Booleans.{either}
use Rattle.logic.proofs.BooleanLaws.{absurd_false, fails, both_true, either_left, either_right}
use Rattle.sets.proofs.Walks.{by_below}
use Rattle.sets.specs.Sets.{everyone}
use Rattle.labels.specs.Labels.{label_of, bottom_of, same_of}
use Rattle.labels.proofs.OrderLaws.{same_refl}
use Rattle.sheet.specs.declared.Kind.{Kind}
use Rattle.sheet.specs.declared.Kind.TheVariants.{Sum, Pair}
use Rattle.sheet.specs.Internal.Tables.{no_parts, given_parts, type_parts, parts_no}
use Rattle.sheet.specs.Sheet.{Compound, Sheet, type_count, labels_of, label_no, label_count, among, repeated}
use Rattle.sheet.specs.Sheet.{same_kind, same_compound, given_sums, repeats}

module _ {A : Type 0} (same : A → A → Bool) (d : A) where
  among_at : (x : A) (xs : List A) (j : ℕ) → j < length xs → same x (get_or xs j d) ≡ true → among same x xs ≡ true
  unfolding among
  among_at x [] j h q = absurd (omega arith)
  among_at x (y ∷ ys) zero h q = either_left _ _ q
  among_at x (y ∷ ys) (suc j) h q = either_right _ _ (among_at x ys j (omega arith) q)

  repeated_at : (xs : List A) (i j : ℕ) → i < j → j < length xs → same (get_or xs i d) (get_or xs j d) ≡ true
      → repeated same xs ≡ true
  unfolding repeated
  repeated_at [] i j l h q = absurd (omega arith)
  repeated_at (x ∷ xs) zero zero l h q = absurd (omega arith)
  repeated_at (x ∷ xs) zero (suc j) l h q = either_left _ _ (among_at x xs j (omega arith) q)
  repeated_at (x ∷ xs) (suc i) zero l h q = absurd (omega arith)
  repeated_at (x ∷ xs) (suc i) (suc j) l h q = either_right _ _ (repeated_at xs i j (omega arith) (omega arith) q)

  -- the same entries, both ways round, stand at the same place
  same_place : (xs : List A) → repeated same xs ≡ false → (i j : ℕ) → i < length xs → j < length xs
      → same (get_or xs i d) (get_or xs j d) ≡ true → same (get_or xs j d) (get_or xs i d) ≡ true → i ≡ j
  same_place xs once i j h k p q =
      by_below i j (λ l. absurd (fails once (repeated_at xs i j l k p)))
      (λ l. by_below j i (λ m. absurd (fails once (repeated_at xs j i m h q))) (λ m. omega arith))

neither : (a b : Bool) → either a b ≡ false → (a ≡ false) × (b ≡ false)
unfolding either
neither true b e = absurd (absurd_false (sym e))
neither false b e = (refl, e)

pub same_kind_lem : (k : Kind) → same_kind k k ≡ true
unfolding same_kind
same_kind_lem Sum = refl
same_kind_lem Pair = refl

compounds_same : (a b : Compound) → a.kind ≡ b.kind → a.left ≡ b.left → a.right ≡ b.right
    → same_compound a b ≡ true
unfolding same_compound
compounds_same a b k p q = both_true (rw k (same_kind_lem b.kind)) (both_true (eq-eqb _ _ p) (eq-eqb _ _ q))

-- two types of one kind with the same parts have the same number
pub parts_once : (s : Sheet) → repeats s ≡ false → (m n : ℕ) → 3 ≤ m → m < type_count s → 3 ≤ n → n < type_count s
    → (parts_no s m).kind ≡ (parts_no s n).kind → (parts_no s m).left ≡ (parts_no s n).left
    → (parts_no s m).right ≡ (parts_no s n).right → m ≡ n
unfolding repeats parts_no type_parts type_count given_parts
parts_once s once zero n h k h' k' e p q = absurd (omega arith)
parts_once s once (suc zero) n h k h' k' e p q = absurd (omega arith)
parts_once s once (suc (suc zero)) n h k h' k' e p q = absurd (omega arith)
parts_once s once (suc (suc (suc i))) zero h k h' k' e p q = absurd (omega arith)
parts_once s once (suc (suc (suc i))) (suc zero) h k h' k' e p q = absurd (omega arith)
parts_once s once (suc (suc (suc i))) (suc (suc zero)) h k h' k' e p q = absurd (omega arith)
parts_once s once (suc (suc (suc i))) (suc (suc (suc j))) h k h' k' e p q =
    let i≡j =
    same_place same_compound no_parts (given_sums ++ s.compounds) (neither _ _ once).0 i j (omega arith) (omega arith)
    (compounds_same _ _ e p q) (compounds_same _ _ (sym e) (sym p) (sym q)) in
    omega (arith, i≡j)

-- two labels with the same sets have the same number
pub label_once : (s : Sheet) → repeats s ≡ false → (l m : ℕ) → l < label_count s → m < label_count s
    → label_no s l ≡ label_no s m → l ≡ m
unfolding repeats label_no labels_of label_count
label_once s once l m h k p =
    let long = length-map s.labels (label_of s.principals) in
    same_place same_of (bottom_of (everyone s.principals)) (labels_of s) (neither _ _ once).1 l m
    (omega arith) (omega arith)
    (rw p (same_refl _)) (rw p (same_refl _))

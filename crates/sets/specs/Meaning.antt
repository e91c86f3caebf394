-- What the masks mean as sets of principals. `masks_are_sets` in proofs/MeaningLaws.antt shows it.
use Rattle.std.specs.Prelude.{◌≡◌, true, ◌↔◌, ℕ, ltb}
use Rattle.logic.specs.Booleans.{both, either}
use Rattle.sets.specs.Sets.{member, union, intersection, within, meets, single, everyone, restrict}

pub record MasksAreSets : Type 0 where
  -- a set is its members
  pub same_members : (x y : ℕ) → ((p : ℕ) → member p x ≡ member p y) → x ≡ y
  pub union_members : (p x y : ℕ) → member p (union x y) ≡ either (member p x) (member p y)
  pub intersection_members : (p x y : ℕ) → member p (intersection x y) ≡ both (member p x) (member p y)
  pub within_members : (x y : ℕ) → (within x y ≡ true) ↔ ((p : ℕ) → member p x ≡ true → member p y ≡ true)
  pub meets_members : (x y : ℕ) → (meets x y ≡ true) ↔ ((p : ℕ) × (member p x ≡ true) × (member p y ≡ true))
  pub single_members : (q p : ℕ) → (member q (single p) ≡ true) ↔ (q ≡ p)
  pub everyone_members : (p n : ℕ) → member p (everyone n) ≡ ltb p n
  pub restrict_members : (p k x : ℕ) → member p (restrict k x) ≡ both (ltb p k) (member p x)

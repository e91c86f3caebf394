-- What a sheet of the right form satisfies, fact by fact.
use mathlib.Core.Path.{◌≡◌, refl}
use mathlib.Core.Bool.{true}
use mathlib.Core.List.{List, [], ◌∷◌}
use Prim.Native.Nat.{ℕ, zero, suc, ◌+◌, ◌<◌, ◌≤◌}
use native.Mathlib.Nat.{add-zero}
use native.Mathlib.Omega.{arith}
use lib.ListN.{length, get_or, get_or-eq_default}
use borrow.Author.Tests.{ltb-true, leb-true}
use Rattle.logic.proofs.BooleanLaws.{both_left, both_right}
use Rattle.sets.proofs.Walks.{by_below}
use Rattle.labels.specs.Labels.{Policy}
use Rattle.sheet.specs.Internal.Tables.{no_parts, given_parts, type_parts, parts_no}
use Rattle.sheet.specs.Sheet.{Compound, Location, Sheet, type_count, label_count, location_no, location_count}
use Rattle.sheet.specs.Sheet.{earlier_types, rising, each_rising, each_named, max_principals, max_compounds, max_labels}
use Rattle.sheet.specs.Sheet.{max_locations, formed}

-- ---- the form

pub record Formed (s : Sheet) : Type 0 where
  pub some_principal : 1 ≤ s.principals
  pub few_principals : s.principals ≤ max_principals
  pub few_compounds : length s.compounds ≤ max_compounds
  pub compounds_earlier : earlier_types 5 s.compounds ≡ true
  pub few_labels : length s.labels ≤ max_labels
  pub labels_rising : each_rising s.principals s.labels ≡ true
  pub few_locations : length s.locations ≤ max_locations
  pub locations_named : each_named (type_count s) (label_count s) s.locations ≡ true

pub formed_facts : (s : Sheet) → formed s ≡ true → Formed s
unfolding formed
formed_facts s h =
    let a = both_left _ _ h in
    let rest = both_right _ _ h in
    let b = both_left _ _ rest in
    let rest = both_right _ _ rest in
    let c = both_left _ _ rest in
    let d = both_right _ _ rest in
    record {
      some_principal = leb-true _ _ (both_left _ _ a);
      few_principals = leb-true _ _ (both_right _ _ a);
      few_compounds = leb-true _ _ (both_left _ _ b);
      compounds_earlier = both_right _ _ b;
      few_labels = leb-true _ _ (both_left _ _ c);
      labels_rising = both_right _ _ c;
      few_locations = leb-true _ _ (both_left _ _ d);
      locations_named = both_right _ _ d;
    }

-- ---- counts

pub type-count : (s : Sheet) → type_count s ≡ 5 + length s.compounds
unfolding type_count
type-count s = refl

-- each type has its parts in the table
pub parts_count : (s : Sheet) → length (type_parts s) ≡ type_count s
unfolding type_count type_parts given_parts
parts_count s = omega arith

pub locations-few : (s : Sheet) → formed s ≡ true → location_count s ≤ max_locations
unfolding location_count
locations-few s fm = (formed_facts s fm).few_locations

pub parts_past : (s : Sheet) (n : ℕ) → type_count s ≤ n → parts_no s n ≡ no_parts
unfolding parts_no
parts_past s n h = get_or-eq_default (type_parts s) _ {n = n} (omega (arith, parts_count s))

-- ---- names

earlier_at : (k : ℕ) (ss : List Compound) → earlier_types k ss ≡ true → (i : ℕ) (d : Compound) → i < length ss
    → ((get_or ss i d).left < k + i) × ((get_or ss i d).right < k + i)
unfolding earlier_types
earlier_at k [] e i d h = absurd (omega arith)
earlier_at k (s ∷ ss) e zero d h =
    let parts = both_left _ _ e in
    (rw add-zero (ltb-true _ _ (both_left _ _ parts)), rw add-zero (ltb-true _ _ (both_right _ _ parts)))
earlier_at k (s ∷ ss) e (suc i) d h =
    let (l, r) = earlier_at (suc k) ss (both_right _ _ e) i d (omega arith) in
    (omega arith, omega arith)

named_at : (types labels : ℕ) (xs : List Location) → each_named types labels xs ≡ true
    → (x : ℕ) (d : Location) → x < length xs
    → ((get_or xs x d).type < types) × ((get_or xs x d).label < labels)
unfolding each_named
named_at types labels [] e x d h = absurd (omega arith)
named_at types labels (y ∷ ys) e zero d h =
    let names = both_left _ _ e in
    (ltb-true _ _ (both_left _ _ names), ltb-true _ _ (both_right _ _ names))
named_at types labels (y ∷ ys) e (suc x) d h = named_at types labels ys (both_right _ _ e) x d (omega arith)

rising_at : (n : ℕ) (pss : List (List Policy)) → each_rising n pss ≡ true → (l : ℕ)
    → rising n 0 (get_or pss l []) ≡ true
unfolding each_rising rising
rising_at n [] e l = refl
rising_at n (ps ∷ pss) e zero = both_left _ _ e
rising_at n (ps ∷ pss) e (suc l) = rising_at n pss (both_right _ _ e) l

module _ (s : Sheet) (fm : formed s ≡ true) where
  facts : Formed s
  facts = formed_facts s fm

  -- the parts of a sum and of a pair are earlier types
  pub parts_earlier : (n : ℕ) → 3 ≤ n → n < type_count s → ((parts_no s n).left < n) × ((parts_no s n).right < n)
  unfolding parts_no type_parts given_parts
  parts_earlier zero h k = absurd (omega arith)
  parts_earlier (suc zero) h k = absurd (omega arith)
  parts_earlier (suc (suc zero)) h k = absurd (omega arith)
  parts_earlier (suc (suc (suc zero))) h k = (omega arith, omega arith)
  parts_earlier (suc (suc (suc (suc zero)))) h k = (omega arith, omega arith)
  parts_earlier (suc (suc (suc (suc (suc i))))) h k =
      let (l, r) = earlier_at 5 s.compounds facts.compounds_earlier i no_parts (omega (arith, type-count s)) in
      (omega arith, omega arith)

  -- every number has parts that are there
  pub parts_there : (n : ℕ) → ((parts_no s n).left < type_count s) × ((parts_no s n).right < type_count s)
  unfolding parts_no type_parts given_parts
  parts_there zero = (omega (arith, type-count s), omega (arith, type-count s))
  parts_there (suc zero) = (omega (arith, type-count s), omega (arith, type-count s))
  parts_there (suc (suc zero)) = (omega (arith, type-count s), omega (arith, type-count s))
  parts_there (suc (suc (suc i))) =
      by_below (suc (suc (suc i))) (type_count s)
      (λ h. let (l, r) = parts_earlier _ (omega arith) h in (omega arith, omega arith))
      (λ h. rw (parts_past s _ h) (omega (arith, type-count s), omega (arith, type-count s)))

  -- the owners of each label rise, and its sets are of the sheet's principals
  pub label-rising : (l : ℕ) → rising s.principals 0 (get_or s.labels l []) ≡ true
  label-rising l = rising_at s.principals s.labels facts.labels_rising l

  -- every number of a location has a type that is there
  pub location-type_there : (x : ℕ) → (location_no s x).type < type_count s
  unfolding location_no location_count
  location-type_there x =
      by_below x (location_count s) (λ h. (named_at _ _ s.locations facts.locations_named x _ h).0)
      (λ h. rw (get_or-eq_default s.locations _ {n = x} h) (omega (arith, type-count s)))

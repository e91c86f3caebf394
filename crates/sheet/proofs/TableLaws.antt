-- The table of a sheet says what the sheet says, for every number.
use mathlib.Core.Path.{◌≡◌, refl, sym, ap, ◌∙◌}
use mathlib.Core.Bool.{Bool, true, cond}
use mathlib.Core.List.{List, [], ◌∷◌, ◌++◌, append_assoc}
use Prim.Native.Nat.{ℕ, ◌+◌, ◌*◌, ◌%◌, ◌<◌, ◌≤◌}
use native.Mathlib.Nat.{mod-eq_of_lt}
use lib.Dec.{eqb, leb}
use borrow.Author.Tests.{lt-leb, le-leb, eqb-true, eq-eqb, ne_eqb}
use Rattle.logic.specs.Booleans.{both}
use Rattle.logic.proofs.BooleanLaws.{bool_ext}
use native.Mathlib.Omega.{arith}
use lib.ListN.{length, get_or, length-append}
use Rattle.sets.specs.Sets.{everyone}
use Rattle.labels.specs.declared.Rule.{Rule}
use Rattle.labels.specs.declared.Rule.TheVariants.{Pooled, Alone}
use Rattle.sheet.specs.declared.Kind.{Kind}
use Rattle.sheet.specs.declared.Kind.TheVariants.{Sum, Pair}
use Rattle.sheet.specs.Sheet.{Compound, Location, Sheet, type_count, labels_of, label_count, location_no}
use Rattle.sheet.specs.Sheet.{location_count, formed, same_kind}
use Rattle.sheet.specs.Padding.{padded}
use Rattle.sheet.specs.Internal.Tables.{parts_room, locations_room, labels_room, parts_base, locations_base}
use Rattle.sheet.specs.Internal.Tables.{labels_base, part_words, location_words, labels_words, table_of, principals_in}
use Rattle.sheet.specs.Internal.Tables.{everyone_in, types_in, labels_in, locations_in, rule_word, rule_in}
use Rattle.sheet.specs.Internal.Tables.{entry_in, left_in, right_word_in, right_in, kind_in, type_in, home_in}
use Rattle.sheet.specs.Internal.Tables.{max_types}
use Rattle.sheet.specs.Internal.Tables.{right_word, no_parts, type_parts, parts_no}
use Rattle.sheet.proofs.FormLaws.{Formed, formed_facts, type-count, parts_count, parts_there}
use Rattle.sheet.proofs.Words.{length-padded, length_entries, entry_at, entry_of}

-- ---- counts

module _ (s : Sheet) (fm : formed s ≡ true) where
  pub principals_in_lem : principals_in (table_of s) ≡ s.principals
  unfolding table_of
  principals_in_lem = refl

  pub everyone_in_lem : everyone_in (table_of s) ≡ everyone s.principals
  unfolding table_of
  everyone_in_lem = refl

  pub types_in_lem : types_in (table_of s) ≡ type_count s
  unfolding table_of
  types_in_lem = refl

  pub labels_in_lem : labels_in (table_of s) ≡ label_count s
  unfolding table_of
  labels_in_lem = refl

  pub locations_in_lem : locations_in (table_of s) ≡ location_count s
  unfolding table_of
  locations_in_lem = refl

  pub rule_in_lem : rule_in (table_of s) ≡ s.rule
  unfolding table_of rule_in rule_word
  rule_in_lem = of s.rule
    where
      of : (r : Rule) → cond (eqb (rule_word r) 0) Pooled Alone ≡ r
      of Pooled = refl
      of Alone = refl

-- ---- the four blocks

unfoldable pub heading : Sheet → List ℕ
heading s = s.principals ∷ everyone s.principals ∷ type_count s ∷ label_count s ∷ location_count s
    ∷ rule_word s.rule ∷ 0 ∷ 0 ∷ []

unfoldable pub part_block : Sheet → List ℕ
part_block s = padded parts_room (part_words (type_parts s))

unfoldable pub location_block : Sheet → List ℕ
location_block s = padded locations_room (location_words s.locations)

unfoldable pub label_block : Sheet → List ℕ
label_block s = padded labels_room (labels_words (labels_of s))

-- what stands before the locations
unfoldable pub to_locations : Sheet → List ℕ
to_locations s = heading s ++ part_block s

-- what stands before the labels
unfoldable pub to_labels : Sheet → List ℕ
to_labels s = to_locations s ++ location_block s

pub from_locations : (s : Sheet) → table_of s ≡ to_locations s ++ (location_block s ++ label_block s)
unfolding table_of to_locations heading part_block location_block label_block
from_locations s = sym (append_assoc (heading s) (part_block s) (location_block s ++ label_block s))

pub from_labels : (s : Sheet) → table_of s ≡ to_labels s ++ padded labels_room (labels_words (labels_of s))
unfolding to_labels label_block
from_labels s = from_locations s ∙ sym (append_assoc (to_locations s) (location_block s) (label_block s))

-- ---- the word of a right part, which says the kind too

right_word_right : (k : Kind) (b : ℕ) → b < max_types → right_word k b % max_types ≡ b
unfolding right_word
right_word_right Sum b h = omega arith
right_word_right Pair b h = omega arith

right_word-kind : (k : Kind) (b : ℕ) → cond (leb max_types (right_word k b)) Pair Sum ≡ k
unfolding right_word
right_word-kind Sum b = ap (λ (z : Bool). cond z Pair Sum) (lt-leb max_types (b % max_types) (omega arith))
right_word-kind Pair b = ap (λ (z : Bool). cond z Pair Sum) (le-leb max_types (max_types + b % max_types) (omega arith))

pub right_word_same : (k j : Kind) (a b : ℕ) → a < max_types → b < max_types
    → eqb (right_word k a) (right_word j b) ≡ both (same_kind k j) (eqb a b)
unfolding right_word same_kind both
right_word_same Sum Sum a b h l = rw (mod-eq_of_lt h, mod-eq_of_lt l)
right_word_same Sum Pair a b h l = ne_eqb (a % max_types) (max_types + b % max_types) (λ e. omega (arith, e))
right_word_same Pair Sum a b h l = ne_eqb (max_types + a % max_types) (b % max_types) (λ e. omega (arith, e))
right_word_same Pair Pair a b h l =
    let w = right_word Pair a in
    let u = right_word Pair b in
    bool_ext (eqb w u) (eqb a b) (λ e. let z : w ≡ u = eqb-true _ _ e in eq-eqb a b (omega arith))
    (λ e. let z : a ≡ b = eqb-true _ _ e in eq-eqb w u (omega arith))

module _ (s : Sheet) (fm : formed s ≡ true) where
  facts : Formed s
  facts = formed_facts s fm

  types-fit : length (part_words (type_parts s)) ≤ parts_room
  types-fit =
      omega (
        arith,
        length_entries (λ (p : Compound). p.left) (λ (p : Compound). right_word p.kind p.right) (type_parts s),
        parts_count s,
        type-count s,
        facts.few_compounds,
      )

  locations-fit : length (location_words s.locations) ≤ locations_room
  locations-fit = omega (
    arith,
    length_entries (λ (x : Location). x.type) (λ (x : Location). x.label) s.locations,
    facts.few_locations,
  )

  pub locations_start : length (to_locations s) ≡ locations_base
  unfolding to_locations heading part_block
  locations_start = length-append (heading s) (part_block s)
      ∙ omega (arith, length-padded parts_room (part_words (type_parts s)) types-fit)

  pub labels_start : length (to_labels s) ≡ labels_base
  unfolding to_labels location_block
  labels_start =
      length-append (to_locations s) (location_block s)
      ∙ omega (arith, locations_start, length-padded locations_room (location_words s.locations) locations-fit)

  -- ---- parts of types

  part_in : (f : Compound → ℕ) (j : ℕ) → f (no_parts) ≡ 0 → j < 2
      → ((i : ℕ) → i < length (type_parts s)
      → get_or (part_words (type_parts s)) (j + 2 * i) 0 ≡ f (get_or (type_parts s) i (no_parts)))
      → (i : ℕ) → entry_in (table_of s) (types_in (table_of s)) (parts_base + j) i ≡ f (parts_no s i)
  unfolding table_of parts_no heading
  part_in f j none two word i =
      ap (λ (k : ℕ). entry_in (table_of s) k (parts_base + j) i) (types_in_lem s fm ∙ sym (parts_count s))
      ∙ entry_of (type_parts s) (no_parts) f j (heading s) (part_words (type_parts s))
      (padded locations_room (location_words s.locations) ++ padded labels_room (labels_words (labels_of s)))
      parts_room (parts_base + j)
      none refl two (length_entries _ _ (type_parts s)) types-fit word i

  pub left_in_lem : (n : ℕ) → left_in (table_of s) n ≡ (parts_no s n).left
  unfolding left_in
  left_in_lem n =
      part_in (λ (p : Compound). p.left) 0 refl (omega arith) (λ i h. (entry_at _ _ (type_parts s) _ i h).0) n

  pub right_word_in_lem : (n : ℕ) → right_word_in (table_of s) n ≡ right_word (parts_no s n).kind (parts_no s n).right
  unfolding right_word_in right_word
  right_word_in_lem n =
      part_in (λ (p : Compound). right_word p.kind p.right) 1 refl (omega arith)
      (λ i h. (entry_at _ _ (type_parts s) _ i h).1) n

  -- every right part is a number of a type
  pub right_below : (n : ℕ) → (parts_no s n).right < max_types
  right_below n = omega (arith, (parts_there s fm n).1, type-count s, facts.few_compounds)

  pub right_in_lem : (n : ℕ) → right_in (table_of s) n ≡ (parts_no s n).right
  unfolding right_in
  right_in_lem n =
      ap (λ (w : ℕ). w % max_types) (right_word_in_lem n)
      ∙ right_word_right (parts_no s n).kind (parts_no s n).right (right_below n)

  pub kind_in_lem : (n : ℕ) → kind_in (table_of s) n ≡ (parts_no s n).kind
  unfolding kind_in
  kind_in_lem n = ap (λ (w : ℕ). cond (leb max_types w) Pair Sum) (right_word_in_lem n)
      ∙ right_word-kind (parts_no s n).kind (parts_no s n).right

  -- ---- locations

  location_in : (f : Location → ℕ) (j : ℕ) → f (record { type = 0; label = 0 }) ≡ 0 → j < 2
      → ((i : ℕ) → i < length s.locations
      → get_or (location_words s.locations) (j + 2 * i) 0 ≡ f (get_or s.locations i (record { type = 0; label = 0 })))
      → (x : ℕ) → entry_in (table_of s) (locations_in (table_of s)) (locations_base + j) x ≡ f (location_no s x)
  unfolding location_no location_count location_block
  location_in f j none two word x =
      ap (λ (t : List ℕ). entry_in t (locations_in (table_of s)) (locations_base + j) x) (from_locations s)
      ∙ ap (λ (c : ℕ). entry_in (to_locations s ++ (location_block s ++ label_block s)) c (locations_base + j) x)
      (locations_in_lem s fm)
      ∙ entry_of s.locations (record { type = 0; label = 0 }) f j (to_locations s) (location_words s.locations)
      (label_block s) locations_room
      (locations_base + j) none (ap (λ (n : ℕ). n + j) (sym locations_start)) two
      (length_entries _ _ s.locations) locations-fit word x

  pub type_in_lem : (x : ℕ) → type_in (table_of s) x ≡ (location_no s x).type
  unfolding type_in
  type_in_lem x =
      location_in (λ (y : Location). y.type) 0 refl (omega arith) (λ i h. (entry_at _ _ s.locations _ i h).0) x

  pub home_in_lem : (x : ℕ) → home_in (table_of s) x ≡ (location_no s x).label
  unfolding home_in
  home_in_lem x =
      location_in (λ (y : Location). y.label) 1 refl (omega arith) (λ i h. (entry_at _ _ s.locations _ i h).1) x

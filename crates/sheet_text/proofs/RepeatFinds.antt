-- A table repeats a type or a label exactly if its sheet does.
use mathlib.Core.Path.{◌≡◌, refl, sym, ap, ap₂, ◌∙◌}
use mathlib.Core.Bool.{Bool, true, false, ◌&&◌, ◌||◌}
use mathlib.Core.List.{List, [], ◌∷◌, ◌++◌, map, append_assoc}
use Prim.Native.Nat.{ℕ, zero, suc, ◌+◌, ◌*◌, ◌-◌, ◌/◌, ◌<◌, ◌≤◌}
use native.Mathlib.Nat.{suc-mul}
use native.Mathlib.Omega.{arith}
use borrow.Author.Tests.{eqb-true, eq-eqb}
use lib.Dec.{eqb}
use lib.ListN.{length, get_or, take, drop, replicate, length-drop, length-map}
use lib.Seq.{take_at, drop_at, take-take, length-take-le}
use Rattle.std.proofs.lemmas.List.{drop-take}
use Rattle.std.proofs.lemmas.Bool.Decides.{Decides-eqb}
use Rattle.std.proofs.lemmas.Slice.Eq.{slice_eq-Decides}
use Rattle.std.specs.List.{list_any}
use Rattle.std.specs.Simd.{first_chunks}
use Rattle.logic.specs.Booleans.{both, either}
use Rattle.logic.proofs.BooleanLaws.{bool_ext, both_left, both_right}
use Rattle.sets.specs.Sets.{everyone}
use Rattle.labels.specs.Labels.{owners, label_of, bottom_of, same_of, whole_of}
use Rattle.labels.specs.Internal.Tables.{label_size, label_words}
use Rattle.labels.specs.declared.Label.{Label}
use Rattle.labels.proofs.EffectiveLaws.{effective_whole}
use Rattle.labels.proofs.OrderLaws.{label_path, whole_lengths, below_antisym, same_both_ways, same_refl}
use Rattle.labels.proofs.TableLaws.{length_words}
use Rattle.sheet.specs.Padding.{padded}
use Rattle.sheet.specs.Sheet.{Compound, Sheet, labels_of, label_no, label_count, formed, among, repeated, same_kind}
use Rattle.sheet.specs.Sheet.{same_compound, given_sums, repeats}
use Rattle.sheet.specs.Internal.Tables.{max_types, parts_place, label_place, parts_room, locations_room, labels_room}
use Rattle.sheet.specs.Internal.Tables.{entry_words, labels_words, part_words, location_words, table_of, types_in}
use Rattle.sheet.specs.Internal.Tables.{labels_in, right_word, no_parts, given_parts}
use Rattle.sheet.specs.Internal.Tables.{type_parts, parts_no}
use Rattle.sheet.proofs.FormLaws.{type-count}
use Rattle.sheet.proofs.TableLaws.{types_in_lem, labels_in_lem, right_word_same, right_below, to_labels, from_labels}
use Rattle.sheet.proofs.TableLaws.{labels_start}
use Rattle.sheet.proofs.LabelLaws.{label_no-effective}
use Rattle.sheet_text.specs.Internal.Repeats.{same_words, comes_again, repeats_in}

-- ---- the words of a list's elements

module _ {A B : Type 0} (f : A → B) (same : A → A → Bool) (same' : B → B → Bool) (d : A) where
  among_map : (x : A) (xs : List A)
      → ((k : ℕ) → k < length xs → same' (f x) (f (get_or xs k d)) ≡ same x (get_or xs k d))
      → among same' (f x) (map f xs) ≡ among same x xs
  unfolding among
  among_map x [] h = refl
  among_map x (y ∷ ys) h = ap₂ either (h 0 (omega arith)) (among_map x ys (λ k l. h (suc k) (omega arith)))

  repeated_map : (xs : List A)
      → ((j k : ℕ) → j < length xs → k < length xs
      → same' (f (get_or xs j d)) (f (get_or xs k d)) ≡ same (get_or xs j d) (get_or xs k d))
      → repeated same' (map f xs) ≡ repeated same xs
  unfolding repeated
  repeated_map [] h = refl
  repeated_map (x ∷ xs) h =
      ap₂ either (among_map x xs (λ k l. h 0 (suc k) (omega arith) (omega arith)))
      (repeated_map xs (λ j k l m. h (suc j) (suc k) (omega arith) (omega arith)))

-- what a search for an element finds, by a test that takes it second
pub among_any : {A : Type 0} (same : A → A → Bool) (x : A) (xs : List A)
    → list_any (λ y. same y x) xs ≡ among (λ x y. same y x) x xs
unfolding among
among_any same x [] = refl
among_any same x (y ∷ ys) = or_either (same y x) _ ∙ ap (either (same y x)) (among_any same x ys)
  where
    or_either : (a b : Bool) → (a || b) ≡ either a b
    or_either true b = unfold either in refl
    or_either false b = unfold either in refl

-- the cases of the walk over a list: its first element comes again, or what is looked for is in the rest
module _ {A : Type 0} (same : A → A → Bool) where
  pub repeated_end : (xs : List A) → length xs ≡ 0 → false ≡ repeated (λ x y. same y x) xs
  unfolding repeated
  repeated_end [] h = refl
  repeated_end (x ∷ xs) h = absurd (omega arith)

  module _ (x : A) (xs all : List A) (cut : all ≡ x ∷ xs) {b : Bool} (found : b ≡ list_any (λ y. same y x) xs) where
    pub repeated_here : b ≡ true → true ≡ repeated (λ x y. same y x) all
    unfolding repeated either
    repeated_here h = rw (cut, ← among_any same x xs, ← found, h)

    pub repeated_on : b ≡ false → repeated (λ x y. same y x) xs ≡ repeated (λ x y. same y x) all
    unfolding repeated either
    repeated_on h = rw (cut, ← among_any same x xs, ← found, h)

-- ---- lists of words, in a part of a table

chunks_taken : (size k : ℕ) (xs : List ℕ) → first_chunks size k (take (k * size) xs) ≡ first_chunks size k xs
chunks_taken size zero xs = refl
chunks_taken size (suc k) xs =
    let e : suc k * size ≡ size + k * size = omega (arith, suc-mul k size) in
    rw e
    (ap₂ ◌∷◌ (take-take size (size + k * size) xs (omega arith))
    (ap (first_chunks size k) (drop-take size (k * size) xs) ∙ chunks_taken size k (drop size xs)))

-- what is found among those that stand in n words from the word at `at` on
pub comes_found : (size k n at from : ℕ) (t : List ℕ) {rows : List (List ℕ)}
    → rows ≡ first_chunks size (length (take n (drop from t)) / size) (take n (drop from t))
    → from ≡ at → n ≡ k * size → n / size ≡ k → at + n ≤ length t → repeated same_words rows ≡ comes_again size k at t
comes_found size k n at from t rows i e d h =
    let long : length (take n (drop at t)) ≡ n = length-take-le n (drop at t) (omega (arith, length-drop at t)) in
    ap (repeated same_words) (rows ∙ rw (i, long, d, e) (chunks_taken size k (drop at t)))

-- ---- the words of types

swap_eqb : (a b : ℕ) → eqb a b ≡ eqb b a
swap_eqb a b =
    bool_ext (eqb a b) (eqb b a) (λ e. eq-eqb b a (sym (eqb-true a b e))) (λ e. eq-eqb a b (sym (eqb-true b a e)))

kind_between : (l k r : Bool) → (l && (both k r && true)) ≡ both k (both l r)
unfolding both
kind_between true true true = refl
kind_between true true false = refl
kind_between true false true = refl
kind_between true false false = refl
kind_between false true true = refl
kind_between false true false = refl
kind_between false false true = refl
kind_between false false false = refl

compound_words : Compound → List ℕ
compound_words x = x.left ∷ right_word x.kind x.right ∷ []

same_types : (x y : Compound) → x.right < max_types → y.right < max_types
    → same_words (compound_words x) (compound_words y) ≡ same_compound x y
unfolding same_compound compound_words
same_types x y h k =
    rw (
      swap_eqb y.left x.left,
      swap_eqb (right_word y.kind y.right) (right_word x.kind x.right),
      right_word_same x.kind y.kind x.right y.right h k,
    )
    (kind_between (eqb x.left y.left) (same_kind x.kind y.kind) (eqb x.right y.right))

types_rows : (xs : List Compound) (after : List ℕ)
    → first_chunks 2 (length xs) (part_words xs ++ after) ≡ map compound_words xs
unfolding entry_words compound_words
types_rows [] after = refl
types_rows (x ∷ xs) after = ap (◌∷◌ (compound_words x)) (types_rows xs after)

-- ---- the words of labels

same_labels : (a b : Label) → whole_of a ≡ true → whole_of b ≡ true
    → same_words (label_words a) (label_words b) ≡ same_of a b
unfolding label_words
same_labels a b h k =
    let told = slice_eq-Decides Decides-eqb (label_words b) (label_words a) _ refl in
    bool_ext (same_words (label_words a) (label_words b)) (same_of a b)
    (λ e.
    let words : b.readers ++ b.writers ≡ a.readers ++ a.writers = told.0 e in
    let readers : b.readers ≡ a.readers =
    sym (take_at b.readers b.writers owners (whole_lengths b k).0) ∙ ap (take owners) words
    ∙ take_at a.readers a.writers owners (whole_lengths a h).0 in
    let writers : b.writers ≡ a.writers =
    sym (drop_at b.readers b.writers owners (whole_lengths b k).0) ∙ ap (drop owners) words
    ∙ drop_at a.readers a.writers owners (whole_lengths a h).0 in
    rw (label_path b a readers writers) (same_refl a))
    (λ e.
    let orders = sym (same_both_ways a b) ∙ e in
    let same : a ≡ b = below_antisym a b h k (both_left _ _ orders) (both_right _ _ orders) in
    told.1 (ap label_words (sym same)))

labels_rows : (ls : List Label) (after : List ℕ) (d : Label)
    → ((l : ℕ) → l < length ls → whole_of (get_or ls l d) ≡ true)
    → first_chunks label_size (length ls) (labels_words ls ++ after) ≡ map label_words ls
unfolding labels_words
labels_rows [] after d h = refl
labels_rows (a ∷ ls) after d h =
    let long = length_words a (h 0 (omega arith)) in
    rw append_assoc
    (ap₂ ◌∷◌ (take_at (label_words a) (labels_words ls ++ after) label_size long)
    (ap (first_chunks label_size (length ls)) (drop_at (label_words a) (labels_words ls ++ after) label_size long)
    ∙ labels_rows ls after d (λ l k. h (suc l) (omega arith))))

-- ---- types and labels

module _ (s : Sheet) (fm : formed s ≡ true) where
  -- the types with parts are those from 3 on
  compound_at : (j : ℕ) → parts_no s (3 + j) ≡ get_or (given_sums ++ s.compounds) j no_parts
  unfolding parts_no type_parts given_parts
  compound_at j = let z : 3 + j ≡ suc (suc (suc j)) = omega arith in rw z

  right_low : (j : ℕ) → (get_or (given_sums ++ s.compounds) j no_parts).right < max_types
  right_low j = rw (← compound_at j) (right_below s fm (3 + j))

  parts_from : drop (parts_place 3) (table_of s)
      ≡ part_words (given_sums ++ s.compounds)
      ++ (replicate (parts_room - length (part_words (type_parts s))) 0
      ++ (padded locations_room (location_words s.locations) ++ padded labels_room (labels_words (labels_of s))))
  unfolding table_of type_parts given_parts padded entry_words
  parts_from =
      append_assoc (part_words (given_sums ++ s.compounds))
      (replicate (parts_room - length (part_words (type_parts s))) 0)
      (padded locations_room (location_words s.locations) ++ padded labels_room (labels_words (labels_of s)))

  types-repeated : comes_again 2 (types_in (table_of s) - 3) (parts_place 3) (table_of s)
      ≡ repeated same_compound (given_sums ++ s.compounds)
  types-repeated =
      let xs = given_sums ++ s.compounds in
      let long : types_in (table_of s) - 3 ≡ length xs = omega (arith, type-count s, types_in_lem s fm) in
      ap (λ k. comes_again 2 k (parts_place 3) (table_of s)) long
      ∙ ap (repeated same_words) (ap (first_chunks 2 (length xs)) parts_from ∙ types_rows xs _)
      ∙ repeated_map compound_words same_compound same_words no_parts xs
      (λ j k l m. same_types _ _ (right_low j) (right_low k))

  labels_from : drop (label_place 0) (table_of s)
      ≡ labels_words (labels_of s) ++ replicate (labels_room - length (labels_words (labels_of s))) 0
  unfolding padded
  labels_from = ap (drop (label_place 0)) (from_labels s) ∙ drop_at (to_labels s) _ (label_place 0) (labels_start s fm)

  labels-repeated : comes_again label_size (labels_in (table_of s)) (label_place 0) (table_of s)
      ≡ repeated same_of (labels_of s)
  unfolding labels_of label_no
  labels-repeated =
      let ls = labels_of s in
      let d = bottom_of (everyone s.principals) in
      let long : labels_in (table_of s) ≡ length ls =
      unfold label_count in (omega (arith, length-map s.labels (label_of s.principals), labels_in_lem s fm)) in
      ap (λ k. comes_again label_size k (label_place 0) (table_of s)) long
      ∙ ap (repeated same_words) (ap (first_chunks label_size (length ls)) labels_from
      ∙ labels_rows ls _ d (λ l h. whole l))
      ∙ repeated_map label_words same_of same_words d ls (λ j k l m. same_labels _ _ (whole j) (whole k))
    where
      whole : (l : ℕ) → whole_of (label_no s l) ≡ true
      whole l = effective_whole s.principals (label_no s l) (label_no-effective s fm l)

  pub repeats_in_lem : repeats_in (table_of s) ≡ repeats s
  unfolding repeats_in repeats
  repeats_in_lem = ap₂ either types-repeated labels-repeated

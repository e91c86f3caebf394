-- The table of a sheet with something more, by the words that are stored.
use mathlib.Core.Path.{◌≡◌, refl, sym, ap, ap₂, ◌∙◌}
use mathlib.Core.Bool.{true}
use mathlib.Core.List.{List, [], ◌∷◌, ◌++◌, append_assoc, append-nil, map, map-append}
use Prim.Native.Nat.{ℕ, suc, ◌+◌, ◌*◌, ◌-◌, ◌<◌, ◌≤◌}
use native.Mathlib.Omega.{arith}
use native.Mathlib.Nat.{mod-eq_of_lt}
use lib.ListN.{length, get_or, set, replicate, length-append, length-replicate, replicate-append-replicate, length-map}
use lib.Seq.{set_at, get_or-append_seam}
use borrow.Author.Tests.{lt-ltb}
use Rattle.sets.specs.Sets.{width, everyone}
use Rattle.sets.proofs.SetLaws.{restrict-everyone}
use Rattle.sets.proofs.Walks.{length-tab}
use Rattle.labels.specs.Labels.{Policy, policy, open_of, policy_of, with_policies, label_of, whole_of, owners}
use Rattle.labels.specs.Labels.{bottom_of}
use Rattle.labels.specs.Internal.Tables.{label_size, label_words, label_put}
use Rattle.labels.specs.declared.Label.{Label}
use Rattle.labels.proofs.PolicyLaws.{policy_whole}
use Rattle.labels.proofs.OrderLaws.{whole_intro}
use Rattle.labels.proofs.TableLaws.{length_words, put_middle}
use Rattle.sheet.specs.declared.Kind.{Kind}
use Rattle.sheet.specs.declared.Kind.TheVariants.{Sum, Pair}
use Rattle.sheet.specs.Sheet.{Compound, Location, Sheet, type_count, labels_of, label_no, label_count, location_count}
use Rattle.sheet.specs.Sheet.{max_principals, max_labels, max_locations, formed}
use Rattle.sheet.specs.Padding.{padded}
use Rattle.sheet.specs.Internal.Tables.{max_types, parts_room, locations_room, labels_room, parts_base, locations_base}
use Rattle.sheet.specs.Internal.Tables.{parts_place, label_place, table_words, types_at, labels_at, locations_at}
use Rattle.sheet.specs.Internal.Tables.{entry_words, part_words, location_words, labels_words, table_of, label_in}
use Rattle.sheet.specs.Internal.Tables.{right_word, given_parts, type_parts, rule_word}
use Rattle.sheet.specs.Internal.Growth.{bare_sheet, add_rule, add_compound, add_label, to_last, add_policy}
use Rattle.sheet.specs.Internal.Growth.{add_location}
use Rattle.sheet.specs.Internal.Writers.{low, principals_put, rule_put, entry_put, compound_put, location_put}
use Rattle.sheet.specs.Internal.Writers.{label_set, open_put, policy_put}
use Rattle.sheet.proofs.FormLaws.{formed_facts, type-count, parts_count}
use Rattle.sheet.proofs.Words.{length-padded, length_entries}
use Rattle.sheet.proofs.TableLaws.{principals_in_lem, everyone_in_lem, types_in_lem, labels_in_lem, locations_in_lem}
use Rattle.sheet.proofs.TableLaws.{heading}
use Rattle.sheet.proofs.TableLaws.{part_block, location_block, label_block, to_locations, to_labels, from_locations}
use Rattle.sheet.proofs.TableLaws.{from_labels, locations_start, labels_start}
use Rattle.sheet.proofs.LabelLaws.{label_in_lem}
use Rattle.sheet.proofs.GrowthLaws.{length_more, length-to_last, to_last_more, labels_split}

-- ---- counts fit a word

pub low_count : (n : ℕ) → n ≤ max_locations → low n ≡ n
unfolding low
low_count n h = mod-eq_of_lt (omega arith)

-- so does the word of a right part
right_word_low : (k : Kind) (b : ℕ) → right_word k b ≤ max_locations
unfolding right_word
right_word_low Sum b = omega arith
right_word_low Pair b = omega arith

-- ---- an entry of two words more in a block that is filled up with zeros

set_entry : (xs ys : List ℕ) (y z a b i : ℕ) → length xs ≡ i
    → set (set (xs ++ (y ∷ z ∷ ys)) i a) (i + 1) b ≡ xs ++ (a ∷ b ∷ ys)
set_entry xs ys y z a b i e =
    ap (λ (t : List ℕ). set t (i + 1) b) (set_at xs y (z ∷ ys) a i e ∙ sym (append_assoc xs (a ∷ []) (z ∷ ys)))
    ∙ set_at (xs ++ (a ∷ [])) z ys b (i + 1) (length_more xs a ∙ ap (λ (k : ℕ). k + 1) e)
    ∙ append_assoc xs (a ∷ []) (b ∷ ys)

module _ {A : Type 0} (first second : A → ℕ) where
  entries_more : (xs : List A) (x : A)
      → entry_words first second (xs ++ (x ∷ [])) ≡ entry_words first second xs ++ (first x ∷ second x ∷ [])
  unfolding entry_words
  entries_more [] x = refl
  entries_more (y ∷ xs) x = ap (λ (t : List ℕ). first y ∷ second y ∷ t) (entries_more xs x)

  module _ (before after : List ℕ) (room : ℕ) (xs : List A) (fits : 2 * length xs + 2 ≤ room) where
    words : List ℕ
    words = entry_words first second xs

    left : ℕ
    left = room - (2 * length xs + 2)

    entries_before : before ++ (padded room words ++ after) ≡ (before ++ words) ++ (0 ∷ 0 ∷ (replicate left 0 ++ after))
    unfolding padded words left
    entries_before =
        let z : room - length words ≡ suc (suc left) = omega (arith, length_entries first second xs) in
        rw z (simp append_assoc)

    entries_after : (x : A)
        → before ++ (padded room (entry_words first second (xs ++ (x ∷ []))) ++ after)
        ≡ (before ++ words) ++ (first x ∷ second x ∷ (replicate left 0 ++ after))
    unfolding padded words left
    entries_after x =
        let z : room - length (entry_words first second (xs ++ (x ∷ []))) ≡ left =
        omega (arith, length_entries first second (xs ++ (x ∷ [])), length_more xs x) in
        rw (z, entries_more xs x) (simp append_assoc)

    pub add_entry : (x : A) (i : ℕ) → length before + 2 * length xs ≡ i
        → set (set (before ++ (padded room (entry_words first second xs) ++ after)) i (first x)) (i + 1) (second x)
        ≡ before ++ (padded room (entry_words first second (xs ++ (x ∷ []))) ++ after)
    unfolding words
    add_entry x i e =
        ap (λ (t : List ℕ). set (set t i (first x)) (i + 1) (second x)) entries_before
        ∙ set_entry (before ++ words) (replicate left 0 ++ after) 0 0 (first x) (second x) i
        (length-append before words ∙ omega (arith, length_entries first second xs))
        ∙ sym (entries_after x)

-- ---- types and locations

-- the words of a heading, then others
headed : Sheet → ℕ → ℕ → ℕ → List ℕ → List ℕ
headed s types labels locations ws =
    s.principals ∷ everyone s.principals ∷ types ∷ labels ∷ locations ∷ rule_word s.rule ∷ 0 ∷ 0 ∷ ws

-- an entry is stored where there is room
entry_put_lem : (base count most a b n : ℕ) (t : List ℕ) → get_or t count 0 ≡ n → n < most → most ≤ max_locations
    → a ≤ max_locations → b ≤ max_locations
    → entry_put base count most a b t ≡ set (set (set t (base + 2 * n) a) (base + 2 * n + 1) b) count (n + 1)
unfolding entry_put
entry_put_lem base count most a b n t e room few h k =
    rw (e, lt-ltb n most room, low_count a h, low_count b k, low_count (n + 1) (omega arith))

module _ (s : Sheet) (fm : formed s ≡ true) where
  pub compound_put_lem : (x : Compound) → type_count s < max_types → x.left < type_count s
      → compound_put x.kind x.left x.right (table_of s) ≡ table_of (add_compound s x)
  unfolding table_of add_compound type_count label_count location_count labels_of type_parts given_parts heading
      location_block
      label_block headed
  compound_put_lem x few left =
      let n = type_count s in
      let after = location_block s ++ label_block s in
      let parts = padded parts_room (part_words (type_parts s ++ (x ∷ []))) ++ after in
      let count : n + 1 ≡ type_count (add_compound s x) = omega (arith, length_more s.compounds x) in
      entry_put_lem parts_base types_at max_types x.left (right_word x.kind x.right) n (table_of s)
      (types_in_lem s fm) few
      (omega arith) (omega arith)
      (right_word_low x.kind x.right)
      ∙ ap (λ (t : List ℕ). set t types_at (n + 1))
      (add_entry (λ (p : Compound). p.left) (λ (p : Compound). right_word p.kind p.right)
      (heading s) after parts_room (type_parts s) (omega (arith, parts_count s)) x
      (parts_place n) (omega (arith, parts_count s)))
      ∙ ap (λ (k : ℕ). headed s k (label_count s) (location_count s) parts) count

  pub location-put : (x : Location) → location_count s < max_locations → x.type < type_count s → x.label < label_count s
      → location_put x.type x.label (table_of s) ≡ table_of (add_location s x)
  unfolding add_location type_count label_count location_count labels_of type_parts to_locations part_block
      location_block
      label_block heading headed
  location-put x few type label =
      let n = location_count s in
      let facts = formed_facts s fm in
      let block = padded locations_room (location_words (s.locations ++ (x ∷ []))) in
      let count : n + 1 ≡ location_count (add_location s x) = sym (length_more s.locations x) in
      entry_put_lem locations_base locations_at max_locations x.type x.label n (table_of s)
      (locations_in_lem s fm) few (omega arith)
      (omega (arith, type-count s, facts.few_compounds)) (omega (arith, facts.few_labels))
      ∙ ap (λ (t : List ℕ). set (set (set t (locations_base + 2 * n) x.type) (locations_base + 2 * n + 1) x.label)
      locations_at (n + 1)) (from_locations s)
      ∙ ap (λ (t : List ℕ). set t locations_at (n + 1))
      (add_entry (λ (y : Location). y.type) (λ (y : Location). y.label) (to_locations s) (label_block s) locations_room
      s.locations (omega arith) x
      (locations_base + 2 * n) (ap (λ (k : ℕ). k + 2 * n) (locations_start s fm)))
      ∙ ap (λ (k : ℕ). headed s (type_count s) (label_count s) k (part_block s ++ (block ++ label_block s))) count
      ∙ sym (from_locations (add_location s x))

-- ---- labels

-- every label of policies has a place for each owner
with_whole : (ps : List Policy) (a : Label) → whole_of a ≡ true → whole_of (with_policies a ps) ≡ true
unfolding with_policies
with_whole [] a h = h
with_whole (policy o r w ∷ ps) a h = with_whole ps (policy_of a o r w) (policy_whole a o r w h)

label_of_whole : (n : ℕ) (ps : List Policy) → whole_of (label_of n ps) ≡ true
unfolding label_of open_of
label_of_whole n ps =
    with_whole ps (open_of n (everyone n))
    (whole_intro (open_of n (everyone n)) (length-replicate owners (everyone n)) (length-tab _ _))

-- a policy more at a label
with_more : (ps : List Policy) (a : Label) (o r w : ℕ)
    → with_policies a (ps ++ (policy o r w ∷ [])) ≡ policy_of (with_policies a ps) o r w
unfolding with_policies
with_more [] a o r w = refl
with_more (policy o' r' w' ∷ ps) a o r w = with_more ps (policy_of a o' r' w') o r w

label_of_more : (n : ℕ) (ps : List Policy) (o r w : ℕ)
    → label_of n (ps ++ (policy o r w ∷ [])) ≡ policy_of (label_of n ps) o r w
unfolding label_of
label_of_more n ps o r w = with_more ps _ o r w

module _ (n : ℕ) where
  words_of : List (List Policy) → List ℕ
  words_of pss = labels_words (map (label_of n) pss)

  words_long : (pss : List (List Policy)) → length (words_of pss) ≡ label_size * length pss
  unfolding words_of labels_words
  words_long [] = refl
  words_long (ps ∷ pss) =
      length-append (label_words (label_of n ps)) (words_of pss)
      ∙ omega (arith, length_words (label_of n ps) (label_of_whole n ps), words_long pss)

  words_more : (pss : List (List Policy)) (ps : List Policy)
      → words_of (pss ++ (ps ∷ [])) ≡ words_of pss ++ label_words (label_of n ps)
  unfolding words_of labels_words
  words_more [] ps = append-nil (label_words (label_of n ps))
  words_more (qs ∷ pss) ps = ap (λ (t : List ℕ). label_words (label_of n qs) ++ t) (words_more pss ps)
      ∙ sym (append_assoc (label_words (label_of n qs)) (words_of pss) _)

  module _ (before : List ℕ) (pss : List (List Policy))
      (fits : label_size * length pss + label_size ≤ labels_room) where
    rest : List ℕ
    rest = replicate (labels_room - (label_size * length pss + label_size)) 0

    -- the block with room for a label more, and with that label
    labels_room_lem : before ++ padded labels_room (words_of pss)
        ≡ (before ++ words_of pss) ++ replicate label_size 0 ++ rest
    unfolding padded rest
    labels_room_lem =
        let k = labels_room - (label_size * length pss + label_size) in
        let z : labels_room - length (words_of pss) ≡ label_size + k = omega (arith, words_long pss) in
        let e : replicate {A = ℕ} (labels_room - length (words_of pss)) 0 ≡ replicate label_size 0 ++ replicate k 0 =
        ap (λ (m : ℕ). replicate {A = ℕ} m 0) z ∙ sym (replicate-append-replicate label_size k 0) in
        ap (λ (t : List ℕ). before ++ (words_of pss ++ t)) e ∙ simp append_assoc

    labels_last : (ps : List Policy) → before ++ padded labels_room (words_of (pss ++ (ps ∷ [])))
        ≡ (before ++ words_of pss) ++ label_words (label_of n ps) ++ rest
    unfolding padded rest
    labels_last ps =
        let z : labels_room - length (words_of (pss ++ (ps ∷ [])))
        ≡ labels_room - (label_size * length pss + label_size) =
        omega (arith, words_long (pss ++ (ps ∷ [])), length_more pss ps) in
        rw (z, words_more pss ps) (simp append_assoc)

    at_last : (i : ℕ) → length before + label_size * length pss ≡ i → length (before ++ words_of pss) ≡ i
    at_last i e = length-append before (words_of pss) ∙ omega (arith, words_long pss)

    -- a label is stored there
    put_new : (ps : List Policy) (i : ℕ) → length before + label_size * length pss ≡ i
        → label_put (before ++ padded labels_room (words_of pss)) i (label_of n ps)
        ≡ before ++ padded labels_room (words_of (pss ++ (ps ∷ [])))
    put_new ps i e =
        ap₂ (λ (t : List ℕ) (k : ℕ). label_put t k (label_of n ps)) labels_room_lem (sym (at_last i e))
        ∙ put_middle (before ++ words_of pss) (replicate label_size 0) rest (label_of n ps)
        (length-replicate {A = ℕ} label_size 0)
        ∙ sym (labels_last ps)

    put_again : (ps qs : List Policy) (i : ℕ) → length before + label_size * length pss ≡ i
        → label_put (before ++ padded labels_room (words_of (pss ++ (ps ∷ [])))) i (label_of n qs)
        ≡ before ++ padded labels_room (words_of (pss ++ (qs ∷ [])))
    put_again ps qs i e =
        ap₂ (λ (t : List ℕ) (k : ℕ). label_put t k (label_of n qs)) (labels_last ps) (sym (at_last i e))
        ∙ put_middle (before ++ words_of pss) (label_words (label_of n ps)) rest (label_of n qs)
        (length_words (label_of n ps) (label_of_whole n ps))
        ∙ sym (labels_last qs)

from_words : (s : Sheet) → table_of s ≡ to_labels s ++ padded labels_room (words_of s.principals s.labels)
unfolding words_of labels_of
from_words s = from_labels s

module _ (s : Sheet) (fm : formed s ≡ true) where
  pub table-long : length (table_of s) ≡ table_words
  table-long =
      let ws = words_of s.principals s.labels in
      let fits : length ws ≤ labels_room =
      omega (arith, words_long s.principals s.labels, (formed_facts s fm).few_labels) in
      ap length (from_words s) ∙ length-append (to_labels s) (padded labels_room ws)
      ∙ omega (arith, labels_start s fm, length-padded labels_room ws fits)

  pub open_put_lem : label_count s < max_labels → open_put (table_of s) ≡ table_of (add_label s)
  unfolding open_put label_of with_policies label_count add_label type_count location_count type_parts to_labels
      to_locations
      heading part_block location_block headed
  open_put_lem few =
      let n = s.principals in
      let count = label_count s in
      let at = label_place count in
      let new = padded labels_room (words_of n (s.labels ++ ([] ∷ []))) in
      let stored : open_put (table_of s) ≡ set (label_put (table_of s) at (label_of n [])) labels_at (count + 1) =
      rw (
        labels_in_lem s fm,
        principals_in_lem s fm,
        everyone_in_lem s fm,
        lt-ltb count max_labels few,
        low_count (count + 1) (omega arith),
      ) in
      stored
      ∙ ap (λ (t : List ℕ). set (label_put t at (label_of n [])) labels_at (count + 1)) (from_words s)
      ∙ ap (λ (t : List ℕ). set t labels_at (count + 1))
      (put_new n (to_labels s) s.labels (omega arith) [] at
      (ap (λ (k : ℕ). k + label_size * count) (labels_start s fm)))
      ∙ ap (λ (k : ℕ). headed s (type_count s) k (location_count s) ((part_block s ++ location_block s) ++ new))
      (sym (length_more s.labels []))
      ∙ sym (from_words (add_label s))

  -- the last label, and where it stands
  module _ (before : List (List Policy)) (ps : List Policy) (e : s.labels ≡ before ++ (ps ∷ [])) where
    label-number : label_no s (length before) ≡ label_of s.principals ps
    unfolding label_no labels_of
    label-number =
        let f = label_of s.principals in
        let d = bottom_of (everyone s.principals) in
        ap₂ (λ (ls : List Label) (k : ℕ). get_or ls k d) (ap (map f) e ∙ map-append f before (ps ∷ []))
        (sym (length-map before f))
        ∙ get_or-append_seam (map f before) (f ps) [] d

    last_there : length s.labels ≡ length before + 1
    last_there = ap length e ∙ length_more before ps

    last_policy : (p : Policy) → to_labels s ++ padded labels_room
        (words_of s.principals (before ++ ((ps ++ (p ∷ [])) ∷ []))) ≡ table_of (add_policy s p)
    unfolding add_policy to_labels to_locations heading part_block location_block headed type_count label_count
        location_count type_parts
    last_policy p =
        let n = s.principals in
        let middle = part_block s ++ location_block s in
        let new : before ++ ((ps ++ (p ∷ [])) ∷ []) ≡ to_last p s.labels =
        sym (ap (to_last p) e ∙ to_last_more p before ps) in
        ap₂ (λ (k : ℕ) (pss : List (List Policy)).
        headed s (type_count s) k (location_count s) (middle ++ padded labels_room (words_of n pss)))
        (sym (length-to_last p s.labels)) new
        ∙ sym (from_words (add_policy s p))

    last_stored : (o r w : ℕ)
        → label_put (table_of s) (label_place (length s.labels - 1))
        (policy_of (label_in (table_of s) (length s.labels - 1)) o r w)
        ≡ table_of (add_policy s (policy o r w))
    last_stored o r w =
        let n = s.principals in
        let last : length s.labels - 1 ≡ length before = omega (arith, last_there) in
        let few : label_size * length before + label_size ≤ labels_room =
        omega (arith, last_there, (formed_facts s fm).few_labels) in
        let label : label_in (table_of s) (length before) ≡ label_of n ps =
        label_in_lem s fm (length before) ∙ label-number in
        let at = label_place (length before) in
        ap (λ (k : ℕ). label_put (table_of s) (label_place k) (policy_of (label_in (table_of s) k) o r w)) last
        ∙ ap (λ (a : Label). label_put (table_of s) at (policy_of a o r w)) label
        ∙ ap₂ (λ (t : List ℕ) (a : Label). label_put t at a)
        (from_words s ∙ ap (λ (pss : List (List Policy)). to_labels s ++ padded labels_room (words_of n pss)) e)
        (sym (label_of_more n ps o r w))
        ∙ put_again n (to_labels s) before few ps (ps ++ (policy o r w ∷ [])) at
        (ap (λ (k : ℕ). k + label_size * length before) (labels_start s fm))
        ∙ last_policy (policy o r w)

  pub policy-put : (o r w : ℕ) → 0 < label_count s
      → policy_put o r w (table_of s) ≡ table_of (add_policy s (policy o r w))
  unfolding policy_put label_count
  policy-put o r w some-label =
      let stored : policy_put o r w (table_of s)
      ≡ label_set (label_count s - 1) (policy_of (label_in (table_of s) (label_count s - 1)) o r w) (table_of s) =
      rw (labels_in_lem s fm, lt-ltb 0 (label_count s) some-label) in
      stored ∙ labels_split s.labels some-label (λ before ps e. last_stored before ps e o r w)

-- ---- a sheet with nothing but its principals

pub principals-put : (n : ℕ) → n ≤ max_principals → principals_put n (replicate table_words 0) ≡ table_of (bare_sheet n)
unfolding table_of bare_sheet type_count label_count location_count labels_of type_parts given_parts padded entry_words
    right_word
    labels_words rule_word
principals-put n few = rw (low_count n (omega arith), restrict-everyone width n (omega arith))

-- ---- the rule of reading

pub rule-put : (s : Sheet) → rule_put (table_of s) ≡ table_of (add_rule s)
unfolding table_of add_rule type_count label_count location_count labels_of type_parts
rule-put s = refl

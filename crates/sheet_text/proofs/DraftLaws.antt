-- What the code holds of a sheet after a line more, from what it held before.
use mathlib.Core.Path.{◌≡◌, refl, sym, ap, ◌∙◌}
use mathlib.Core.Bool.{Bool, true, false, cond}
use mathlib.Core.List.{List, []}
use mathlib.Core.Option.{Option, none, some}
use Prim.Native.Nat.{ℕ, ◌+◌, ◌-◌, ◌%◌, ◌^◌, ◌<◌, ◌≤◌}
use native.Mathlib.Omega.{arith}
use native.Mathlib.Nat.{mod-eq_of_lt}
use native.Mathlib.Numerals.{add-one}
use lib.Dec.{eqb, leb, ltb}
use lib.ListN.{length, replicate}
use lib.Pow.{pow_pos}
use borrow.Author.Tests.{ltb-true, leb-true, le-leb, lt-ltb, eqb-true, eq-eqb}
use Rattle.logic.specs.Booleans.{both}
use Rattle.logic.proofs.BooleanLaws.{bool_ext, both_left, both_right}
use Rattle.sets.specs.Sets.{everyone}
use Rattle.labels.specs.Labels.{policy}
use Rattle.sheet.specs.declared.Kind.{Kind}
use Rattle.sheet.specs.Sheet.{Compound, Sheet, type_count, label_count, max_principals, max_compounds, formed}
use Rattle.sheet.specs.Internal.Tables.{max_types, table_words, table_of}
use Rattle.sheet.specs.Internal.Growth.{bare_sheet, add_rule, add_compound, add_label, to_last, add_policy}
use Rattle.sheet.specs.Internal.Growth.{add_location}
use Rattle.sheet.specs.Internal.Writers.{rule_put, compound_put, open_put, policy_put, location_put}
use Rattle.sheet.specs.Internal.Writers.{principals_put}
use Rattle.sheet.proofs.FormLaws.{formed_facts, type-count}
use Rattle.sheet.proofs.TableLaws.{types_in_lem, labels_in_lem, locations_in_lem, principals_in_lem, everyone_in_lem}
use Rattle.sheet.proofs.TableLaws.{rule_in_lem}
use Rattle.sheet.proofs.GrowthLaws.{to_last_more, labels_split}
use Rattle.sheet.proofs.TableGrowth.{compound_put_lem, open_put_lem, policy-put, location-put, principals-put, rule-put}
use Rattle.sheet_text.specs.declared.line.SheetLine.{SheetLine}
use Rattle.sheet_text.specs.declared.line.SheetLine.TheVariants.{P, R, T, Q, L, O, X}
use Rattle.sheet_text.specs.Internal.Building.{last_of, least_after, least_owner, rule_fits, compound_fits}
use Rattle.sheet_text.specs.Internal.Building.{label_fits, policy_fits, location_fits, begin, add_type, add_line}
use Rattle.sheet_text.specs.Internal.Building.{add_line_on}
use Rattle.std.specs.Prelude.{Some, None}
use Rattle.sheet.specs.declared.Kind.TheVariants.{Sum, Pair}
use Rattle.sheet_text.specs.Internal.Placed.{Draft}
use Rattle.sheet_text.specs.Internal.Drafts.{draft_if, DraftHolds, FormedIf, next_least, line_put, rule_fits_in}
use Rattle.sheet_text.specs.Internal.Drafts.{compound_fits_in, label_fits_in, policy_fits_in, location_fits_in}
use Rattle.logic.proofs.OptionLaws.{none_some}
use Rattle.sheet_text.proofs.GrowthLaws.{last_more, least_more}
use Rattle.sheet_text.proofs.BuildLaws.{no_labels, begin-sound, step-sound}

-- ---- the tests, over the table of a sheet

module _ (s : Sheet) (fm : formed s ≡ true) where
  -- there is room for a type more where there is for a line
  types-fit_in : ltb (type_count s) max_types ≡ ltb (length s.compounds) max_compounds
  types-fit_in =
      let count = type-count s in
      bool_ext (ltb (type_count s) max_types) (ltb (length s.compounds) max_compounds)
      (λ e. let h : type_count s < max_types = ltb-true _ _ e in let k : length s.compounds < max_compounds =
      omega arith in lt-ltb _ _ k)
      (λ e. let h : length s.compounds < max_compounds = ltb-true _ _ e in let k : type_count s < max_types =
      omega arith in lt-ltb _ _ k)

  compound_fits_in_lem : (a b : ℕ) → compound_fits_in a b (table_of s) ≡ compound_fits s a b
  unfolding compound_fits
  compound_fits_in_lem a b = rw (labels_in_lem s fm, locations_in_lem s fm, types_in_lem s fm, types-fit_in)

  -- there are the given types alone where there is no line
  types_none_in : eqb (type_count s) 5 ≡ eqb (length s.compounds) 0
  types_none_in =
      let count = type-count s in
      bool_ext (eqb (type_count s) 5) (eqb (length s.compounds) 0)
      (λ e. let h : type_count s ≡ 5 = eqb-true _ _ e in let k : length s.compounds ≡ 0 = omega arith in eq-eqb _ _ k)
      (λ e. let h : length s.compounds ≡ 0 = eqb-true _ _ e in let k : type_count s ≡ 5 = omega arith in eq-eqb _ _ k)

  rule_fits_in_lem : (k : ℕ) → rule_fits_in k (table_of s) ≡ rule_fits s k
  unfolding rule_fits
  rule_fits_in_lem k =
      rw (rule_in_lem s fm, labels_in_lem s fm, locations_in_lem s fm, types_in_lem s fm, types_none_in)

  label_fits_in_lem : label_fits_in (table_of s) ≡ label_fits s
  unfolding label_fits
  label_fits_in_lem = rw (locations_in_lem s fm, labels_in_lem s fm)

  -- a set of the principals
  set_fits_in : (r : ℕ) → leb r (everyone s.principals) ≡ ltb r (2 ^ s.principals)
  unfolding everyone
  set_fits_in r =
      let some-set : 0 < 2 ^ s.principals = pow_pos s.principals in
      bool_ext (leb r (2 ^ s.principals - 1)) (ltb r (2 ^ s.principals))
      (λ e. let h : r ≤ 2 ^ s.principals - 1 = leb-true _ _ e in let k : r < 2 ^ s.principals =
      omega arith in lt-ltb _ _ k)
      (λ e. let h : r < 2 ^ s.principals = ltb-true _ _ e in let k : r ≤ 2 ^ s.principals - 1 =
      omega arith in le-leb _ _ k)

  policy_fits_in_lem : (o r w : ℕ) → policy_fits_in (least_owner s) o r w (table_of s) ≡ policy_fits s o r w
  unfolding policy_fits
  policy_fits_in_lem o r w =
      rw (
        locations_in_lem s fm,
        labels_in_lem s fm,
        principals_in_lem s fm,
        everyone_in_lem s fm,
        set_fits_in r,
        set_fits_in w,
      )

  location_fits_in_lem : (t l : ℕ) → location_fits_in t l (table_of s) ≡ location_fits s t l
  unfolding location_fits
  location_fits_in_lem t l = rw (locations_in_lem s fm, types_in_lem s fm, labels_in_lem s fm)

-- ---- what the code holds after each line

-- the sheet after a line, if its test passes, and what is stored then
holds_if : (c : Bool) (s : Sheet) (fits : Bool) (u : List ℕ) (k : ℕ) → fits ≡ c
    → (c ≡ true → (k ≡ least_owner s) × (u ≡ table_of s)) → DraftHolds (cond c (some s) none) (draft_if fits k) u
unfolding DraftHolds
holds_if true s fits u k same h = (ap (λ (b : Bool). draft_if b k) same ∙ ap Some (h refl).0, (h refl).1)
holds_if false s fits u k same h = ap (λ (b : Bool). draft_if b k) same

-- without labels the least owner is 0
least_none : (s : Sheet) → s.labels ≡ [] → 0 ≡ least_owner s
unfolding least_owner last_of least_after
least_none s e = rw e

-- ---- what a line that passes its test stores

rule-stored : (s : Sheet) (k : ℕ) → rule_fits s k ≡ true
    → (0 ≡ least_owner (add_rule s)) × (rule_put (table_of s) ≡ table_of (add_rule s))
unfolding rule_fits
rule-stored s k f = (
  least_none (add_rule s)
      (unfold add_rule in (no_labels s (both_left _ _ (both_right _ _ (both_right _ _ (both_right _ _ f)))))),
  rule-put s,
)

module _ (s : Sheet) (fm : formed s ≡ true) where
  compound_stored : (k : Kind) (a b : ℕ) → compound_fits s a b ≡ true
      → (0 ≡ least_owner (add_compound s (record { kind = k; left = a; right = b })))
      × (compound_put k a b (table_of s) ≡ table_of (add_compound s (record { kind = k; left = a; right = b })))
  unfolding compound_fits
  compound_stored k a b f =
      let x : Compound = record { kind = k; left = a; right = b } in
      let rest = both_right _ _ f in
      let few : length s.compounds < max_compounds = ltb-true _ _ (both_left _ _ rest) in
      let left : a < type_count s = ltb-true _ _ (both_left _ _ (both_right _ _ rest)) in (
        least_none (add_compound s x) (unfold add_compound in (no_labels s (both_left _ _ (both_left _ _ f)))),
        compound_put_lem s fm x (omega (arith, type-count s)) left,
      )

  label-stored : label_fits s ≡ true
      → (0 ≡ least_owner (add_label s)) × (open_put (table_of s) ≡ table_of (add_label s))
  unfolding label_fits
  label-stored f = (
    unfold least_owner add_label least_after in (sym (ap (least_after 0) (last_more s.labels []))),
    open_put_lem s fm (ltb-true _ _ (both_right _ _ f)),
  )

  least_policy : (o r w : ℕ) → 0 < label_count s → o + 1 ≡ least_owner (add_policy s (policy o r w))
  unfolding least_owner add_policy label_count
  least_policy o r w h =
      labels_split s.labels h
      (λ before ps e.
      let new = ap (λ pss. last_of (to_last (policy o r w) pss)) e ∙ ap last_of (to_last_more (policy o r w) before ps)
      ∙ last_more before _ in
      add-one o ∙ sym (ap (least_after 0) new ∙ least_more 0 ps o r w))

  policy-stored : (o r w : ℕ) → policy_fits s o r w ≡ true
      → (o % max_principals + 1 ≡ least_owner (add_policy s (policy o r w)))
      × (policy_put o r w (table_of s) ≡ table_of (add_policy s (policy o r w)))
  unfolding policy_fits
  policy-stored o r w f =
      let some-label : 0 < label_count s = ltb-true _ _ (both_right _ _ (both_left _ _ f)) in
      let owner : o < s.principals = ltb-true _ _ (both_right _ _ (both_left _ _ (both_right _ _ f))) in
      let few : o < max_principals = omega (arith, (formed_facts s fm).few_principals) in
      (ap (λ (k : ℕ). k + 1) (mod-eq_of_lt few) ∙ least_policy o r w some-label, policy-put s fm o r w some-label)

  location-stored : (t l : ℕ) → location_fits s t l ≡ true
      → location_put t l (table_of s) ≡ table_of (add_location s (record { type = t; label = l }))
  unfolding location_fits
  location-stored t l f =
      let names = both_right _ _ f in
      location-put s fm (record { type = t; label = l }) (ltb-true _ _ (both_left _ _ f))
      (ltb-true _ _ (both_left _ _ names))
      (ltb-true _ _ (both_right _ _ names))

-- a further line, from the table of a sheet
table_line : (s : Sheet) → formed s ≡ true → (line : SheetLine)
    → DraftHolds (add_line s line) (next_least (least_owner s) line (table_of s)) (line_put line (table_of s))
unfolding add_line add_type next_least line_put DraftHolds
table_line s fm (P n) = refl
table_line s fm (R k) = holds_if (rule_fits s k) _ _ _ 0 (rule_fits_in_lem s fm k) (λ f. rule-stored s k f)
table_line s fm (T a b) =
    holds_if (compound_fits s a b) _ _ _ 0 (compound_fits_in_lem s fm a b) (λ f. compound_stored s fm Sum a b f)
table_line s fm (Q a b) =
    holds_if (compound_fits s a b) _ _ _ 0 (compound_fits_in_lem s fm a b) (λ f. compound_stored s fm Pair a b f)
table_line s fm L = holds_if (label_fits s) _ _ _ 0 (label_fits_in_lem s fm) (λ f. label-stored s fm f)
table_line s fm (O o r w) =
    holds_if (policy_fits s o r w) _ _ _ _ (policy_fits_in_lem s fm o r w) (λ f. policy-stored s fm o r w f)
table_line s fm (X ty l) =
    holds_if (location_fits s ty l) _ _ _ _ (location_fits_in_lem s fm ty l)
    (λ f. (unfold least_owner add_location in refl, location-stored s fm ty l f))

pub line_holds : (s : Sheet) → formed s ≡ true → (line : SheetLine) (k : ℕ) (t : List ℕ) → k ≡ least_owner s
    → t ≡ table_of s
    → DraftHolds (add_line s line) (next_least k line t) (line_put line t)
line_holds s fm line k t e f = rw (e, f) (table_line s fm line)

-- ---- the first line

module _ (n : ℕ) where
  pub begin_taken : both (leb 1 n) (leb n max_principals) ≡ true
      → DraftHolds (begin (P n)) (Some 0) (principals_put n (replicate table_words 0))
  unfolding begin DraftHolds
  begin_taken f =
      rw f (
        ap Some (least_none (bare_sheet n) (unfold bare_sheet in refl)),
        principals-put n (leb-true _ _ (both_right _ _ f)),
      )

  pub begin_none : both (leb 1 n) (leb n max_principals) ≡ false → none ≡ begin (P n)
  unfolding begin
  begin_none f = rw f

-- ---- the sheet so far stays of the right form

pub formed_begun : (l : SheetLine) → FormedIf (begin l)
formed_begun l = at (begin l) refl
  where
    at : (o : Option Sheet) → begin l ≡ o → FormedIf o
    at none e = unfold FormedIf in tt
    at (some s) e = unfold FormedIf in (begin-sound l s e).right

pub formed-stepped : (o : Option Sheet) (l : SheetLine) → FormedIf o → FormedIf (add_line_on o l)
unfolding add_line_on
formed-stepped none l f = f
formed-stepped (some s) l f = at (add_line s l) refl
  where
    at : (o : Option Sheet) → add_line s l ≡ o → FormedIf o
    at none e = unfold FormedIf in tt
    at (some s') e = unfold FormedIf in (step-sound s l s' f e).right

-- ---- a refusal

pub holds_none : (o : Option Sheet) (t : List ℕ) → none ≡ o → DraftHolds o None t
unfolding DraftHolds
holds_none none t e = refl
holds_none (some s) t e = none_some e

-- whatever the table
pub holds_any : (o : Option Sheet) (d : Draft) (t u : List ℕ) → d ≡ None → DraftHolds o d t → DraftHolds o None u
unfolding DraftHolds
holds_any none d t u e h = refl
holds_any (some s) d t u e h = let z : None ≡ Some (least_owner s) = sym e ∙ h.0 in cc

-- a draft is that of a sheet
pub held_sheet : {P : Type 0} (o : Option Sheet) (d : Draft) (k : ℕ) (t : List ℕ) → FormedIf o → d ≡ Some k
    → DraftHolds o d t
    → ((s : Sheet) → o ≡ some s → formed s ≡ true → k ≡ least_owner s → t ≡ table_of s → P) → P
unfolding DraftHolds FormedIf
held_sheet none d k t f e h g = let z : Some k ≡ None = sym e ∙ h in cc
held_sheet (some s) d k t f e h g =
    let z : Some k ≡ Some (least_owner s) = sym e ∙ h.0 in
    let y : k ≡ least_owner s = cc in
    g s refl f y h.1

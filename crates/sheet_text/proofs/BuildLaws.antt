-- Lines are those of a sheet of the right form exactly if a sheet can be built from them.
use mathlib.Core.Path.{◌≡◌, refl, sym, ap, ◌∙◌}
use mathlib.Core.Bool.{Bool, true, cond}
use mathlib.Core.List.{List, [], ◌∷◌}
use mathlib.Core.Option.{Option, none, some}
use Prim.Native.Nat.{ℕ, ◌^◌, ◌<◌, ◌≤◌}
use native.Mathlib.Omega.{arith}
use native.Mathlib.Nat.{lt_of_lt_of_le}
use lib.Dec.{leb, eqb}
use lib.ListN.{length}
use lib.Pow.{pow_mono}
use borrow.Author.Tests.{le-leb, ltb-true, leb-true, eqb-true}
use Rattle.logic.specs.Booleans.{both}
use Rattle.logic.proofs.BooleanLaws.{absurd_false, both_left, both_right, both_true, cond_split}
use Rattle.text.specs.Lines.{empty_good, more_good}
use Rattle.logic.proofs.OptionLaws.{none_some, some_path}
use Rattle.sets.specs.Sets.{width}
use Rattle.labels.specs.Labels.{policy}
use Rattle.labels.specs.declared.Rule.{Rule}
use Rattle.labels.specs.declared.Rule.TheVariants.{Pooled, Alone}
use Rattle.sheet.specs.Internal.Tables.{type_parts}
use Rattle.sheet.specs.declared.Kind.{Kind}
use Rattle.sheet.specs.declared.Kind.TheVariants.{Sum, Pair}
use Rattle.sheet.specs.Sheet.{Compound, Location, Sheet, type_count, label_count, location_count, earlier_types, rising}
use Rattle.sheet.specs.Sheet.{each_rising, each_named, max_principals, max_compounds, max_labels, max_locations, formed}
use Rattle.sheet.proofs.FormLaws.{Formed, formed_facts, type-count}
use Rattle.sheet_text.specs.declared.line.SheetLine.{SheetLine}
use Rattle.sheet_text.specs.declared.line.SheetLine.TheVariants.{P, R, T, Q, L, O, X}
use Rattle.sheet_text.specs.Lines.{rule_lines, type_line, compound_line, policy_line, location_line, each}
use Rattle.sheet_text.specs.Lines.{label_lines, lines_then, sheet_lines}
use Rattle.sheet.specs.Internal.Growth.{bare_sheet, add_rule, add_compound, add_label, add_policy, add_location}
use Rattle.sheet_text.specs.Internal.Building.{least_owner, is_pooled, rule_fits, compound_fits, label_fits}
use Rattle.sheet_text.specs.Internal.Building.{policy_fits, location_fits, begin, add_type, add_line, add_line_on}
use Rattle.sheet_text.specs.Internal.Building.{add_lines, build}
use Rattle.sheet_text.proofs.LineLaws.{Fits, AllFit, type-line_fits}
use Rattle.sheet.proofs.GrowthLaws.{length_more, length-to_last}
use Rattle.sheet_text.proofs.GrowthLaws.{no_entries, each_more, labels_more, policies_more, earlier_more}
use Rattle.sheet_text.proofs.GrowthLaws.{each_rising_more, each_rising_last, each_named_more}

pub formed_made : (s : Sheet) → Formed s → formed s ≡ true
unfolding formed
formed_made s f =
    both_true (both_true (le-leb _ _ f.some_principal) (le-leb _ _ f.few_principals))
    (both_true (both_true (le-leb _ _ f.few_compounds) f.compounds_earlier)
    (both_true (both_true (le-leb _ _ f.few_labels) f.labels_rising)
    (both_true (le-leb _ _ f.few_locations) f.locations_named)))

-- ---- a line that is taken is the next one of the new sheet, which is of the right form

pub record Taken (s : Sheet) (l : SheetLine) (s' : Sheet) : Type 0 where
  pub next : (rest : List SheetLine) → lines_then s' rest ≡ lines_then s (l ∷ rest)
  pub right : formed s' ≡ true
  pub fits : Fits l

pub no_locations : (s : Sheet) → eqb (location_count s) 0 ≡ true → s.locations ≡ []
unfolding location_count
no_locations s e = no_entries s.locations (eqb-true _ _ e)

pub no_labels : (s : Sheet) → eqb (label_count s) 0 ≡ true → s.labels ≡ []
unfolding label_count
no_labels s e = no_entries s.labels (eqb-true _ _ e)

pub no_compounds : (s : Sheet) → eqb (length s.compounds) 0 ≡ true → s.compounds ≡ []
no_compounds s e = no_entries s.compounds (eqb-true _ _ e)

is_pooled_lem : (r : Rule) → is_pooled r ≡ true → r ≡ Pooled
unfolding is_pooled
is_pooled_lem Pooled e = refl
is_pooled_lem Alone e = absurd (absurd_false e)

-- the lines before the types, then rest
abbrev opening : Sheet → List SheetLine → List SheetLine
opening s rest = P s.principals ∷ rule_lines s.rule rest

module _ (s : Sheet) (fm : formed s ≡ true) where
  facts : Formed s
  facts = formed_facts s fm

  take-rule : (k : ℕ) → rule_fits s k ≡ true → Taken s (R k) (add_rule s)
  unfolding rule_fits add_rule lines_then rule_lines each label_lines formed type_count label_count Fits
  take-rule k e =
      let rest = both_right _ _ e in
      let bare = both_right _ _ rest in
      let one : k ≡ 1 = eqb-true _ _ (both_left _ _ rest) in
      let r = is_pooled_lem s.rule (both_left _ _ e) in
      let c = no_compounds s (both_left _ _ bare) in
      let l = no_labels s (both_left _ _ (both_right _ _ bare)) in
      let x0 = no_locations s (both_right _ _ (both_right _ _ bare)) in
      record { next = λ rest. rw (one, r, c, l, x0); right = fm; fits = omega arith }

  take_compound : (k : Kind) (a b : ℕ) → compound_fits s a b ≡ true
      → Taken s (type_line k a b) (add_compound s (record { kind = k; left = a; right = b }))
  unfolding compound_fits add_compound lines_then
  take_compound k a b e =
      let x : Compound = record { kind = k; left = a; right = b } in
      let order = both_left _ _ e in
      let rest = both_right _ _ e in
      let few : length s.compounds < max_compounds = ltb-true _ _ (both_left _ _ rest) in
      let parts = both_right _ _ rest in
      let left : a < type_count s = ltb-true _ _ (both_left _ _ parts) in
      let right : b < type_count s = ltb-true _ _ (both_right _ _ parts) in
      let l = no_labels s (both_left _ _ order) in
      let x0 = no_locations s (both_right _ _ order) in
      let count = type-count s in
      record {
        next = λ rest. unfold label_lines each compound_line in
            (rw (l, x0) (ap (opening s) (each_more compound_line s.compounds x rest)));
        right =
            formed_made (add_compound s x)
            (record {
              some_principal = facts.some_principal;
              few_principals = facts.few_principals;
              few_compounds = omega (arith, length_more s.compounds x);
              compounds_earlier =
                  earlier_more 5 s.compounds x facts.compounds_earlier (omega arith) (omega arith);
              few_labels = facts.few_labels;
              labels_rising = facts.labels_rising;
              few_locations = facts.few_locations;
              locations_named = unfold each_named in (rw x0);
            });
        fits = type-line_fits k a b (omega arith) (omega arith);
      }

  take-label : label_fits s ≡ true → Taken s L (add_label s)
  unfolding label_fits add_label lines_then label_count Fits
  take-label e =
      let few : length s.labels < max_labels = ltb-true _ _ (both_right _ _ e) in
      let x0 = no_locations s (both_left _ _ e) in
      record {
        next = λ rest. unfold each in
            (rw x0 (ap (λ ls. opening s (each compound_line s.compounds ls)) (labels_more s.labels rest)));
        right =
            formed_made (add_label s)
            (record {
              some_principal = facts.some_principal;
              few_principals = facts.few_principals;
              few_compounds = facts.few_compounds;
              compounds_earlier = facts.compounds_earlier;
              few_labels = omega (arith, length_more s.labels []);
              labels_rising = each_rising_more s.principals s.labels facts.labels_rising;
              few_locations = facts.few_locations;
              locations_named = unfold each_named in (rw x0);
            });
        fits = tt;
      }

  -- a set of the principals has room in a set
  narrow : (r : ℕ) → r < 2 ^ s.principals → r < 2 ^ width
  narrow r h =
      let m : 2 ^ s.principals ≤ 2 ^ width =
      pow_mono {i = s.principals} {j = width} (omega (arith, facts.few_principals)) in lt_of_lt_of_le h m

  take-policy : (o r w : ℕ) → policy_fits s o r w ≡ true → Taken s (O o r w) (add_policy s (policy o r w))
  unfolding policy_fits add_policy lines_then label_count Fits each policy_line rising least_owner each_named
  take-policy o r w e =
      let p = policy o r w in
      let order = both_left _ _ e in
      let rest = both_right _ _ e in
      let rises = both_left _ _ rest in
      let sets = both_right _ _ rest in
      let x0 = no_locations s (both_left _ _ order) in
      let some-label : 0 < length s.labels = ltb-true _ _ (both_right _ _ order) in
      let low : o < s.principals = ltb-true _ _ (both_right _ _ rises) in
      record {
        next =
            λ rest. rw x0
            (ap (λ ls. opening s (each compound_line s.compounds ls)) (policies_more p s.labels rest some-label));
        right =
            formed_made (add_policy s p)
            (record {
              some_principal = facts.some_principal;
              few_principals = facts.few_principals;
              few_compounds = facts.few_compounds;
              compounds_earlier = facts.compounds_earlier;
              few_labels = omega (arith, length-to_last p s.labels, facts.few_labels);
              labels_rising =
                  each_rising_last s.principals p s.labels facts.labels_rising
                  (both_true rises (both_true sets refl));
              few_locations = facts.few_locations;
              locations_named = rw x0;
            });
        fits = (
          omega (arith, facts.few_principals),
          narrow r (ltb-true _ _ (both_left _ _ sets)),
          narrow w (ltb-true _ _ (both_right _ _ sets)),
        );
      }

  take-location : (t l : ℕ) → location_fits s t l ≡ true
      → Taken s (X t l) (add_location s (record { type = t; label = l }))
  unfolding location_fits add_location lines_then location_count label_count Fits type_count type_parts
  take-location t l e =
      let x : Location = record { type = t; label = l } in
      let names = both_right _ _ e in
      let few : length s.locations < max_locations = ltb-true _ _ (both_left _ _ e) in
      let type : t < type_count s = ltb-true _ _ (both_left _ _ names) in
      let label : l < label_count s = ltb-true _ _ (both_right _ _ names) in
      let count = type-count s in
      record {
        next =
            λ rest. unfold location_line in
            (ap (λ ls. opening s (each compound_line s.compounds (label_lines s.labels ls)))
            (each_more location_line s.locations x rest));
        right =
            formed_made (add_location s x)
            (record {
              some_principal = facts.some_principal;
              few_principals = facts.few_principals;
              few_compounds = facts.few_compounds;
              compounds_earlier = facts.compounds_earlier;
              few_labels = facts.few_labels;
              labels_rising = facts.labels_rising;
              few_locations = omega (arith, length_more s.locations x);
              locations_named =
                  each_named_more (type_count s) (label_count s) s.locations x facts.locations_named type label;
            });
        fits = (omega (arith, facts.few_compounds), omega (arith, facts.few_labels));
      }

-- what a test lets through
taken_if : {P : Type 0} (c : Bool) (x y : Sheet) → (c ≡ true → x ≡ y → P) → cond c (some x) none ≡ some y → P
taken_if c x y f e = cond_split c _ _ _ (λ h k. f h (some_path k)) (λ h k. none_some k) e

type-sound : (s : Sheet) (k : Kind) (a b : ℕ) (s' : Sheet) → formed s ≡ true → add_type s k a b ≡ some s'
    → Taken s (type_line k a b) s'
unfolding add_type
type-sound s k a b s' fm e = taken_if (compound_fits s a b) _ s' (λ h q. rw (← q) (take_compound s fm k a b h)) e

pub step-sound : (s : Sheet) (l : SheetLine) (s' : Sheet) → formed s ≡ true → add_line s l ≡ some s' → Taken s l s'
unfolding add_line type_line
step-sound s (P n) s' fm e = none_some e
step-sound s (R k) s' fm e = taken_if (rule_fits s k) _ s' (λ h q. rw (← q) (take-rule s fm k h)) e
step-sound s (T a b) s' fm e = type-sound s Sum a b s' fm e
step-sound s (Q a b) s' fm e = type-sound s Pair a b s' fm e
step-sound s L s' fm e = taken_if (label_fits s) _ s' (λ h k. rw (← k) (take-label s fm h)) e
step-sound s (O o r w) s' fm e =
    taken_if (policy_fits s o r w) (add_policy s (policy o r w)) s' (λ h k. rw (← k) (take-policy s fm o r w h)) e
step-sound s (X t l) s' fm e = taken_if (location_fits s t l) _ s' (λ h k. rw (← k) (take-location s fm t l h)) e

-- the first line
blank-formed : (n : ℕ) → 1 ≤ n → n ≤ max_principals → formed (bare_sheet n) ≡ true
unfolding bare_sheet earlier_types each_rising each_named
blank-formed n h k =
    formed_made (bare_sheet n)
    (record {
      some_principal = h;
      few_principals = k;
      few_compounds = omega arith;
      compounds_earlier = refl;
      few_labels = omega arith;
      labels_rising = refl;
      few_locations = omega arith;
      locations_named = refl;
    })

pub record Begun (l : SheetLine) (s : Sheet) : Type 0 where
  pub next : (rest : List SheetLine) → lines_then s rest ≡ l ∷ rest
  pub right : formed s ≡ true
  pub fits : Fits l

blank_begun : (n : ℕ) → 1 ≤ n → n ≤ max_principals → Begun (P n) (bare_sheet n)
unfolding lines_then bare_sheet rule_lines each label_lines Fits
blank_begun n h k = record { next = λ rest. refl; right = blank-formed n h k; fits = omega arith }

pub begin-sound : (l : SheetLine) (s : Sheet) → begin l ≡ some s → Begun l s
unfolding begin
begin-sound (P n) s e =
    taken_if (both (leb 1 n) (leb n max_principals)) (bare_sheet n) s
    (λ h k. rw (← k) (blank_begun n (leb-true _ _ (both_left _ _ h)) (leb-true _ _ (both_right _ _ h)))) e
begin-sound (R k) s e = none_some e
begin-sound (T a b) s e = none_some e
begin-sound (Q a b) s e = none_some e
begin-sound L s e = none_some e
begin-sound (O o r w) s e = none_some e
begin-sound (X t l) s e = none_some e

-- ---- lines that a sheet can be built from are those of a sheet of the right form

pub steps_none : (ls : List SheetLine) → add_lines none ls ≡ none
unfolding add_lines add_line_on
steps_none [] = refl
steps_none (l ∷ ls) = steps_none ls

pub steps-sound : (ls : List SheetLine) (s s' : Sheet) → formed s ≡ true → add_lines (some s) ls ≡ some s'
    → (lines_then s' [] ≡ lines_then s ls) × (formed s' ≡ true) × AllFit ls
unfolding add_lines add_line_on
steps-sound [] s s' fm e = let k : s' ≡ s = sym (some_path e) in rw k (refl, fm, empty_good)
steps-sound (l ∷ ls) s s' fm e = at (λ s₁ h. steps-sound ls s₁ s' h) (add_line s l) refl e
  where
    at : ((s₁ : Sheet) → formed s₁ ≡ true → add_lines (some s₁) ls ≡ some s'
        → (lines_then s' [] ≡ lines_then s₁ ls) × (formed s' ≡ true) × AllFit ls)
        → (o : Option Sheet) → add_line s l ≡ o → add_lines o ls ≡ some s'
        → (lines_then s' [] ≡ lines_then s (l ∷ ls)) × (formed s' ≡ true) × AllFit (l ∷ ls)
    at rest none h k = none_some (sym (steps_none ls) ∙ k)
    at rest (some s₁) h k =
        let t = step-sound s l s₁ fm h in
        let r = rest s₁ t.right k in
        (r.0 ∙ t.next ls, r.1, more_good t.fits r.2)

pub build-sound : (ls : List SheetLine) (s : Sheet) → build ls ≡ some s
    → (ls ≡ sheet_lines s) × (formed s ≡ true) × AllFit ls
unfolding build sheet_lines
build-sound [] s e = none_some e
build-sound (l ∷ ls) s e = at (begin l) refl e
  where
    at : (o : Option Sheet) → begin l ≡ o → add_lines o ls ≡ some s
        → (l ∷ ls ≡ lines_then s []) × (formed s ≡ true) × AllFit (l ∷ ls)
    at none h k = none_some (sym (steps_none ls) ∙ k)
    at (some s₁) h k =
        let b = begin-sound l s₁ h in
        let r = steps-sound ls s₁ s b.right k in
        (sym (r.0 ∙ b.next ls), r.1, more_good b.fits r.2)

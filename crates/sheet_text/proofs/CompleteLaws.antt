-- From the lines of a sheet of the right form that sheet is built.
use mathlib.Core.Path.{◌≡◌, refl, sym, ap, ◌∙◌}
use mathlib.Core.Bool.{Bool, true, cond}
use mathlib.Core.List.{List, [], ◌∷◌, ◌++◌, append_assoc, append-nil}
use mathlib.Core.Option.{Option, none, some}
use Prim.Native.Nat.{ℕ, suc, ◌+◌, ◌<◌, ◌≤◌}
use native.Mathlib.Omega.{arith}
use lib.Dec.{ltb, leb}
use lib.ListN.{length}
use borrow.Author.Tests.{lt-ltb, le-leb, ltb-true}
use Rattle.logic.specs.Booleans.{both}
use Rattle.logic.proofs.BooleanLaws.{both_left, both_right, both_true}
use Rattle.labels.specs.Labels.{Policy, policy}
use Rattle.labels.specs.declared.Rule.{Rule}
use Rattle.labels.specs.declared.Rule.TheVariants.{Pooled, Alone}
use Rattle.sheet.specs.declared.Kind.{Kind}
use Rattle.sheet.specs.declared.Kind.TheVariants.{Sum, Pair}
use Rattle.sheet.specs.Sheet.{Compound, Location, Sheet, type_count, label_count, location_count, earlier_types, rising}
use Rattle.sheet.specs.Sheet.{each_rising, each_named, max_compounds, max_labels, max_locations, formed}
use Rattle.sheet.proofs.FormLaws.{formed_facts, type-count}
use Rattle.sheet_text.specs.declared.line.SheetLine.{SheetLine}
use Rattle.sheet_text.specs.Lines.{rule_lines, type_line, compound_line, policy_line, location_line, each}
use Rattle.sheet_text.specs.Lines.{label_lines, lines_then, sheet_lines}
use Rattle.sheet.specs.Internal.Growth.{bare_sheet, add_rule, add_compound, add_label, add_policy, add_location}
use Rattle.sheet_text.specs.Internal.Building.{least_after, least_owner, is_pooled, rule_fits, compound_fits}
use Rattle.sheet_text.specs.Internal.Building.{label_fits, policy_fits, location_fits, begin, add_type, add_line}
use Rattle.sheet_text.specs.Internal.Building.{add_line_on, add_lines, build}
use Rattle.sheet.proofs.GrowthLaws.{length_more, to_last_more}
use Rattle.sheet_text.proofs.GrowthLaws.{last_more, least_more}

-- a line that passes its test
passes : (c : Bool) (s s' : Sheet) → c ≡ true → s ≡ s' → cond c (some s) none ≡ some s'
passes c s s' h e = rw h (ap some e)

-- lines that each make a list of the sheet one longer
module _ {A : Type 0} (line : A → SheetLine) (sheet : List A → Sheet) (Good : List A → List A → Type 0)
    (grow : (ys : List A) (xs : List A) (y : A) → Good xs (y ∷ ys)
    → (add_line (sheet xs) (line y) ≡ some (sheet (xs ++ (y ∷ [])))) × Good (xs ++ (y ∷ [])) ys) where
  steps_each : (ys xs : List A) (rest : List SheetLine) → Good xs ys
      → add_lines (some (sheet xs)) (each line ys rest) ≡ add_lines (some (sheet (xs ++ ys))) rest
  unfolding each add_lines add_line_on
  steps_each [] xs rest g = ap (λ (zs : List A). add_lines (some (sheet zs)) rest) (sym (append-nil xs))
  steps_each (y ∷ ys) xs rest g =
      let (e, h) = grow ys xs y g in
      ap (λ (o : Option Sheet). add_lines o (each line ys rest)) e ∙ steps_each ys (xs ++ (y ∷ [])) rest h
      ∙ ap (λ (zs : List A). add_lines (some (sheet zs)) rest) (append_assoc xs (y ∷ []) ys)

abbrev sheet_at : ℕ → Rule → List Compound → List (List Policy) → List Location → Sheet
sheet_at n rule ss pss xs = record { principals = n; rule = rule; compounds = ss; labels = pss; locations = xs }

-- ---- the rule of reading

rule_built : (n : ℕ) (rule : Rule) (rest : List SheetLine)
    → add_lines (some (sheet_at n Pooled [] [] [])) (rule_lines rule rest)
    ≡ add_lines (some (sheet_at n rule [] [] [])) rest
unfolding rule_lines add_lines add_line_on add_line rule_fits is_pooled add_rule both label_count location_count
rule_built n Pooled rest = refl
rule_built n Alone rest = refl

-- ---- types

abbrev GoodTypes : List Compound → List Compound → Type 0
GoodTypes xs ys = (length xs + length ys ≤ max_compounds) × (earlier_types (5 + length xs) ys ≡ true)

-- a line of either kind adds its type
add-type : (s : Sheet) (k : Kind) (a b : ℕ)
    → add_line s (type_line k a b)
    ≡ cond (compound_fits s a b) (some (add_compound s (record { kind = k; left = a; right = b }))) none
unfolding add_line add_type type_line
add-type s Sum a b = refl
add-type s Pair a b = refl

type_built : (n : ℕ) (rule : Rule) (ys xs : List Compound) (y : Compound) → GoodTypes xs (y ∷ ys)
    → (add_line (sheet_at n rule xs [] []) (compound_line y) ≡ some (sheet_at n rule (xs ++ (y ∷ [])) [] []))
    × GoodTypes (xs ++ (y ∷ [])) ys
unfolding earlier_types compound_line compound_fits add_compound label_count location_count
type_built n rule ys xs y g =
    let few : length xs < max_compounds = omega (arith, g.0) in
    let count = type-count (sheet_at n rule xs [] []) in
    let parts = both_left _ _ g.1 in
    let left : y.left < 5 + length xs = ltb-true _ _ (both_left _ _ parts) in
    let right : y.right < 5 + length xs = ltb-true _ _ (both_right _ _ parts) in
    let long = length_more xs y in
    let next : suc (5 + length xs) ≡ 5 + length (xs ++ (y ∷ [])) = omega arith in
    let left_there : y.left < type_count (sheet_at n rule xs [] []) = omega arith in
    let right_there : y.right < type_count (sheet_at n rule xs [] []) = omega arith in
    let test : compound_fits (sheet_at n rule xs [] []) y.left y.right ≡ true =
    both_true (both_true refl refl)
    (both_true (lt-ltb _ _ few) (both_true (lt-ltb _ _ left_there) (lt-ltb _ _ right_there))) in (
      add-type (sheet_at n rule xs [] []) y.kind y.left y.right ∙ passes _ _ _ test refl,
      (omega (arith, g.0), ap (λ (k : ℕ). earlier_types k ys) (sym next) ∙ both_right _ _ g.1),
    )

-- ---- policies of the last label

abbrev GoodPolicies : ℕ → List Policy → List Policy → Type 0
GoodPolicies n qs ps = rising n (least_after 0 qs) ps ≡ true

policy_built : (n : ℕ) (rule : Rule) (ss : List Compound) (done : List (List Policy)) (ps qs : List Policy)
    (p : Policy) → GoodPolicies n qs (p ∷ ps)
    → (add_line (sheet_at n rule ss (done ++ (qs ∷ [])) []) (policy_line p)
    ≡ some (sheet_at n rule ss (done ++ ((qs ++ (p ∷ [])) ∷ [])) []))
    × GoodPolicies n (qs ++ (p ∷ [])) ps
unfolding rising add_line policy_line policy_fits add_policy label_count location_count least_owner
policy_built n rule ss done ps qs (policy o r w) g =
    let rises = both_left _ _ g in
    let sets = both_left _ _ (both_right _ _ g) in
    let some-label : 0 < length (done ++ (qs ∷ [])) = omega (arith, length_more done qs) in
    let last = ap (least_after 0) (last_more done qs) in
    let rises' = ap (λ (k : ℕ). both (leb k o) (ltb o n)) last ∙ rises in (
      passes _ _ _ (both_true (both_true refl (lt-ltb _ _ some-label)) (both_true rises' sets))
          (ap (λ (pss : List (List Policy)). sheet_at n rule ss pss []) (to_last_more (policy o r w) done qs)),
      ap (λ (k : ℕ). rising n k ps) (least_more 0 qs o r w) ∙ both_right _ _ (both_right _ _ g),
    )

-- ---- labels

labels_built : (n : ℕ) (rule : Rule) (ss : List Compound) (pss done : List (List Policy)) (rest : List SheetLine)
    → length done + length pss ≤ max_labels → each_rising n pss ≡ true
    → add_lines (some (sheet_at n rule ss done [])) (label_lines pss rest)
    ≡ add_lines (some (sheet_at n rule ss (done ++ pss) [])) rest
unfolding label_lines each_rising add_lines add_line_on add_line label_fits add_label label_count location_count
    least_after
labels_built n rule ss [] done rest few e =
    ap (λ (zs : List (List Policy)). add_lines (some (sheet_at n rule ss zs [])) rest) (sym (append-nil done))
labels_built n rule ss (ps ∷ pss) done rest few e =
    let room : length done < max_labels = omega arith in
    let long = length_more done ps in
    ap (λ (o : Option Sheet). add_lines o (each policy_line ps (label_lines pss rest)))
    (passes (both true (ltb (length done) max_labels)) _ _ (both_true refl (lt-ltb _ _ room)) refl)
    ∙ steps_each policy_line (λ qs. sheet_at n rule ss (done ++ (qs ∷ [])) []) (GoodPolicies n)
    (policy_built n rule ss done) ps []
    (label_lines pss rest) (both_left _ _ e)
    ∙ labels_built n rule ss pss (done ++ (ps ∷ [])) rest (omega arith) (both_right _ _ e)
    ∙ ap (λ (zs : List (List Policy)). add_lines (some (sheet_at n rule ss zs [])) rest)
    (append_assoc done (ps ∷ []) pss)

-- ---- locations

abbrev GoodLocations : ℕ → ℕ → List Location → List Location → Type 0
GoodLocations types labels xs ys = (length xs + length ys ≤ max_locations) × (each_named types labels ys ≡ true)

location_built : (n : ℕ) (rule : Rule) (ss : List Compound) (pss : List (List Policy))
    (ys xs : List Location) (y : Location)
    → GoodLocations (type_count (sheet_at n rule ss pss [])) (length pss) xs (y ∷ ys)
    → (add_line (sheet_at n rule ss pss xs) (location_line y) ≡ some (sheet_at n rule ss pss (xs ++ (y ∷ []))))
    × GoodLocations (type_count (sheet_at n rule ss pss [])) (length pss) (xs ++ (y ∷ [])) ys
unfolding each_named add_line location_line location_fits add_location location_count label_count
location_built n rule ss pss ys xs y g =
    let few : length xs < max_locations = omega (arith, g.0) in
    let names = both_left _ _ g.1 in
    let count = type-count (sheet_at n rule ss pss []) in
    let count' = type-count (sheet_at n rule ss pss xs) in
    let type : y.type < type_count (sheet_at n rule ss pss []) = ltb-true _ _ (both_left _ _ names) in
    let type-there : y.type < type_count (sheet_at n rule ss pss xs) = omega arith in (
      passes _ _ _ (both_true (lt-ltb _ _ few) (both_true (lt-ltb _ _ type-there) (both_right _ _ names))) refl,
      (omega (arith, g.0, length_more xs y), both_right _ _ g.1),
    )

-- ---- the whole sheet

pub build-complete : (s : Sheet) → formed s ≡ true → build (sheet_lines s) ≡ some s
unfolding build sheet_lines lines_then begin bare_sheet add_lines label_count
build-complete s fm =
    let n = s.principals in
    let rule = s.rule in
    let f = formed_facts s fm in
    let count = type-count s in
    let count' = type-count (sheet_at n rule s.compounds s.labels []) in
    let types : type_count s ≡ type_count (sheet_at n rule s.compounds s.labels []) = omega arith in
    let lines = each compound_line s.compounds (label_lines s.labels (each location_line s.locations [])) in
    ap (λ (o : Option Sheet). add_lines o (rule_lines rule lines))
    (passes _ _ _ (both_true (le-leb _ _ f.some_principal) (le-leb _ _ f.few_principals)) refl)
    ∙ rule_built n rule lines
    ∙ steps_each compound_line (λ xs. sheet_at n rule xs [] []) GoodTypes (type_built n rule) s.compounds []
    (label_lines s.labels (each location_line s.locations []))
    (omega (arith, f.few_compounds), f.compounds_earlier)
    ∙ labels_built n rule s.compounds s.labels [] (each location_line s.locations [])
    (omega (arith, f.few_labels)) f.labels_rising
    ∙ steps_each location_line (λ xs. sheet_at n rule s.compounds s.labels xs)
    (GoodLocations (type_count (sheet_at n rule s.compounds s.labels [])) (length s.labels))
    (location_built n rule s.compounds s.labels) s.locations [] [] (
      omega (arith, f.few_locations),
      ap (λ (k : ℕ). each_named k (length s.labels) s.locations) (sym types) ∙ f.locations_named,
    )

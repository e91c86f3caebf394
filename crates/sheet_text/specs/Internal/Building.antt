-- From lines to the sheet, a line at a time: each is tested against the sheet so far, which refuses those
-- that break the form.
use Rattle.std.specs.Prelude.{Bool, true, false, cond, List, [], ◌∷◌, ℕ, suc, ◌^◌, eqb, leb, ltb, length}
use Rattle.std.proofs.Math.Option.{Option, none, some}
use Rattle.logic.specs.Booleans.{both}
use Rattle.labels.specs.Labels.{Policy, policy}
use Rattle.labels.specs.declared.Rule.{Rule}
use Rattle.labels.specs.declared.Rule.TheVariants.{Pooled, Alone}
use Rattle.sheet.specs.declared.Kind.{Kind}
use Rattle.sheet.specs.declared.Kind.TheVariants.{Sum, Pair}
use Rattle.sheet.specs.Sheet.{Sheet, type_count, label_count, location_count, max_principals, max_compounds, max_labels}
use Rattle.sheet.specs.Sheet.{max_locations}
use Rattle.sheet.specs.Internal.Growth.{bare_sheet, add_rule, add_compound, add_label, add_policy, add_location}
use Rattle.sheet_text.specs.declared.line.SheetLine.{SheetLine}
use Rattle.sheet_text.specs.declared.line.SheetLine.TheVariants.{P, R, T, Q, L, O, X}

-- ---- which line may come next

-- the last label's policies; none where there is no label
unfoldable pub last_of : List (List Policy) → List Policy
last_of [] = []
last_of (ps ∷ []) = ps
last_of (ps ∷ qs ∷ pss) = last_of (qs ∷ pss)

-- the least owner that may follow policies, from being the least at their start
unfoldable pub least_after : ℕ → List Policy → ℕ
least_after from [] = from
least_after from (policy o r w ∷ ps) = least_after (suc o) ps

unfoldable pub least_owner : Sheet → ℕ
least_owner s = least_after 0 (last_of s.labels)

-- no `R` came
unfoldable pub is_pooled : Rule → Bool
is_pooled Pooled = true
is_pooled Alone = false

-- `R 1` right after `P`
unfoldable pub rule_fits : Sheet → ℕ → Bool
rule_fits s k =
    both (is_pooled s.rule)
    (both (eqb k 1) (both (eqb (length s.compounds) 0) (both (eqb (label_count s) 0) (eqb (location_count s) 0))))

-- `T` and `Q` before any `L` or `X`, of earlier types
unfoldable pub compound_fits : Sheet → ℕ → ℕ → Bool
compound_fits s a b =
    both (both (eqb (label_count s) 0) (eqb (location_count s) 0))
    (both (ltb (length s.compounds) max_compounds) (both (ltb a (type_count s)) (ltb b (type_count s))))

-- `L` before any `X`
unfoldable pub label_fits : Sheet → Bool
label_fits s = both (eqb (location_count s) 0) (ltb (label_count s) max_labels)

-- `O` after an `L` and before any `X`, owners rising
unfoldable pub policy_fits : Sheet → ℕ → ℕ → ℕ → Bool
policy_fits s o r w =
    both (both (eqb (location_count s) 0) (ltb 0 (label_count s)))
    (both (both (leb (least_owner s) o) (ltb o s.principals))
    (both (ltb r (2 ^ s.principals)) (ltb w (2 ^ s.principals))))

-- `X` with a type and a label that are there
unfoldable pub location_fits : Sheet → ℕ → ℕ → Bool
location_fits s t l = both (ltb (location_count s) max_locations) (both (ltb t (type_count s)) (ltb l (label_count s)))

-- ---- the sheet of lines

-- the sheet after a first line, which is `P`
unfoldable pub begin : SheetLine → Option Sheet
begin (P n) = cond (both (leb 1 n) (leb n max_principals)) (some (bare_sheet n)) none
begin (R k) = none
begin (T a b) = none
begin (Q a b) = none
begin L = none
begin (O o r w) = none
begin (X t l) = none

-- the sheet after a line `T` or `Q`
unfoldable pub add_type : Sheet → Kind → ℕ → ℕ → Option Sheet
add_type s k a b = cond (compound_fits s a b) (some (add_compound s (record { kind = k; left = a; right = b }))) none

-- the sheet after a further line
unfoldable pub add_line : Sheet → SheetLine → Option Sheet
add_line s (P n) = none
add_line s (R k) = cond (rule_fits s k) (some (add_rule s)) none
add_line s (T a b) = add_type s Sum a b
add_line s (Q a b) = add_type s Pair a b
add_line s L = cond (label_fits s) (some (add_label s)) none
add_line s (O o r w) = cond (policy_fits s o r w) (some (add_policy s (policy o r w))) none
add_line s (X t l) = cond (location_fits s t l) (some (add_location s (record { type = t; label = l }))) none

unfoldable pub add_line_on : Option Sheet → SheetLine → Option Sheet
add_line_on none l = none
add_line_on (some s) l = add_line s l

unfoldable pub add_lines : Option Sheet → List SheetLine → Option Sheet
add_lines o [] = o
add_lines o (l ∷ ls) = add_lines (add_line_on o l) ls

unfoldable pub build : List SheetLine → Option Sheet
build [] = none
build (l ∷ ls) = add_lines (begin l) ls

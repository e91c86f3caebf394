-- What the code holds of the sheet so far, and what it tests of a line, over the table.
use Rattle.std.specs.Prelude.{◌≡◌, Bool, true, cond, List, ℕ, ◌+◌, ◌%◌, eqb, leb, ltb, Some, None}
use Rattle.std.proofs.Math.Option.{Option, none, some}
use Rattle.logic.specs.Booleans.{both}
use Rattle.sheet.specs.declared.Kind.TheVariants.{Sum, Pair}
use Rattle.sheet.specs.Sheet.{Sheet, formed, max_principals, max_labels, max_locations}
use Rattle.sheet.specs.Internal.Tables.{max_types, table_of, principals_in, everyone_in, types_in, labels_in}
use Rattle.sheet.specs.Internal.Tables.{locations_in}
use Rattle.sheet.specs.Internal.Tables.{rule_in}
use Rattle.sheet.specs.Internal.Writers.{rule_put, compound_put, open_put, policy_put, location_put}
use Rattle.sheet_text.specs.declared.line.SheetLine.{SheetLine}
use Rattle.sheet_text.specs.declared.line.SheetLine.TheVariants.{P, R, T, Q, L, O, X}
use Rattle.sheet_text.specs.Internal.Placed.{Draft}
use Rattle.sheet_text.specs.Internal.Building.{least_owner, is_pooled, add_lines}

-- a draft and a table are those of a sheet of the right form, or there is no draft, whatever the table
unfoldable pub DraftHolds : Option Sheet → Draft → List ℕ → Type 0
DraftHolds none d t = d ≡ None
DraftHolds (some s) d t = (d ≡ Some (least_owner s)) × (t ≡ table_of s)

-- a sheet, if there is one, is of the right form
unfoldable pub FormedIf : Option Sheet → Type 0
FormedIf none = Unit
FormedIf (some s) = formed s ≡ true

-- the sheet after further lines, if they could be read
unfoldable pub steps_read : Option Sheet → Option (List SheetLine) → Option Sheet
steps_read o none = none
steps_read o (some ls) = add_lines o ls

-- ---- the tests of further lines

abbrev pub rule_fits_in : ℕ → List ℕ → Bool
rule_fits_in k t =
    both (is_pooled (rule_in t))
    (both (eqb k 1) (both (eqb (types_in t) 5) (both (eqb (labels_in t) 0) (eqb (locations_in t) 0))))

abbrev pub compound_fits_in : ℕ → ℕ → List ℕ → Bool
compound_fits_in a b t =
    both (both (eqb (labels_in t) 0) (eqb (locations_in t) 0))
    (both (ltb (types_in t) max_types) (both (ltb a (types_in t)) (ltb b (types_in t))))

abbrev pub label_fits_in : List ℕ → Bool
label_fits_in t = both (eqb (locations_in t) 0) (ltb (labels_in t) max_labels)

abbrev pub policy_fits_in : ℕ → ℕ → ℕ → ℕ → List ℕ → Bool
policy_fits_in least o r w t =
    both (both (eqb (locations_in t) 0) (ltb 0 (labels_in t)))
    (both (both (leb least o) (ltb o (principals_in t))) (both (leb r (everyone_in t)) (leb w (everyone_in t))))

abbrev pub location_fits_in : ℕ → ℕ → List ℕ → Bool
location_fits_in ty l t = both (ltb (locations_in t) max_locations) (both (ltb ty (types_in t)) (ltb l (labels_in t)))

-- ---- a further line

-- the draft after a line, if its test passes
abbrev pub draft_if : Bool → ℕ → Draft
draft_if fits least = cond fits (Some least) None

-- the draft after a further line, from the least owner before it
unfoldable pub next_least : ℕ → SheetLine → List ℕ → Draft
next_least least (P n) t = None
next_least least (R k) t = draft_if (rule_fits_in k t) 0
next_least least (T a b) t = draft_if (compound_fits_in a b t) 0
next_least least (Q a b) t = draft_if (compound_fits_in a b t) 0
next_least least L t = draft_if (label_fits_in t) 0
next_least least (O o r w) t = draft_if (policy_fits_in least o r w t) (o % max_principals + 1)
next_least least (X ty l) t = draft_if (location_fits_in ty l t) least

-- what a further line adds to the table
unfoldable pub line_put : SheetLine → List ℕ → List ℕ
line_put (P n) t = t
line_put (R k) t = rule_put t
line_put (T a b) t = compound_put Sum a b t
line_put (Q a b) t = compound_put Pair a b t
line_put L t = open_put t
line_put (O o r w) t = policy_put o r w t
line_put (X ty l) t = location_put ty l t

-- simp_groups as a function of what it is given (request (b)).
use Rattle.std.specs.Prelude.{cond, List, ℕ, leb, ltb, length}
use Rattle.logic.specs.Booleans.{both}
use Rattle.sheet.specs.Sheet.{Sheet, label_count}
use Rattle.sheet.specs.Meaning.{reads_no}
use Rattle.sheet_text.specs.Sheets.{sheet_of}
use Rattle.stages.specs.Calls.{on_sheet, unless}
use Rattle.groups.specs.Listing.{smallest_of}
use Rattle.groups.specs.Answers.{Grouped, refused_groups, grouped}

-- the smallest groups that read label l, by the sheet's rule of reading
unfoldable pub groups_for : Sheet → ℕ → List ℕ
groups_for s l = smallest_of s.principals (λ (g : ℕ). reads_no s g l)

-- 12: the label isn't on the sheet, or there are fewer places than groups; else 0
unfoldable pub groups_refusal : Sheet → ℕ → List ℕ → ℕ
groups_refusal s l places = cond (both (ltb l (label_count s)) (leb (length (groups_for s l)) (length places))) 0 12

-- on a sheet that isn't refused
unfoldable pub groups_on : Sheet → ℕ → List ℕ → Grouped
groups_on s l places = unless (refused_groups places) (groups_refusal s l places) (grouped places (groups_for s l))

-- simp_groups
unfoldable pub groups_of : List ℕ → ℕ → List ℕ → Grouped
groups_of sheet l places = on_sheet (refused_groups places) (sheet_of sheet) (λ s. groups_on s l places)

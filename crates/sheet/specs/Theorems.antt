-- What is claimed of a sheet's labels and numbers, and of who reads. The proofs are `least_label_laws`,
-- `same_labels_on_sheets` and `numbers_agree_on_sheets` (proofs/MeaningLaws.antt) and `reading_on_sheets`
-- (proofs/ReaderLaws.antt).
use Rattle.std.specs.Prelude.{◌↔◌, ◌≡◌, true, false, ℕ, ◌<◌}
use Rattle.sets.specs.Sets.{member}
use Rattle.labels.specs.Labels.{readers_of, effective}
use Rattle.labels.specs.declared.Rule.TheVariants.{Pooled, Alone}
use Rattle.language.specs.Labels.{LeastLabelLaws}
use Rattle.sheet.specs.Sheet.{Sheet, ty_of, type_count, label_no, label_count, location_no, formed, repeats}
use Rattle.sheet.specs.Meaning.{labels_over, declarations_of, reads_no}

-- The labels of n principals satisfy the laws that make least labels exact.
abbrev pub LeastLabelLawsHold : Type 0
LeastLabelLawsHold = (n : ℕ) → LeastLabelLaws (labels_over n)

-- Typing and running go by the same labels: every label of the sheet is effective for its principals, so that what
-- typing takes it for is the label itself.
pub record SameLabels (s : Sheet) : Type 0 where
  pub are_effective : (l : ℕ) → effective s.principals (label_no s l) ≡ true
  pub of_numbers : (l : ℕ) → ((declarations_of s).label l).raw ≡ label_no s l
  pub of_locations : (x : ℕ) → ((declarations_of s).home x).raw ≡ label_no s (location_no s x).label

-- They do so on every sheet of the right form.
abbrev pub SameLabelsOnSheets : Type 0
SameLabelsOnSheets = (s : Sheet) → formed s ≡ true → SameLabels s

-- On a sheet that repeats nothing, equal numbers and equal meaning agree.
pub record NumbersAgree (s : Sheet) : Type 0 where
  pub of_types : (m n : ℕ) → m < type_count s → n < type_count s → ty_of s m ≡ ty_of s n → m ≡ n
  pub of_labels : (l m : ℕ) → l < label_count s → m < label_count s → label_no s l ≡ label_no s m → l ≡ m

abbrev pub NumbersAgreeOnSheets : Type 0
NumbersAgreeOnSheets = (s : Sheet) → formed s ≡ true → repeats s ≡ false → NumbersAgree s

-- Whether a group reads label l (the scope, and request (g)). Pooled: for every owner one of its members is an
-- effective reader. Alone: one of its members is an effective reader for every owner.
pub record ReadingMeans (s : Sheet) (g l : ℕ) : Type 0 where
  pub pooled : s.rule ≡ Pooled
      → (reads_no s g l ≡ true)
      ↔ ((o : ℕ) → o < s.principals → (p : ℕ) × (member p g ≡ true) × (member p (readers_of (label_no s l) o) ≡ true))
  pub alone : s.rule ≡ Alone
      → (reads_no s g l ≡ true)
      ↔ ((p : ℕ) × (member p g ≡ true) × ((o : ℕ) → o < s.principals → member p (readers_of (label_no s l) o) ≡ true))

abbrev pub ReadingOnSheets : Type 0
ReadingOnSheets = (s : Sheet) → formed s ≡ true → (g l : ℕ) → ReadingMeans s g l

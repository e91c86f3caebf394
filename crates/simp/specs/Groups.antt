-- What simp_groups must answer, by request (b): its numbers in the order judged, each with when it applies, and where
-- none does, the smallest groups that read the label.
use Rattle.std.specs.Prelude.{◌⊎◌, ◌≡◌, List, [], ◌∷◌, ℕ, ◌≤◌, ◌<◌, length, get_or}
use Rattle.sheet.specs.Sheet.{Sheet, label_count}
use Rattle.sheet.specs.Meaning.{reads_no}
use Rattle.groups.specs.Smallest.{ListsSmallest}
use Rattle.groups.specs.Answers.{Grouped, refused_groups}
use Rattle.numbers.specs.Rows.{Row, ◌when◌}
use Rattle.numbers.specs.Calls.{Table}
use Rattle.simp.specs.Judgements.{OfSheet, NoSheet, Repeats}

-- These are the smallest groups that read label l of a sheet: all of them, each once, rising as numbers.
abbrev pub SmallestOn : Sheet → ℕ → List ℕ → Type 0
SmallestOn s l gs = ListsSmallest s.principals (λ (g : ℕ). reads_no s g l) gs

-- ---- when 12 applies

-- the label isn't on the sheet
abbrev pub NoLabel : List ℕ → ℕ → Type 0
NoLabel sheet l = OfSheet sheet (λ s. label_count s ≤ l)

-- there are fewer places than groups
abbrev pub FewPlaces : List ℕ → ℕ → List ℕ → Type 0
FewPlaces sheet l places = OfSheet sheet (λ s. (gs : List ℕ) × SmallestOn s l gs × (length places < length gs))

abbrev pub groups_rows : List ℕ → ℕ → List ℕ → List Row
groups_rows sheet l places =
    1 when NoSheet sheet
    ∷ 2 when Repeats sheet
    ∷ 12 when (NoLabel sheet l ⊎ FewPlaces sheet l places)
    ∷ []

-- ---- where no number applies

-- The groups stand in the first places, in their order, and the count is how many; the places after it keep their
-- content.
pub record Handed (places gs : List ℕ) (r : Grouped) : Type 0 where
  pub not_refused : r.answer ≡ 0
  pub its_count : r.count ≡ length gs
  pub enough : length gs ≤ length places
  pub as_many_places : length r.places ≡ length places
  pub first_places : (i : ℕ) → i < length gs → get_or r.places i 0 ≡ get_or gs i 0
  pub rest_kept : (i : ℕ) → length gs ≤ i → get_or r.places i 0 ≡ get_or places i 0

abbrev pub groups_table : List ℕ → ℕ → List ℕ → Table Grouped
groups_table sheet l places = record {
  rows = groups_rows sheet l places;
  refuse = refused_groups places;
  Else = λ r. OfSheet sheet (λ s. (gs : List ℕ) × SmallestOn s l gs × Handed places gs r);
}

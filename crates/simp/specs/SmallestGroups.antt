-- Who can read a label, together (request (b)) or each by himself (request (g)): what simp_groups lists.
use Rattle.std.specs.Prelude.{◌↔◌, ◌≡◌, true, List, ℕ, ◌<◌}
use Rattle.sets.specs.Sets.{within}
use Rattle.sheet.specs.Sheet.{Sheet, label_count}
use Rattle.sheet.specs.Meaning.{reads_no}
use Rattle.groups.specs.Smallest.{Listed}
use Rattle.groups.specs.Answers.{Grouped}
use Rattle.groups.specs.Calls.{groups_of}
use Rattle.simp.specs.Judgements.{OnSheet, Principals}
use Rattle.simp.specs.Groups.{SmallestOn, Handed}

-- What answer 0 says of label l: which groups stand in the places.
pub record AllListed (s : Sheet) (l : ℕ) (places : List ℕ) (r : Grouped) : Type 0 where
  pub there : l < label_count s
  pub groups : List ℕ
  pub smallest : SmallestOn s l groups
  pub handed : Handed places groups r
  -- the empty group isn't among them
  pub not_empty : ¬ Listed 0 groups
  -- and, since a group that reads still reads with more members: a group of the sheet's principals reads the label
  -- exactly if it holds a listed one
  pub readers : (g : ℕ) → Principals s g → (reads_no s g l ≡ true) ↔ ((h : ℕ) × Listed h groups × (within h g ≡ true))

-- Any sheet, label and places: if the call isn't refused, a group is listed exactly if it is a set of the sheet's
-- principals that reads the label while none of its proper subsets does; the list rises, its length is the count, and
-- the places after it are kept.
abbrev pub SmallestGroups : Type 0
SmallestGroups = (sheet : List ℕ) (l : ℕ) (places : List ℕ) → (groups_of sheet l places).answer ≡ 0
    → (s : Sheet) × OnSheet sheet s × AllListed s l places (groups_of sheet l places)

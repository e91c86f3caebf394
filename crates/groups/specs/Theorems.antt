-- What is claimed of smallest groups. The proofs are `groups_exact` and `readers_hold_one` (proofs/ListLaws.antt),
-- `reading_grows` (proofs/RuleLaws.antt) and `single_readers` (proofs/SingleLaws.antt).
use Rattle.std.specs.Prelude.{◌↔◌, ◌≡◌, true, List, ℕ, ◌<◌}
use Rattle.sets.specs.Sets.{within, single, everyone}
use Rattle.labels.specs.declared.Rule.TheVariants.{Alone}
use Rattle.sheet.specs.Sheet.{Sheet, formed}
use Rattle.sheet.specs.Meaning.{reads_no}
use Rattle.groups.specs.Smallest.{AccessStructure, Listed, ListsSmallest, Grows}
use Rattle.groups.specs.Listing.{smallest_of}

-- The function lists the smallest groups, of any number of principals and any access structure; and there is no other
-- such list.
pub record GroupsExact : Type 0 where
  pub lists : (n : ℕ) (reads : AccessStructure) → ListsSmallest n reads (smallest_of n reads)
  pub no_other : (n : ℕ) (reads : AccessStructure) (gs : List ℕ) → ListsSmallest n reads gs → gs ≡ smallest_of n reads

-- Of one that grows with the group, the list says who reads: a group of the n principals reads exactly if it holds a
-- listed one.
abbrev pub ReadersHoldOne : Type 0
ReadersHoldOne = (n : ℕ) (reads : AccessStructure) → Grows reads → (gs : List ℕ) → ListsSmallest n reads gs → (g : ℕ)
    → within g (everyone n) ≡ true
    → (reads g ≡ true) ↔ ((h : ℕ) × Listed h gs × (within h g ≡ true))

-- By the sheet's rule of reading, who reads a label grows with the group.
abbrev pub ReadingGrows : Type 0
ReadingGrows = (s : Sheet) (l : ℕ) → Grows (λ (g : ℕ). reads_no s g l)

-- Where one reads by himself (request (g)), the smallest groups are the single readers: {p} for each principal p who
-- reads. There may be none.
abbrev pub SingleReaders : Type 0
SingleReaders = (s : Sheet) → formed s ≡ true → s.rule ≡ Alone → (l : ℕ) (gs : List ℕ)
    → ListsSmallest s.principals (λ (g : ℕ). reads_no s g l) gs
    → (g : ℕ) → Listed g gs ↔ ((p : ℕ) × (p < s.principals) × (g ≡ single p) × (reads_no s (single p) l ≡ true))

-- The smallest groups that read (request (b), "Who together can read this?"), over any access structure.
use Rattle.std.specs.Prelude.{◌↔◌, ◌≡◌, Bool, true, false, List, ℕ, ◌<◌, length, get_or}
use Rattle.sets.specs.Sets.{within, everyone}

-- An access structure, the field's term: of one label, which groups read it.
abbrev pub AccessStructure : Type 0
AccessStructure = ℕ → Bool

-- The group reads while none of its proper subsets does.
pub record Smallest (reads : AccessStructure) (g : ℕ) : Type 0 where
  pub itself : reads g ≡ true
  pub no_less : (h : ℕ) → within h g ≡ true → ¬ (h ≡ g) → reads h ≡ false

-- g stands in the list
abbrev pub Listed : ℕ → List ℕ → Type 0
Listed g gs = (i : ℕ) × (i < length gs) × (get_or gs i 0 ≡ g)

-- The list has the smallest groups of n principals: all of them and no other, rising as numbers, so each once.
pub record ListsSmallest (n : ℕ) (reads : AccessStructure) (gs : List ℕ) : Type 0 where
  pub listed : (g : ℕ) → Listed g gs ↔ ((within g (everyone n) ≡ true) × Smallest reads g)
  pub rising : (i j : ℕ) → i < j → j < length gs → get_or gs i 0 < get_or gs j 0

-- It grows with the group: a group that reads still reads with more members.
abbrev pub Grows : AccessStructure → Type 0
Grows reads = (g h : ℕ) → within g h ≡ true → reads g ≡ true → reads h ≡ true

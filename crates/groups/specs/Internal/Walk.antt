-- How the smallest groups are found: the numbers are gone through rising, and past those that hold a group that reads.
use Rattle.std.specs.Prelude.{Bool, not, List, ℕ, suc, ◌-◌}
use Rattle.logic.specs.Booleans.{both}
use Rattle.sets.specs.Sets.{width, member, union, single, every}
use Rattle.groups.specs.Smallest.{AccessStructure}
use Rattle.groups.specs.Listing.{smallest_from}

-- One past the last of the numbers from g on that all hold g: these differ from it below its lowest member alone.
unfoldable pub past_holders : ℕ → ℕ
past_holders g = suc (union g (g - 1))

-- p is a member of the group, which reads without it
unfoldable pub reads_without : AccessStructure → ℕ → ℕ → Bool
reads_without reads g p = both (member p g) (reads (g - single p))

-- without any one of its members the group doesn't read
unfoldable pub needs_each : AccessStructure → ℕ → Bool
needs_each reads g = every width (λ (p : ℕ). not (reads_without reads g p))

-- the smallest groups from `from` on, below `end`
unfoldable pub smallest_up_to : AccessStructure → ℕ → ℕ → List ℕ
smallest_up_to reads end from = smallest_from reads (end - from) from

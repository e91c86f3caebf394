-- The smallest groups as a function. (That it lists them is crate groups' GroupsExact.)
use Rattle.std.specs.Prelude.{Bool, not, cond, List, [], ◌∷◌, ℕ, zero, suc, ◌^◌}
use Rattle.logic.specs.Booleans.{both}
use Rattle.sets.specs.Sets.{within, every}
use Rattle.groups.specs.Smallest.{AccessStructure}

-- the group reads, and no lower number that is a subset of it does (a proper subset is a lower number)
unfoldable pub is_smallest : AccessStructure → ℕ → Bool
is_smallest reads g = both (reads g) (every g (λ (h : ℕ). not (both (within h g) (reads h))))

-- the smallest groups among k numbers from g on
unfoldable pub smallest_from : AccessStructure → ℕ → ℕ → List ℕ
smallest_from reads zero g = []
smallest_from reads (suc k) g =
    cond (is_smallest reads g) (g ∷ smallest_from reads k (suc g)) (smallest_from reads k (suc g))

-- those of n principals, whose sets are the numbers below 2^n
unfoldable pub smallest_of : ℕ → AccessStructure → List ℕ
smallest_of n reads = smallest_from reads (2 ^ n) 0

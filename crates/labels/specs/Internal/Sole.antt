-- Who reads a label by himself, as one set.
use Rattle.std.specs.Prelude.{ℕ, zero, suc}
use Rattle.sets.specs.Sets.{width, intersection, everyone}
use Rattle.labels.specs.declared.Label.{Label}
use Rattle.labels.specs.Labels.{readers_of}

-- what the first n sets have in common
unfoldable pub common_of : ℕ → (ℕ → ℕ) → ℕ
common_of zero f = everyone width
common_of (suc n) f = intersection (common_of n f) (f n)

-- the principals that are effective readers of A for every owner below n
unfoldable pub sole_readers_of : ℕ → Label → ℕ
sole_readers_of n a = common_of n (readers_of a)

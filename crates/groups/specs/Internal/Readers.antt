-- Who reads a label, by the rule of a table's sheet.
use Rattle.std.specs.Prelude.{Bool, List, ℕ, get_or, replicate}
use Rattle.sets.specs.Sets.{meets, every}
use Rattle.labels.specs.Labels.{owners}
use Rattle.labels.specs.Internal.Sole.{sole_readers_of}
use Rattle.labels.specs.declared.Label.{Label}
use Rattle.labels.specs.declared.Rule.{Rule}
use Rattle.labels.specs.declared.Rule.TheVariants.{Pooled, Alone}
use Rattle.sheet.specs.Internal.Tables.{principals_in, rule_in, label_in}
use Rattle.groups.specs.declared.readers.Readers.{Readers}

-- the group g reads
unfoldable pub reads_by : Readers → ℕ → Bool
reads_by r g = every owners (λ (o : ℕ). meets g (get_or r.sets o 0))

-- the sets that a group of n principals must meet to read a label: the readers of each owner; alone, in each place
-- those who are readers for every owner
unfoldable pub sets_to_meet : Rule → ℕ → Label → List ℕ
sets_to_meet Pooled n a = a.readers
sets_to_meet Alone n a = replicate owners (sole_readers_of n a)

-- the sets to meet, of label l
unfoldable pub readers_in : List ℕ → ℕ → Readers
readers_in t l = record { sets = sets_to_meet (rule_in t) (principals_in t) (label_in t l) }

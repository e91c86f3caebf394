-- What a group may do to the labels of a table, as one set of numbers: l where it writes label l, and 32 + l where
-- it reads label l.
use Rattle.std.specs.Prelude.{Bool, cond, List, ℕ, zero, suc, ◌+◌, ◌-◌, ltb}
use Rattle.logic.specs.Booleans.{both}
use Rattle.sets.specs.Sets.{member, union, single}
use Rattle.sheet.specs.Sheet.{max_labels}
use Rattle.sheet.specs.Internal.Tables.{labels_in, reads_in, writes_in}

-- the group g has power p
unfoldable pub has_power : List ℕ → ℕ → ℕ → Bool
has_power t g p = cond (ltb p max_labels) (writes_in t g p) (reads_in t g (p - max_labels))

-- the set m, with p if the group has power p
unfoldable pub with_power : List ℕ → ℕ → ℕ → ℕ → ℕ
with_power t g m p = cond (has_power t g p) (union m (single p)) m

-- the powers of the group over the labels below n
unfoldable pub powers_up_to : List ℕ → ℕ → ℕ → ℕ
powers_up_to t g zero = 0
powers_up_to t g (suc l) = with_power t g (with_power t g (powers_up_to t g l) l) (max_labels + l)

-- the labels that are there, no more than a set of powers has room for
unfoldable pub labels_held : List ℕ → ℕ
labels_held t = cond (ltb (labels_in t) max_labels) (labels_in t) max_labels

unfoldable pub powers_in : List ℕ → ℕ → ℕ
powers_in t g = powers_up_to t g (labels_held t)

-- what a set of powers says of label l
unfoldable pub may_write : ℕ → ℕ → Bool
may_write powers l = both (ltb l max_labels) (member l powers)

unfoldable pub may_read : ℕ → ℕ → Bool
may_read powers l = both (ltb l max_labels) (member (max_labels + l) powers)

-- A least label as the set of the labels that it is the join of: member l is label l of the table, member 32 + l is I
-- of label l. The empty set is bottom. Every least label is such a join, so that one number holds it.
use Rattle.std.specs.Prelude.{Bool, cond, List, [], ◌∷◌, ℕ, zero, suc, ◌+◌, ◌-◌, ltb}
use Rattle.sets.specs.Sets.{member, single}
use Rattle.labels.specs.declared.Label.{Label}
use Rattle.labels.specs.Labels.{join_of, integrity_of, bottom_of, confidentiality_of, below_of}
use Rattle.sheet.specs.Sheet.{max_labels}
use Rattle.sheet.specs.Internal.Tables.{everyone_in, label_in}

-- {label l} and {I of label l}; no member for a number that names no label
unfoldable pub label_member : ℕ → ℕ
label_member l = cond (ltb l max_labels) (single l) 0

unfoldable pub integrity_member : ℕ → ℕ
integrity_member l = cond (ltb l max_labels) (single (max_labels + l)) 0

-- the label that member p stands for
unfoldable pub member_in : List ℕ → ℕ → Label
member_in t p = cond (ltb p max_labels) (label_in t p) (integrity_of (everyone_in t) (label_in t (p - max_labels)))

-- the join of bottom and the members of m that are below n
unfoldable pub join_up_to : List ℕ → ℕ → ℕ → Label
join_up_to t m zero = bottom_of (everyone_in t)
join_up_to t m (suc p) = cond (member p m) (join_of (join_up_to t m p) (member_in t p)) (join_up_to t m p)

-- the number of members that a set has room for
abbrev pub max_members : ℕ
max_members = max_labels + max_labels

-- of the n places from p on, those of members of m, the lowest first
unfoldable pub members_from : ℕ → ℕ → ℕ → List ℕ
members_from m p zero = []
members_from m p (suc n) = cond (member p m) (p ∷ members_from m (suc p) n) (members_from m (suc p) n)

-- all members of m
abbrev pub members_of : ℕ → List ℕ
members_of m = members_from m 0 max_members

-- the label that a set of members stands for
unfoldable pub join_in : List ℕ → ℕ → Label
join_in t m = join_up_to t m max_members

-- that label is at or below label l; its C is at or below that of label l
unfoldable pub whole_flows : List ℕ → ℕ → ℕ → Bool
whole_flows t m l = below_of (join_in t m) (label_in t l)

unfoldable pub confidentiality_flows : List ℕ → ℕ → ℕ → Bool
confidentiality_flows t m l = below_of (confidentiality_of (join_in t m)) (confidentiality_of (label_in t l))

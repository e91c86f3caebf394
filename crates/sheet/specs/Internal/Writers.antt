-- What is stored in a table where its sheet grows. A table without room for more stays as it is.
use Rattle.std.specs.Prelude.{cond, List, ℕ, ◌+◌, ◌*◌, ◌-◌, ◌%◌, ltb, get_or, set}
use Rattle.sets.specs.Sets.{width, everyone, restrict}
use Rattle.labels.specs.Labels.{open_of, policy_of}
use Rattle.labels.specs.Internal.Tables.{label_put}
use Rattle.labels.specs.declared.Label.{Label}
use Rattle.labels.specs.declared.Rule.TheVariants.{Alone}
use Rattle.sheet.specs.declared.Kind.{Kind}
use Rattle.sheet.specs.Sheet.{max_labels, max_locations}
use Rattle.sheet.specs.Internal.Tables.{max_types, parts_base, locations_base, parts_place, right_word, label_place}
use Rattle.sheet.specs.Internal.Tables.{principals_at, everyone_at, types_at, labels_at, locations_at, rule_at}
use Rattle.sheet.specs.Internal.Tables.{rule_word, principals_in, everyone_in, labels_in, label_in}

-- A number up to the most of anything that is counted, locations, so that it fits a word, however wide. The second word
-- of a type is lower still.
unfoldable pub low : ℕ → ℕ
low n = n % (max_locations + 1)

-- the number of principals, their set, the count of the five given types, and the parts of type 4; the others
-- have the parts 0 0
abbrev pub principals_put : ℕ → List ℕ → List ℕ
principals_put n t =
    set (set (set (set (set t principals_at (low n)) everyone_at (restrict width (everyone n))) types_at 5)
    (parts_place 4) 2) (parts_place 4 + 1) 1

-- the rule of the line `R 1`
abbrev pub rule_put : List ℕ → List ℕ
rule_put t = set t rule_at (rule_word Alone)

-- the entry a b behind those from base on, of which there are at most `most` and as many as the word at `count` says
unfoldable pub entry_put : ℕ → ℕ → ℕ → ℕ → ℕ → List ℕ → List ℕ
entry_put base count most a b t =
    let n = get_or t count 0 in
    cond (ltb n most) (set (set (set t (base + 2 * n) (low a)) (base + 2 * n + 1) (low b)) count (low (n + 1))) t

-- a type of a kind, of the types a and b
abbrev pub compound_put : Kind → ℕ → ℕ → List ℕ → List ℕ
compound_put k a b t = entry_put parts_base types_at max_types a (right_word k b) t

-- a location
abbrev pub location_put : ℕ → ℕ → List ℕ → List ℕ
location_put ty l t = entry_put locations_base locations_at max_locations ty l t

-- label l
abbrev pub label_set : ℕ → Label → List ℕ → List ℕ
label_set l a t = label_put t (label_place l) a

-- a label without policies behind the others
unfoldable pub open_put : List ℕ → List ℕ
open_put t =
    let n = labels_in t in
    cond (ltb n max_labels) (set (label_set n (open_of (principals_in t) (everyone_in t)) t) labels_at (low (n + 1))) t

-- a policy more at the last label
unfoldable pub policy_put : ℕ → ℕ → ℕ → List ℕ → List ℕ
policy_put o r w t =
    let last = labels_in t - 1 in
    cond (ltb 0 (labels_in t)) (label_set last (policy_of (label_in t last) o r w) t) t

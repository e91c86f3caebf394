-- What the stage of simp_groups answers, by what a table says, whatever its words are.
use Rattle.std.specs.Prelude.{cond, List, ℕ, ◌+◌, leb, ltb, length, Result, Ok, Err}
use Rattle.logic.specs.Booleans.{both}
use Rattle.sheet.specs.Internal.Tables.{everyone_in, labels_in}
use Rattle.stages.specs.declared.refusal.Refusal.{Refusal}
use Rattle.stages.specs.Refusals.{refusal_number}
use Rattle.stages.specs.Calls.{unless}
use Rattle.groups.specs.declared.Groups.{Groups}
use Rattle.groups.specs.Answers.{Grouped, refused_groups, grouped}
use Rattle.groups.specs.Internal.Readers.{reads_by, readers_in}
use Rattle.groups.specs.Internal.Walk.{smallest_up_to}

-- these groups of label l in the places, or 12: there are no more than l labels, or fewer places than groups
unfoldable pub groups_by : ℕ → ℕ → List ℕ → List ℕ → Grouped
groups_by labels l gs places =
    unless (refused_groups places) (cond (both (ltb l labels) (leb (length gs) (length places))) 0 12)
    (grouped places gs)

-- the smallest groups that read label l, up to the set of all
unfoldable pub groups_for_in : List ℕ → ℕ → List ℕ
groups_for_in t l = smallest_up_to (reads_by (readers_in t l)) (everyone_in t + 1) 1

-- the list of them, as simp_groups gives it
unfoldable pub groups_in : List ℕ → ℕ → List ℕ → Grouped
groups_in t l places = groups_by (labels_in t) l (groups_for_in t l) places

-- what a call answers of the groups that are listed, with the places then
abbrev pub answered_groups : Result Groups Refusal → List ℕ → Grouped
answered_groups (Ok groups) places = record { answer = groups.answer; count = groups.count; places = places }
answered_groups (Err refusal) places = refused_groups places (refusal_number refusal)

-- The lower of what was found and what is still to be found is the lowest of all.
use Rattle.std.proofs.Common.{◌≡◌, ℕ}
use Rattle.sheet.specs.Sheet.{Sheet}
use Rattle.stages.specs.Refusals.{answer_number}
use Rattle.stages.specs.Calls.{number_of}
use Rattle.stages.specs.Internal.Stages.{TableOf, OfVerdict, number_in}
use Rattle.scripts.specs.Parting.{script_texts}
use Rattle.scripts.specs.Internal.Places.{script_texts_after}
use Rattle.scripts.proofs.Places.{StartsAt}
use Rattle.rounds.specs.Calls.{lower, lowest}
use Rattle.rounds.specs.Internal.Stages.{lowest_in}
use Rattle.rounds.proofs.lowest_refusal.Given as goal

abbrev pub invariant-loop-end : goal.invariant-loop-end
invariant-loop-end l = record {
  starts : StartsAt l.scripts.text.now l.end-index l.at;
  found : (s : Sheet) → TableOf l.table s
      → lower (answer_number l.found) (lowest (number_of s) (script_texts_after l.scripts.text.now l.at))
      ≡ lowest (number_of s) (script_texts l.scripts.text.now);
  in_table : (v : ℕ) × OfVerdict v
      × (lower (answer_number l.found) (lowest (number_in 0 l.table) (script_texts_after l.scripts.text.now l.at))
      ≡ lowest_in v l.table (script_texts l.scripts.text.now));
}

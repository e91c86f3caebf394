-- What is kept, with the ends to come, is all.
use Rattle.std.proofs.Common.{length, ◌≡◌}
use lib.Seq.{sets}
use Rattle.scripts.specs.Internal.Places.{script_texts_after, ends_from, kept_ends}
use Rattle.scripts.specs.Parting.{most_scripts}
use Rattle.scripts.proofs.Places.{StartsAt}
use Rattle.scripts.proofs.part.Given as goal

abbrev pub invariant-loop-count : goal.invariant-loop-count
invariant-loop-count l = record {
  sized : length l.ends ≡ most_scripts;
  starts : StartsAt l.text l.count l.at;
  kept : sets l.ends l.count (ends_from l.at (script_texts_after l.text l.at)) ≡ kept_ends l.text;
}

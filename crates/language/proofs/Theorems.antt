-- All claims of specs/Theorems.antt.
use Rattle.language.specs.Theorems.{Theorems}
use Rattle.language.proofs.Agreement.{agreement}
use Rattle.language.proofs.Determinacy.{determinacy}
use Rattle.language.proofs.Outcome.{long_exact, outcome}
use Rattle.language.proofs.TypeSoundness.{type_soundness}
use Rattle.language.proofs.Exactness.{exactness}
use Rattle.language.proofs.Masking.{mask_iff, view_iff}
use Rattle.language.proofs.Noninterference.{expression_noninterference, noninterference}
use Rattle.language.proofs.Confinement.{confinement}

pub theorems : Theorems
theorems = record {
  agreement = agreement;
  determinacy = determinacy;
  long_exact = long_exact;
  outcome = outcome;
  type_soundness = type_soundness;
  exactness = λ L 𝓛 law D. exactness 𝓛 law D;
  masking = record { values = mask_iff; memories = view_iff };
  expression_noninterference = λ L K W vis shows O. expression_noninterference K W vis shows O;
  noninterference = λ L K W vis shows O. noninterference K W vis shows O;
  confinement = λ L K W vis shows O. confinement K W vis shows O;
}

-- What is claimed of the checker, as types. The proofs stand in proofs/.
use Rattle.std.specs.Prelude.{◌↔◌, ◌≡◌, ℕ}
use Rattle.language.specs.Syntax.{Script}
use Rattle.language.specs.Labels.{struck}
use Rattle.language.specs.Declarations.{unlabelled}
use Rattle.language.specs.Typing.{refusal}
use Rattle.language.specs.Rules.{Derivable}
use Rattle.sheet.specs.Sheet.{Sheet}
use Rattle.sheet.specs.Meaning.{labels_over, declarations_of}

-- The number says which derivations a script has: 0 if it has one over the sheet's labels; 5 if it has none even with
-- every label condition struck out; 6 otherwise.
pub record Derivations (s : Sheet) (p : Script) (r : ℕ) : Type 0 where
  pub accepted : (r ≡ 0) ↔ Derivable (labels_over s.principals) (declarations_of s) p
  pub refused_5 : (r ≡ 5) ↔ (¬ Derivable struck (unlabelled (declarations_of s)) p)
  pub refused_6 : (r ≡ 6)
      ↔ (Derivable struck (unlabelled (declarations_of s)) p
      × ¬ Derivable (labels_over s.principals) (declarations_of s) p)

-- For every sheet and script `refusal`, the number that the checker's contract gives on a sheet that isn't refused, is
-- such a number.
abbrev pub CheckerExact : Type 0
CheckerExact = (s : Sheet) (p : Script) → Derivations s p (refusal (labels_over s.principals) (declarations_of s) p)

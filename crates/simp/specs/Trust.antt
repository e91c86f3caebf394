-- What simp_trust must answer, by request (e): the numbers of simp_check, and of an accepted script whether it is
-- trust-keeping.
use Rattle.std.specs.Prelude.{◌↔◌, ◌≡◌, true, List, [], ◌∷◌, ℕ}
use Rattle.language.specs.Syntax.{Script}
use Rattle.language.specs.Trust.{trust_keeping}
use Rattle.sheet.specs.Sheet.{Sheet}
use Rattle.sheet.specs.Meaning.{labels_over, declarations_of}
use Rattle.stages.specs.Answers.{TrustAnswer, refused_trust}
use Rattle.numbers.specs.Rows.{Among}
use Rattle.numbers.specs.Calls.{Table}
use Rattle.simp.specs.Judgements.{OfScript, check_rows}

-- Each unpack's operand has a least label at or below the wanted label, writers as well as readers.
abbrev pub TrustKeeping : Sheet → Script → Type 0
TrustKeeping s p = trust_keeping (labels_over s.principals) (declarations_of s) p ≡ true

-- What is answered of an accepted script p on s.
pub record KeepingAnswer (s : Sheet) (p : Script) (r : TrustAnswer) : Type 0 where
  pub not_refused : r.answer ≡ 0
  pub one_or_none : Among (0 ∷ 1 ∷ []) r.keeping
  pub its_keeping : (r.keeping ≡ 1) ↔ TrustKeeping s p

abbrev pub trust_table : List ℕ → List ℕ → Table TrustAnswer
trust_table sheet script = record {
  rows = check_rows sheet script;
  refuse = refused_trust;
  Else = λ r. OfScript sheet script (λ s p. KeepingAnswer s p r);
}

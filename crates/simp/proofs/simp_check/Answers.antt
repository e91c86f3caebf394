use Rattle.std.proofs.Common.{ℕ, List, ◌≡◌, ap, ◌∙◌, rules}
use Rattle.sheet.specs.Sheet.{Sheet}
use Rattle.stages.specs.Refusals.{answer_number}
use Rattle.stages.specs.Internal.Stages.{TableOf, ChecksOn}
use Rattle.stages.specs.Calls.{check_of, number_of}
use Rattle.simp.proofs.SheetLaws.{answers}
use Rattle.simp.proofs.simp_check.Goals as goal

on_it : (script t : List ℕ) (r : ℕ) → ChecksOn script t r → (s : Sheet) → TableOf t s → r ≡ number_of s script
on_it script t r h s T = h.checked s T

pub returns : goal.returns
unfolding check_of
returns c =
    answers (λ k. k) _ _ c.on_sheet.ensures _
    (λ refusal i w. c.number.ensures ∙ ap answer_number i)
    (λ s i p T k. let m = k.met in c.number.ensures ∙ on_it _ _ _ (search rules) s T)

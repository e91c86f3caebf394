use Rattle.std.proofs.Common.{ℕ, eqb, sym, ◌∙◌, rules, tests}
use Rattle.std.proofs.lemmas.Iterator.{YieldsList-from_slice}
use Rattle.std.proofs.lemmas.Iterator.Search.{all_from_yields_List}
use mathlib.Core.Bool.{false≢true}
use Rattle.memory.proofs.CellLaws.{not_proper, not_typed, is_cell, zero-from}
use Rattle.memory.proofs.holds.Goals as goal
use Rattle.memory.proofs.holds.Goals.{then-walked, else-walked}

pub returns-then-has_type : goal.returns-then-has_type
returns-then-has_type c =
    let z = zero-from c.args.words.now c.value_at-walked.result.next
    (all_from_yields_List (λ (u : ℕ). eqb u 0) _ _ c.all.result c.all.ensures.ran
    (YieldsList-from_slice _ c.iter.ensures.rest) (λ x b q k. search (rules, tests))) in
    elim c.if-walked.branch [
      | then-walked w ↦ is_cell _ _ _ c.labels.ensures c.value_at-walked.ensures c.requires w.if-walked.true
          (sym w.has_type.ensures ∙ (sym w.value-is ∙ c.if-has_type.true)) z
      | else-walked w ↦ absurd (false≢true (sym w.if-walked.false ∙ (sym w.value-is ∙ c.if-has_type.true)))
    ]

pub returns-else-has_type : goal.returns-else-has_type
returns-else-has_type c =
    elim c.if-walked.branch [
      | then-walked w ↦ c.if-has_type.false
          ∙ not_typed _ _ _ c.labels.ensures c.value_at-walked.ensures w.if-walked.true
          (sym w.has_type.ensures ∙ (sym w.value-is ∙ c.if-has_type.false))
      | else-walked w ↦ c.if-has_type.false
          ∙ not_proper _ _ _ c.labels.ensures c.value_at-walked.ensures w.if-walked.false
    ]

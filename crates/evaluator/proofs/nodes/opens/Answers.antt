-- The three tests in their order.
use Rattle.std.proofs.Common.{sym, ap, ◌∙◌}
use Rattle.sheet.specs.Internal.TypeTest.{has_no}
use Rattle.evaluator.proofs.NodeLaws as laws
use Rattle.evaluator.proofs.nodes.opens.Goals as goal

pub returns-then-not-may_read : goal.returns-then-not-may_read
returns-then-not-may_read c = laws.error_reads _ _ _ _ c.may_read.ensures c.if-not-may_read.true

pub returns-then-not-below : goal.returns-then-not-below
returns-then-not-below c =
    laws.error-flow _ _ _ _ c.may_read.ensures c.if-not-may_read.false c.word.ensures c.below.ensures
    c.if-not-below.true

pub returns-then-not-has_type : goal.returns-then-not-has_type
returns-then-not-has_type c =
    laws.error-type _ _ _ _ c.may_read.ensures c.if-not-may_read.false c.word.ensures c.below.ensures
    c.if-not-below.false (ap (has_no _ _) (sym c.left_part.ensures) ∙ sym c.has_type.ensures ∙
    c.if-not-has_type.true)

pub returns : goal.returns
returns c =
    laws.error_none _ _ _ _ c.may_read.ensures c.if-not-may_read.false c.word.ensures c.below.ensures
    c.if-not-below.false (ap (has_no _ _) (sym c.left_part.ensures) ∙ sym c.has_type.ensures ∙
    c.if-not-has_type.false)

-- 8 stands for 7.
use Rattle.std.proofs.Common.{sym, ◌∙◌}
use borrow.Author.Tests.{eq-eqb, ne_eqb}
use Rattle.desk.specs.Numbers.{as_text}
use Rattle.desk.proofs.number.Goals as goal

pub returns-then-answer-from : goal.returns-then-answer-from
unfolding as_text
returns-then-answer-from c =
    rw (eq-eqb c.args.answer 7 (c.if-answer-from.true ∙ c.from.ensures), ← c.number_of-other.ensures)
    (rw c.from-then-answer-from.ensures at c.earlier.ensures)

pub returns : goal.returns
unfolding as_text
returns c =
    rw (ne_eqb c.args.answer 7 (λ z. c.if-answer-from.false (z ∙ sym c.from.ensures)), ← c.number_of-other.ensures)
    c.earlier-2.ensures

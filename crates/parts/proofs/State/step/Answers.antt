-- The byte parts two texts, or is stored.
use borrow.Author.Rules.{rules}
use Rattle.std.proofs.Common.{sym, ◌∙◌, arith}
use Rattle.parts.specs.Feeding.{held, turned}
use Rattle.parts.proofs.Steps.{parting_below, stepped_on, stepped_in}
use Rattle.parts.proofs.State.step.Goals as goal

pub overflow_add-self : goal.overflow_add-self
overflow_add-self c =
    let a = c.args in
    omega (
      arith,
      parting_below a.last a.self.now.text a.self.now.start a.b
          (sym c.is_parted_by.ensures ∙ c.if-is_parted_by.true),
    )

pub returns-then-is_parted_by : goal.returns-then-is_parted_by
unfolding turned
returns-then-is_parted_by c =
    let a = c.args in
    rw (stepped_on a.last (held a.self.now a.buffer.now) a.b (sym c.is_parted_by.ensures ∙ c.if-is_parted_by.true))
    (search rules)

pub returns-else-is_parted_by : goal.returns-else-is_parted_by
returns-else-is_parted_by c =
    let a = c.args in
    rw (stepped_in a.last (held a.self.now a.buffer.now) a.b (sym c.is_parted_by.ensures ∙ c.if-is_parted_by.false))
    c.store.ensures

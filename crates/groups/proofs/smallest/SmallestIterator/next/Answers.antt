-- The walk's steps are those of the laws.
use Rattle.std.proofs.Common.{sym, ap, ◌∙◌, arith, rules, length}
use Rattle.groups.proofs.ReaderLaws.{readers_grow}
use Rattle.groups.proofs.PastLaws.{past_rises}
use Rattle.groups.proofs.WalkLaws.{left_over}
use Rattle.groups.proofs.LoopLaws.{next_silent, next_found, next_past}
use Rattle.groups.proofs.smallest.SmallestIterator.next.Goals as goal

pub loop-from-preserved-then-not-reads : goal.loop-from-preserved-then-not-reads
loop-from-preserved-then-not-reads c = (
  omega arith,
  c.loop-from.invariant.1 ∙ next_silent _ _ _ (sym c.reads.ensures ∙ c.if-not-reads.true),
)

pub invariant_of-self : goal.invariant_of-self
invariant_of-self c = record {
  some = omega (arith, c.past_holders-from.ensures, past_rises c.loop-from.from);
  few = c.loop-from.self.few;
}

pub returns-then-needs_each-clause-steps : goal.returns-then-needs_each-clause-steps
returns-then-needs_each-clause-steps c =
    let s = c.loop-from.self in
    rw c.past_holders-from.ensures
    (c.loop-from.invariant.1
    ∙ next_found _ _ (readers_grow _) c.loop-from.from c.loop-from.invariant.0 c.loop-from-test.true s.few
    (sym c.reads.ensures ∙ c.if-not-reads.false) c.needs_each.ensures c.if-needs_each.true)

pub returns-then-needs_each-clause-goes : goal.returns-then-needs_each-clause-goes
returns-then-needs_each-clause-goes c =
    let e = returns-then-needs_each-clause-steps c in
    record { on = λ f. (tt, tt, omega (arith, ap length e)); keeps = search rules; rests = search rules }

pub loop-from-smaller : goal.loop-from-smaller
loop-from-smaller c =
    omega (arith, c.past_holders-from.ensures, past_rises c.loop-from.from, c.loop-from-test.true)

pub loop-from-preserved : goal.loop-from-preserved
loop-from-preserved c =
    let s = c.loop-from.self in
    let e = c.past_holders-from.ensures in (
      omega (arith, e, past_rises c.loop-from.from),
      rw e (c.loop-from.invariant.1
          ∙ next_past _ _ (readers_grow _) c.loop-from.from c.loop-from.invariant.0 c.loop-from-test.true s.few
          (sym c.reads.ensures ∙ c.if-not-reads.false) c.needs_each.ensures c.if-needs_each.false),
    )

pub returns-clause-steps : goal.returns-clause-steps
returns-clause-steps c =
    let none = left_over _ _ _ c.loop-from-test.false in
    (c.loop-from.invariant.1 ∙ none, none)

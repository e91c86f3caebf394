use Rattle.std.proofs.Common.{sym, ◌∙◌, arith, rules, below_more}
use Rattle.groups.proofs.SmallestLaws.{needs_all, not_needs}
use Rattle.groups.proofs.smallest.needs_each.Goals as goal

pub returns-then-reads_without : goal.returns-then-reads_without
returns-then-reads_without c =
    not_needs _ _ c.loop-p.p (search rules) (sym c.reads_without.ensures ∙ c.if-reads_without.true)

pub loop-p-preserved : goal.loop-p-preserved
loop-p-preserved c =
    below_more _ _ c.loop-p.invariant (sym c.reads_without.ensures ∙ c.if-reads_without.false)

pub returns : goal.returns
returns c = needs_all _ _ (λ k l. c.loop-p.invariant k (omega arith))

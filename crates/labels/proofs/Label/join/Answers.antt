-- Each place holds the join's sets.
use Rattle.std.proofs.Common.{rules, tests}
use Rattle.labels.specs.Labels.{join_of}
use Rattle.labels.proofs.OrderLaws.{label_path}
use Rattle.labels.proofs.RowLaws.{made_tab}
use Rattle.labels.proofs.Label.join.Goals as goal

pub returns : goal.returns
unfolding join_of
returns c =
    label_path _ _
    (made_tab _ _ _ _ (λ o y q l k. search (rules, tests)) _ c.from_fn.ensures.items)
    (made_tab _ _ _ _ (λ o y q l k. search (rules, tests)) _ c.from_fn-2.ensures.items)

use Rattle.std.proofs.Common.{rules, tests}
use Rattle.labels.proofs.RowLaws.{made_tab}
use Rattle.labels.proofs.filled_up.Goals as goal

pub returns : goal.returns
returns c = made_tab _ _ _ _ (λ i y q l k. search (rules, tests)) _ c.from_fn.ensures.items

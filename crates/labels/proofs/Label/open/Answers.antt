-- Each place holds the open label's writers.
use Rattle.std.proofs.Common.{rules, tests, refl, sym, ◌∙◌}
use Rattle.sets.proofs.Walks.{by_below}
use Rattle.sets.specs.Sets.{single, tab}
use Rattle.labels.specs.Labels.{own, open_of}
use Rattle.labels.proofs.OrderLaws.{label_path}
use Rattle.labels.proofs.PartLaws.{own_at}
use Rattle.labels.proofs.EffectiveLaws.{open_principal, open_other}
use Rattle.labels.proofs.RowLaws.{made_tab}
use Rattle.labels.proofs.Label.open.Goals as goal

pub returns : goal.returns
unfolding open_of own tab single
returns c =
    let a = c.args in
    label_path _ _ refl
    (made_tab _ _ _ _
    (λ o y q l k. (
      search (rules, tests),
      by_below o a.n
          (λ m. search (rules, tests) ∙ sym (open_principal a.n a.all o m))
          (λ m. search (rules, tests) ∙ own_at o (search rules) ∙ sym (open_other a.n a.all o m)),
    ))
    _ c.from_fn.ensures.items)

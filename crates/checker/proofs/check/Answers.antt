-- `checker::check` meets its contract.
use mathlib.Core.Path.{refl}
use borrow.Author.Rules.{rules}
use Rattle.checker.proofs.Verdicts.{check-answers, check_keeps, start-member}
use Rattle.checker.proofs.check.Goals as goal

pub returns : goal.returns
returns c =
    let a = c.args in (
      check-answers a.code.now a.table.now _ (start-member a.start _ _ c.map_or-pc.ensures (λ l h. search rules))
          c.none.ensures.within c.none.ensures.none c.check_cmd-x.ensures c.verdict.ensures,
      check_keeps a.code.now a.table.now c.none.ensures.within c.none.ensures.none c.check_cmd-x.ensures refl,
    )

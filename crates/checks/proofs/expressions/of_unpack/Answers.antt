-- Where C alone doesn't flow, the whole doesn't either.
use mathlib.Core.Path.{◌≡◌, sym, ◌∙◌}
use borrow.Author.Rules.{rules}
use Rattle.logic.specs.Booleans.{both}
use Rattle.logic.proofs.BooleanLaws.{not_so, fails}
use Rattle.members.specs.Internal.Members.{whole_flows}
use Rattle.members.proofs.FlowLaws.{whole_confidentiality}
use Rattle.checks.proofs.expressions.of_unpack.Goals as goal
use Rattle.checks.proofs.expressions.of_unpack.Goals.{then-flow, else-flow}

pub returns : goal.returns
unfolding both
returns c =
    let a = c.args in
    let t = a.table.now in
    let C = c.confidentiality_flows-flow.ensures in
    let keeping : c.if-flow.keeping ≡ whole_flows t a.x.label a.l = elim c.if-flow.branch [
      | then-flow w ↦ w.keeping-is ∙ w.whole_flows-keeping.ensures
      | else-flow w ↦ w.keeping-is ∙ w.if-flow.false
          ∙ sym (not_so _ (λ h. fails (sym C ∙ w.if-flow.false) (whole_confidentiality t a.x.label a.l h)))
    ] in
    search rules

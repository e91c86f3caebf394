-- The order is one test of the readers, as that of C, and one of the writers.
use Rattle.std.proofs.Common.{sym, ◌∙◌}
use Rattle.logic.proofs.BooleanLaws.{both_no_left, both_yes_left}
use Rattle.labels.proofs.OrderLaws.{below_split}
use Rattle.labels.proofs.PartLaws.{c_below_readers}
use Rattle.labels.proofs.Label.at_or_below.Goals as goal

pub returns-then-confidentiality_at_or_below : goal.returns-then-confidentiality_at_or_below
returns-then-confidentiality_at_or_below c =
    let a = c.args.self in
    let b = c.args.other in
    let readers = sym (c_below_readers a b) ∙ sym c.confidentiality_at_or_below.ensures in
    c.contained_each.ensures
    ∙ sym (below_split a b ∙ both_yes_left _ _ (readers ∙ c.if-confidentiality_at_or_below.true))

pub returns-else-confidentiality_at_or_below : goal.returns-else-confidentiality_at_or_below
returns-else-confidentiality_at_or_below c =
    let a = c.args.self in
    let b = c.args.other in
    let no = c.if-confidentiality_at_or_below.false in
    let readers = sym (c_below_readers a b) ∙ sym c.confidentiality_at_or_below.ensures in
    no ∙ sym (below_split a b ∙ both_no_left _ _ (readers ∙ no))

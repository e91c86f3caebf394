-- C's order is the test of the readers.
use Rattle.std.proofs.Common.{sym, ◌∙◌}
use Rattle.labels.proofs.PartLaws.{c_below_readers}
use Rattle.labels.proofs.Label.confidentiality_at_or_below.Goals as goal

pub returns : goal.returns
returns c = c.contained_each.ensures ∙ sym (c_below_readers c.args.self c.args.other)

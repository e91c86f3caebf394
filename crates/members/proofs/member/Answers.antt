use mathlib.Core.Path.{sym, ap₂, ◌∙◌}
use native.Mathlib.Omega.{arith}
use Rattle.labels.specs.Labels.{integrity_of}
use Rattle.members.proofs.MemberLaws.{member-label, member_integrity}
use Rattle.members.proofs.member.Goals as goal

pub returns-then-p-lt-LABELS : goal.returns-then-p-lt-LABELS
returns-then-p-lt-LABELS c =
    let a = c.args in
    c.label_of.ensures ∙ sym (member-label a.table.now a.p (omega arith))

pub returns : goal.returns
returns c =
    let a = c.args in
    c.integrity.ensures ∙ ap₂ integrity_of c.everyone.ensures c.label_of-label.ensures
    ∙ sym (member_integrity a.table.now a.p (omega arith))

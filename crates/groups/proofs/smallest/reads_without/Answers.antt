-- A member's group is met by those that have it, and is then a part of them.
use Rattle.std.proofs.Common.{◌∙◌}
use Rattle.groups.specs.Internal.Readers.{reads_by}
use Rattle.groups.proofs.SmallestLaws.{no_member, member_le, its_member}
use Rattle.groups.proofs.smallest.reads_without.Goals as goal

pub overflow_sub-group : goal.overflow_sub-group
overflow_sub-group c =
    member_le (reads_by c.args.readers.now) _ _ _ c.single-member.ensures c.requires _ c.meets.ensures c.if-meets.true

pub returns-then-meets : goal.returns-then-meets
returns-then-meets c =
    c.reads.ensures
    ∙ its_member (reads_by c.args.readers.now) _ _ _ c.single-member.ensures c.requires _ c.meets.ensures
    c.if-meets.true

pub returns-else-meets : goal.returns-else-meets
returns-else-meets c =
    let no = c.if-meets.false in
    no ∙ no_member (reads_by c.args.readers.now) _ _ _ c.single-member.ensures c.requires _ c.meets.ensures no

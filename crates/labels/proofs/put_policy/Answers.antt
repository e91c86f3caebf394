-- The owner's two sets are stored; where there is no place for them the table stays.
use Rattle.std.proofs.Common.{◌+◌, ◌≤◌, length, rules, arith, sym, ◌∙◌}
use Rattle.sets.specs.Sets.{width}
use Rattle.sets.proofs.SetLaws.{restrict_single}
use Rattle.labels.specs.Internal.Tables.{label_size}
use Rattle.labels.proofs.TableLaws.{put-short, put-policy, put-policy_past}
use Rattle.labels.proofs.put_policy.Goals as goal
use Rattle.labels.proofs.put_policy.Goals.{else-there-via-then-there+else-owner-lt-OWNERS, else-there-via-else-there}

pub returns-then-owner-lt-OWNERS : goal.returns-then-owner-lt-OWNERS
returns-then-owner-lt-OWNERS c =
    let a = c.args in
    let room : a.at + label_size ≤ length a.table.now = search rules in
    let own = c.single-own.ensures ∙ restrict_single width a.owner (omega arith) in
    rw (c.union.ensures, c.union-then-owner-lt-OWNERS.ensures, own)
    (sym (put-policy a.table.now a.at room a.owner a.readers a.writers (omega arith)))

pub returns-else-there : goal.returns-else-there
returns-else-there c =
    let a = c.args in
    elim c.else-there.branch [
      | else-there-via-then-there+else-owner-lt-OWNERS w ↦
          sym (put-policy_past a.table.now a.at (search rules) a.owner a.readers a.writers (omega arith))
      | else-there-via-else-there w ↦ sym (put-short a.table.now a.at _ (search rules))
    ]

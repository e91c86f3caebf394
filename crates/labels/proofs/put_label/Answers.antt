-- Two rows are stored, the readers and then the writers.
use Rattle.std.proofs.Common.{ℕ, ◌≡◌, ◌+◌, ◌≤◌, List, length, rules, arith, sym, ap, ◌∙◌}
use Rattle.std.proofs.Math.Seq.{paste}
use Rattle.std.proofs.lemmas.Slice.{put_mid-paste}
use Rattle.labels.specs.Labels.{owners}
use Rattle.labels.specs.Internal.Tables.{label_size}
use Rattle.labels.proofs.OrderLaws.{whole_intro}
use Rattle.labels.proofs.TableLaws.{put-short, put_rows}
use Rattle.labels.proofs.put_label.Goals as goal

pub returns-then-there : goal.returns-then-there
returns-then-there c =
    let a = c.args in
    let t = a.table.now in
    let r : length a.label.readers ≡ owners = search rules in
    let w : length a.label.writers ≡ owners = search rules in
    let room : a.at + label_size ≤ length t = search rules in
    put_mid-paste (a.at + owners) _ _ _ a.label.writers owners c.copy_from_slice-then-there.ensures.after (omega arith)
    (sym w)
    ∙ ap (λ (x : List ℕ). paste x (a.at + owners) a.label.writers owners)
    (put_mid-paste a.at _ t _ a.label.readers owners c.copy_from_slice.ensures.after (omega arith) (sym r))
    ∙ put_rows t a.at a.label (whole_intro a.label r w) room

pub returns-else-there : goal.returns-else-there
returns-else-there c = sym (put-short c.args.table.now c.args.at c.args.label (search rules))

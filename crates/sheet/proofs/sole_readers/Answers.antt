use Rattle.std.proofs.Common.{rules, ◌≡◌, refl, sym, ap₂, ◌∙◌}
use Rattle.sets.proofs.Walks.{by_below}
use Rattle.labels.specs.Internal.Tables.{label_at}
use Rattle.labels.specs.Internal.Sole.{sole_readers_of}
use Rattle.labels.specs.Labels.{bottom_of}
use Rattle.sheet.specs.Internal.Tables.{labels_in, everyone_in, label_place}
use Rattle.sheet.proofs.Entries.{label_there, label_past}
use Rattle.sheet.proofs.sole_readers.Goals as goal

pub returns : goal.returns
unfolding sole_readers_of label_at
returns c =
    let t = c.args.table.now in
    let l = c.args.l in
    by_below l (labels_in t)
    (λ h.
    let e : c.of_label.result ≡ sole_readers_of c.principals.result (label_at t (label_place l)) =
    search (rules, c.of_label.ensures.there h) in
    e ∙ ap₂ sole_readers_of c.principals.ensures (sym (label_there t l refl h)))
    (λ h.
    let e : c.of_label.result ≡ sole_readers_of c.principals.result (bottom_of (everyone_in t)) =
    search (rules, c.of_label.ensures.past h) in
    e ∙ ap₂ sole_readers_of c.principals.ensures (sym (label_past t l refl refl h)))

use Rattle.std.proofs.Common.{◌≡◌, ◌-◌, arith, ◌∙◌}
use Rattle.logic.specs.Booleans.{either}
use Rattle.labels.specs.Internal.Tables.{label_size}
use Rattle.sheet.specs.Internal.Tables.{types_in, labels_in}
use Rattle.sheet_text.specs.Internal.Repeats.{comes_again, repeats_in}
use Rattle.sheet_text.proofs.RepeatFinds.{comes_found}
use Rattle.sheet_text.proofs.repeat.repeats.Goals as goal

pub returns-then-repeated : goal.returns-then-repeated
unfolding repeats_in either
returns-then-repeated c =
    let t = c.args.table.now in
    let types : c.repeated.result ≡ comes_again 2 (types_in t - 3) 14 t =
    c.repeated.ensures ∙ comes_found 2 (types_in t - 3) _ 14 _ t c.as_chunks.ensures.front c.parts_place.ensures
    (omega arith) (omega arith) (omega arith) in
    rw (← types, c.if-repeated.true)

pub returns-else-repeated : goal.returns-else-repeated
unfolding repeats_in either
returns-else-repeated c =
    let t = c.args.table.now in
    let types : c.repeated.result ≡ comes_again 2 (types_in t - 3) 14 t =
    c.repeated.ensures ∙ comes_found 2 (types_in t - 3) _ 14 _ t c.as_chunks.ensures.front c.parts_place.ensures
    (omega arith) (omega arith) (omega arith) in
    let labels : c.repeated-else-repeated.result ≡ comes_again label_size (labels_in t) 200 t =
    c.repeated-else-repeated.ensures
    ∙ comes_found label_size (labels_in t) _ 200 _ t c.as_chunks-else-repeated.ensures.front c.label_place.ensures
    (omega arith) (omega arith) (omega arith) in
    rw (← types, c.if-repeated.false, labels)

use Rattle.std.proofs.Common.{arith}
use Rattle.memory_text.proofs.Writes.{field_goes, fields_done, goes_done, goes_same}
use Rattle.memory_text.proofs.write.put_fields.Goals as goal

pub loop-w-preserved : goal.loop-w-preserved
loop-w-preserved c =
    let l = c.loop-w in
    let w = field_goes _ c.args.words.now l.w-index _ _ l.out l.p _ _ _ _ l.invariant.goes
    c.put_byte-q.ensures.value c.put_byte-q.ensures.out_after c.put_number-p.ensures.value
    c.put_number-p.ensures.out_after c.put_byte-q.auto.out c.loop-w-test.true
    (omega (arith, c.type_inv.words l.w-index)) (omega arith) in
    record { short = omega (arith, w.1); goes = w.0 }

pub returns : goal.returns
returns c =
    let l = c.loop-w in
    let e = fields_done c.args.words.now l.w-index c.loop-w-test.false in
    goes_done _ _ _ _ _ _ (goes_same _ _ _ _ _ _ l.invariant.goes (λ t. t) e) (omega arith)

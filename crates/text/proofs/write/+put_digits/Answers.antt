-- `text::write::put_digits` meets its contract.
use Rattle.std.proofs.Common.{arith}
use Rattle.text.proofs.Writings.{length_low, length_more, sets_low, sets_more}
use Rattle.text.proofs.write.+put_digits.Goals as goal

pub bounds-out-at : goal.bounds-out-at
bounds-out-at t c = omega (arith, length_low c.args.v c.if-v-lt10.true)

pub returns-then-v-lt10 : goal.returns-then-v-lt10
returns-then-v-lt10 t c = record {
  value = omega (arith, length_low c.args.v c.if-v-lt10.true);
  out_after = sets_low _ _ _ c.if-v-lt10.true;
}

pub put_digits-p-requires : goal.put_digits-p-requires
put_digits-p-requires t c = (omega arith, omega (arith, length_more c.args.v c.if-v-lt10.false))

pub bounds-out-p : goal.bounds-out-p
bounds-out-p t c = omega (arith, length_more c.args.v c.if-v-lt10.false)

pub overflow_add-result-2 : goal.overflow_add-result-2
overflow_add-result-2 t c = omega (arith, length_more c.args.v c.if-v-lt10.false)

pub returns : goal.returns
returns t c = record {
  value = omega (arith, length_more c.args.v c.if-v-lt10.false);
  out_after = rw (c.put_digits-p.ensures.value, c.put_digits-p.ensures.out_after)
      (sets_more _ _ _ c.if-v-lt10.false);
}

-- `text::write::put_number` meets its contract.
use Rattle.std.proofs.Common.{sym, ◌∙◌, arith}
use Rattle.text.proofs.Writings.{written_fits, reached_fits, written_none, reached_none, length_positive}
use Rattle.text.proofs.write.put_number.Goals as goal

pub returns-then-saturating_sub-width : goal.returns-then-saturating_sub-width
returns-then-saturating_sub-width c = record {
  value = sym (reached_none _ _ _ (omega (arith, length_positive c.args.v)));
  out_after = sym (written_none _ _ _ (omega (arith, length_positive c.args.v)));
}

pub put_digits-requires : goal.put_digits-requires
put_digits-requires c = omega (arith, length_positive c.args.v)

pub returns : goal.returns
returns c = record {
  value = c.put_digits.ensures.value ∙ sym (reached_fits _ _ _ (omega (arith, length_positive c.args.v)));
  out_after = c.put_digits.ensures.out_after ∙ sym (written_fits _ _ _ (omega (arith, length_positive c.args.v)));
}

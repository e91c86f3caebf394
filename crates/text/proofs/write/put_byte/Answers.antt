-- `text::write::put_byte` meets its contract.
use Rattle.std.proofs.Common.{sym, arith}
use Rattle.text.proofs.Writings.{written_fits, reached_fits, written_none, reached_none}
use Rattle.text.proofs.write.put_byte.Goals as goal

pub returns-then-out-at : goal.returns-then-out-at
returns-then-out-at c = record {
  value = sym (reached_none _ _ _ (omega arith));
  out_after = sym (written_none _ _ _ (omega arith));
}

pub returns : goal.returns
returns c = record {
  value = sym (reached_fits _ _ _ (omega arith));
  out_after = sym (written_fits _ _ _ (omega arith));
}

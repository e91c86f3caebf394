-- `1 << p` is {p}; of a p past the last bit nothing is left.
use Rattle.std.proofs.Common.{sym, ◌∙◌, arith}
use Rattle.sets.specs.Sets.{width}
use Rattle.sets.proofs.SetLaws.{restrict_single, restrict_single_out, shl_one}
use Rattle.sets.proofs.single.Goals as goal

pub returns-then-p-ge-WIDTH : goal.returns-then-p-ge-WIDTH
returns-then-p-ge-WIDTH c = sym (restrict_single_out width c.args.p (omega arith))

pub returns : goal.returns
returns c = shl_one width c.args.p (omega arith) ∙ sym (restrict_single width c.args.p (omega arith))

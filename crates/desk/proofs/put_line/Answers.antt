use Rattle.std.proofs.Common.{arith}
use Rattle.desk.proofs.Outputs.{line_puts}
use Rattle.desk.proofs.put_line.Goals as goal

pub returns : goal.returns
returns c =
    line_puts c.args.out.now c.args.n _ _ _ _ c.put_number-p.ensures.value c.put_number-p.ensures.out_after
    c.put_byte.ensures.value c.put_byte.ensures.out_after c.put_number-p.auto.out
    (omega (arith, c.ranges.n.fits)) c.requires

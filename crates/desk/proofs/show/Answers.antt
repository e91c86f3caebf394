use Rattle.std.proofs.Common.{arith}
use Rattle.desk.specs.Show.{show_of}
use Rattle.desk.proofs.Outputs.{put_all, put_none}
use Rattle.desk.proofs.Givens.{given_whole}
use Rattle.desk.proofs.show.Goals as goal

pub returns-then-out-lt-OUTPUT_ROOM : goal.returns-then-out-lt-OUTPUT_ROOM
returns-then-out-lt-OUTPUT_ROOM c =
    let p = put_none c.args.out.now _ c.if-out-lt-OUTPUT_ROOM.true in record { value = p.0; out_after = p.1 }

pub show_given-requires : goal.show_given-requires
show_given-requires c = (given_whole _ _ _ c.read_given.ensures, omega (arith, c.if-out-lt-OUTPUT_ROOM.false))

pub returns : goal.returns
unfolding show_of
returns c =
    let p = put_all c.args.out.now _ _ _ c.if-out-lt-OUTPUT_ROOM.false
    (rw (← c.read_given.ensures) c.show_given.ensures) in
    record { value = p.0; out_after = p.1 }

-- What the buffer holds of the input is what the output is made of.
use Rattle.desk.proofs.Parts.{put-shown}
use Rattle.show.proofs.show_stdin.Goals as goal

pub returns : goal.returns
returns g c =
    let i = c.read_texts-state.ensures in
    let o = c.show_input.ensures in
    put-shown i.0 _ _ i.1 c.args.out.now _ _ (o.value, o.out_after)

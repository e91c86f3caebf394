use Rattle.desk.specs.Inputs.{show_texts, show_held}
use Rattle.desk.proofs.show_input.Goals as goal

pub returns : goal.returns
unfolding show_held show_texts
returns c =
    rw (← c.text_in-sheet.ensures, ← c.text_in-memory.ensures, ← c.text_in-group.ensures) c.show.ensures

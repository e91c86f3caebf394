-- What is shown of the output of the program show.
use Rattle.std.specs.Prelude.{ℕ, ◌*◌, ◌≤◌, ◌≡◌, ◌↔◌, List, Some, length, take}
use Rattle.numbers.specs.Rows.{numbers}
use Rattle.numbers.specs.Calls.{AnswerBy}
use Rattle.simp.specs.Judgements.{view_rows}
use Rattle.parts.specs.Parts.{keep}
use Rattle.parts.specs.Feeding.{beginning, held, fed}
use Rattle.desk.specs.Fields.{group_of}
use Rattle.desk.specs.Numbers.{order}
use Rattle.desk.specs.Show.{show_of}
use Rattle.desk.specs.Order.{IsGroup, show_table}
use Rattle.desk.specs.Inputs.{shown_for, show_held}

-- a group is four digits and byte 10
abbrev pub GroupExact : Type 0
GroupExact = (t : List ℕ) (g : ℕ) → (group_of t ≡ Some g) ↔ IsGroup t g

-- The list by which show orders the refusals is the order of a view's table.
abbrev pub SameOrder : Type 0
SameOrder = (sheet memory : List ℕ) (group : ℕ) (view : List ℕ) → order ≡ numbers (view_rows sheet memory group view)

-- Show prints exactly what its table has: the first number that applies, or the view.
abbrev pub ShowInOrder : Type 0
ShowInOrder = (sheet text group out : List ℕ)
    → (show_of sheet text group ≡ out) ↔ AnswerBy (show_table sheet text group) out

-- What is kept of the texts is enough: a text that is too long is refused as itself.
abbrev pub KeptEnough : Type 0
KeptEnough =
    (sheet text group : List ℕ)
    → show_of (take keep sheet) (take keep text) (take keep group) ≡ show_of sheet text group

-- From the input to the output: what the buffer holds of an input gives what the input gives.
abbrev pub ShowsInput : Type 0
ShowsInput =
    (buffer input : List ℕ) → 3 * keep ≤ length buffer
    → let h = fed 2 (held beginning buffer) input in
    show_held h.state h.buffer ≡ shown_for input

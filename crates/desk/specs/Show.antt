-- What the program show prints (the scope, the program show).
use Rattle.std.specs.Prelude.{ℕ, cond, List, eqb, length, replicate}
use Rattle.memory_text.specs.Printing.{memory_text}
use Rattle.stages.specs.Calls.{view_of}
use Rattle.desk.specs.declared.Given.{Given}
use Rattle.desk.specs.Numbers.{other_number, earlier, as_text}
use Rattle.desk.specs.Given.{given_of, given_words}
use Rattle.desk.specs.Output.{number_line}

-- the view as a memory text, or the number
unfoldable pub view_text : ℕ → List ℕ → List ℕ
view_text k view = cond (eqb k 0) (memory_text view) (number_line k)

-- the view of the words that are given, into a slice of zeros
unfoldable pub viewed : List ℕ → Given → List ℕ
viewed sheet g =
    let words = given_words g in
    let v = view_of sheet words g.group (replicate (length words) 0) in
    view_text (earlier (as_text v.answer) (other_number g.other)) v.view

-- show's output
unfoldable pub show_of : List ℕ → List ℕ → List ℕ → List ℕ
show_of sheet memory_text group = viewed sheet (given_of memory_text group)

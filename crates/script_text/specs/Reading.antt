-- How a script's text is read into lines: the first field decides among sixteen kinds of line, thirteen of the scope
-- and three of request (f). Ahead of them there may be an opening, `b label`, one of a script's lines (request (d)).
use Rattle.std.specs.Prelude.{cond, List, [], ◌∷◌, ℕ, ◌-◌, eqb}
use Rattle.std.proofs.Math.Option.{Option, none, some}
use Rattle.text.specs.Reading.{Read, and_then, fits}
use Rattle.text.specs.Reading.Read.{got, bad}
use Rattle.text.specs.Number.{most}
use Rattle.text.specs.Field.{number_field, line_end, last_number}
use Rattle.text.specs.Lines.{lines_up_to}
use Rattle.language.specs.Syntax.{first, second, Opening}
use Rattle.script.specs.Lines.{ScriptLine, opening_lines, l_skip, l_seq, l_assign, l_while, l_case, l_int, l_loc, l_var}
use Rattle.script.specs.Lines.{l_plus, l_left, l_right, l_pack, l_unpack, l_pair, l_proj}
use Rattle.script.specs.Names.{max_lines}
use Rattle.sheet.specs.Sheet.{max_labels}

-- The form of a kind of line: no operand, one or two numbers; or there is no such kind.
pub data Form : Type 0 where
  bare : ScriptLine → Form
  one : (ℕ → ScriptLine) → Form
  two : (ℕ → ℕ → ScriptLine) → Form
  other : Form

-- the form of the lines whose first field is the byte b
unfoldable pub form_of : ℕ → Form
form_of b =
    cond (eqb b 115) (bare l_skip)
    (cond (eqb b 59) (bare l_seq)
    (cond (eqb b 61) (one l_assign)
    (cond (eqb b 119) (bare l_while)
    (cond (eqb b 99) (bare l_case)
    (cond (eqb b 105) (one l_int)
    (cond (eqb b 120) (one l_loc)
    (cond (eqb b 118) (one l_var)
    (cond (eqb b 43) (bare l_plus)
    (cond (eqb b 108) (one l_left)
    (cond (eqb b 114) (one l_right)
    (cond (eqb b 107) (one l_pack)
    (cond (eqb b 117) (two l_unpack)
    (cond (eqb b 112) (one l_pair)
    (cond (eqb b 102) (bare (l_proj first))
    (cond (eqb b 103) (bare (l_proj second)) other)))))))))))))))

-- the rest of a line of a form: its operands and its end
unfoldable pub operands_of : Form → List ℕ → Read ScriptLine
operands_of (bare l) t = and_then (line_end t) (λ _ u. got l u)
operands_of (one f) t = and_then (last_number most t) (λ a u. got (f a) u)
operands_of (two f) t = and_then (number_field most t) (λ a u. and_then (last_number most u) (λ b w. got (f a b) w))
operands_of other t = bad

-- the line at the front of a text
unfoldable pub line_of : List ℕ → Read ScriptLine
line_of [] = bad
line_of (b ∷ t) = operands_of (form_of b) t

-- the highest number that names a label on some sheet
abbrev pub last_label : ℕ
last_label = max_labels - 1

-- the start at the front of a text: a line `b label`, or none. A number above the last label's names none on any sheet,
-- and is refused here
unfoldable pub start_read : List ℕ → Read (Option ℕ)
start_read [] = got none []
start_read (b ∷ t) = cond (eqb b 98) (and_then (last_number last_label t) (λ l u. got (some l) u)) (got none (b ∷ t))

-- the opening at the front of a text
unfoldable pub opening_of : List ℕ → Read Opening
opening_of t = and_then (start_read t) (λ x u. got (record { start = x }) u)

-- What is written in a script: its opening, and its command's lines, whatever they say.
pub record Written : Type 0 where
  pub opening : Opening
  pub lines : List ScriptLine

unfoldable pub written_with : Opening → Option (List ScriptLine) → Option Written
written_with o none = none
written_with o (some ls) = some (record { opening = o; lines = ls })

-- the lines after an opening, which with those of the opening are at most `max_lines`
unfoldable pub lines_after : Read Opening → Option Written
lines_after (got o t) = written_with o (lines_up_to line_of (max_lines - opening_lines o) t)
lines_after bad = none

-- what is written in a text that is not too long
unfoldable pub written_of : List ℕ → Option Written
written_of t = cond (fits t) (lines_after (opening_of t)) none

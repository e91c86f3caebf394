-- How a sheet's text is read into lines: the first byte of a line says what it is.
use Rattle.std.specs.Prelude.{cond, List, [], ◌∷◌, ℕ, eqb}
use Rattle.std.proofs.Math.Option.{Option}
use Rattle.text.specs.Reading.{Read, and_then}
use Rattle.text.specs.Reading.Read.{got, bad}
use Rattle.text.specs.Number.{most}
use Rattle.text.specs.Field.{number_field, set_field, line_end, last_number}
use Rattle.text.specs.Lines.{all_lines}
use Rattle.sheet_text.specs.declared.line.SheetLine.{SheetLine}
use Rattle.sheet_text.specs.declared.line.SheetLine.TheVariants.{P, R, T, Q, L, O, X}

-- what follows the letter of each line

-- one number, which makes a line by f
unfoldable pub number_rest : (ℕ → SheetLine) → List ℕ → Read SheetLine
number_rest f t = and_then (last_number most t) (λ n u. got (f n) u)

-- two numbers, which make a line by f
unfoldable pub numbers_rest : (ℕ → ℕ → SheetLine) → List ℕ → Read SheetLine
numbers_rest f t = and_then (number_field most t) (λ a u. and_then (last_number most u) (λ b v. got (f a b) v))

unfoldable pub label_rest : List ℕ → Read SheetLine
label_rest t = and_then (line_end t) (λ _ u. got L u)

unfoldable pub policy_rest : List ℕ → Read SheetLine
policy_rest t =
    and_then (number_field most t)
    (λ o u. and_then (set_field u)
    (λ r v. and_then (set_field v) (λ w x. and_then (line_end x) (λ _ y. got (O o r w) y))))

-- the line at the front of a text
unfoldable pub line_of : List ℕ → Read SheetLine
line_of [] = bad
line_of (b ∷ t) =
    cond (eqb b 80) (number_rest P t)
    (cond (eqb b 82) (number_rest R t)
    (cond (eqb b 84) (numbers_rest T t)
    (cond (eqb b 81) (numbers_rest Q t)
    (cond (eqb b 76) (label_rest t)
    (cond (eqb b 79) (policy_rest t)
    (cond (eqb b 88) (numbers_rest X t) bad))))))

-- the lines of a text
abbrev pub lines_of : List ℕ → Option (List SheetLine)
lines_of t = all_lines line_of t

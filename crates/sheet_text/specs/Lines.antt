-- The lines of a sheet, in their order, and their printed form.
use Rattle.std.specs.Prelude.{List, [], ◌∷◌, ℕ}
use Rattle.text.specs.Field.{print_number_field, print_set_field, print_line_end}
use Rattle.text.specs.Lines.{print_lines}
use Rattle.labels.specs.Labels.{Policy, policy}
use Rattle.labels.specs.declared.Rule.{Rule}
use Rattle.labels.specs.declared.Rule.TheVariants.{Pooled, Alone}
use Rattle.sheet.specs.declared.Kind.{Kind}
use Rattle.sheet.specs.declared.Kind.TheVariants.{Sum, Pair}
use Rattle.sheet.specs.Sheet.{Compound, Location, Sheet}
use Rattle.sheet_text.specs.declared.line.SheetLine.{SheetLine}
use Rattle.sheet_text.specs.declared.line.SheetLine.TheVariants.{P, R, T, Q, L, O, X}

-- `R 1` where a reader reads alone, and no line where reading is pooled, then rest
unfoldable pub rule_lines : Rule → List SheetLine → List SheetLine
rule_lines Pooled rest = rest
rule_lines Alone rest = R 1 ∷ rest

-- a line `T` or `Q`
unfoldable pub type_line : Kind → ℕ → ℕ → SheetLine
type_line Sum a b = T a b
type_line Pair a b = Q a b

unfoldable pub compound_line : Compound → SheetLine
compound_line x = type_line x.kind x.left x.right

unfoldable pub policy_line : Policy → SheetLine
policy_line (policy o r w) = O o r w

unfoldable pub location_line : Location → SheetLine
location_line x = X x.type x.label

-- a line for each element, then rest
unfoldable pub each : {A : Type 0} → (A → SheetLine) → List A → List SheetLine → List SheetLine
each line [] rest = rest
each line (x ∷ xs) rest = line x ∷ each line xs rest

-- each label is `L` followed by its policies
unfoldable pub label_lines : List (List Policy) → List SheetLine → List SheetLine
label_lines [] rest = rest
label_lines (ps ∷ pss) rest = L ∷ each policy_line ps (label_lines pss rest)

-- the lines of a sheet, then rest
unfoldable pub lines_then : Sheet → List SheetLine → List SheetLine
lines_then s rest =
    P s.principals
    ∷ rule_lines s.rule
    (each compound_line s.compounds (label_lines s.labels (each location_line s.locations rest)))

unfoldable pub sheet_lines : Sheet → List SheetLine
sheet_lines s = lines_then s []

-- the bytes of a line, then rest: the letter, the fields, each after a tab, and byte 10
unfoldable pub line_bytes : SheetLine → List ℕ → List ℕ
line_bytes (P n) rest = 80 ∷ print_number_field n (print_line_end rest)
line_bytes (R k) rest = 82 ∷ print_number_field k (print_line_end rest)
line_bytes (T a b) rest = 84 ∷ print_number_field a (print_number_field b (print_line_end rest))
line_bytes (Q a b) rest = 81 ∷ print_number_field a (print_number_field b (print_line_end rest))
line_bytes L rest = 76 ∷ print_line_end rest
line_bytes (O o r w) rest = 79 ∷ print_number_field o (print_set_field r (print_set_field w (print_line_end rest)))
line_bytes (X t l) rest = 88 ∷ print_number_field t (print_number_field l (print_line_end rest))

-- the printed form of a sheet
unfoldable pub sheet_bytes : Sheet → List ℕ
sheet_bytes s = print_lines line_bytes (sheet_lines s)

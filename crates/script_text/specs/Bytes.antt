-- The printed form of a script: on each line the byte of its kind, then its operands, each after a tab, then byte 10;
-- the opening first.
use Rattle.std.specs.Prelude.{List, [], ◌∷◌, ℕ}
use Rattle.std.proofs.Math.Option.{Option, none, some}
use Rattle.text.specs.Field.{print_number_field, print_line_end}
use Rattle.text.specs.Lines.{print_lines}
use Rattle.language.specs.Syntax.{pick, Opening, Script}
use Rattle.script.specs.Lines.{ScriptLine, cmd_lines, l_skip, l_seq, l_assign, l_while, l_case, l_int, l_loc, l_var}
use Rattle.script.specs.Lines.{l_plus, l_left, l_right, l_pack, l_unpack, l_pair, l_proj}

-- The bytes of a line, then rest. The kinds are s ; = w c i x v + l r k u p f g.
unfoldable pub line_bytes : ScriptLine → List ℕ → List ℕ
line_bytes l_skip rest = 115 ∷ print_line_end rest
line_bytes l_seq rest = 59 ∷ print_line_end rest
line_bytes (l_assign x) rest = 61 ∷ print_number_field x (print_line_end rest)
line_bytes l_while rest = 119 ∷ print_line_end rest
line_bytes l_case rest = 99 ∷ print_line_end rest
line_bytes (l_int n) rest = 105 ∷ print_number_field n (print_line_end rest)
line_bytes (l_loc x) rest = 120 ∷ print_number_field x (print_line_end rest)
line_bytes (l_var d) rest = 118 ∷ print_number_field d (print_line_end rest)
line_bytes l_plus rest = 43 ∷ print_line_end rest
line_bytes (l_left t) rest = 108 ∷ print_number_field t (print_line_end rest)
line_bytes (l_right t) rest = 114 ∷ print_number_field t (print_line_end rest)
line_bytes (l_pack l) rest = 107 ∷ print_number_field l (print_line_end rest)
line_bytes (l_unpack t l) rest = 117 ∷ print_number_field t (print_number_field l (print_line_end rest))
line_bytes (l_pair t) rest = 112 ∷ print_number_field t (print_line_end rest)
line_bytes (l_proj p) rest = pick p 102 103 ∷ print_line_end rest

-- the bytes of a command's lines
abbrev pub lines_bytes : List ScriptLine → List ℕ
lines_bytes ls = print_lines line_bytes ls

-- The bytes of a start, and of an opening with it, then rest (request (d)). Its line begins with byte 98, b.
unfoldable pub start_bytes : Option ℕ → List ℕ → List ℕ
start_bytes none rest = rest
start_bytes (some l) rest = 98 ∷ print_number_field l (print_line_end rest)

abbrev pub opening_bytes : Opening → List ℕ → List ℕ
opening_bytes o rest = start_bytes o.start rest

-- the bytes of a script
abbrev pub script_bytes : Script → List ℕ
script_bytes p = opening_bytes p.opening (lines_bytes (cmd_lines p.command []))

-- What stands from a line on: an expression or a command; and how many of them follow a line of a kind.
use Rattle.std.specs.Prelude.{List, [], ◌∷◌, ℕ, get_or}
use Rattle.language.specs.Syntax.{Expr, Cmd}
use Rattle.script.specs.Lines.{ScriptLine, SourceE, Source, expr_lines, cmd_lines}

pub data Sort : Type 0 where
  expression command : Sort

abbrev pub Tree : Sort → Type 0
Tree expression = Expr
Tree command = Cmd

abbrev pub SourceOf : (s : Sort) → Tree s → Type 0
SourceOf expression = SourceE
SourceOf command = Source

abbrev pub lines_of : (s : Sort) → Tree s → List ScriptLine → List ScriptLine
lines_of expression = expr_lines
lines_of command = cmd_lines

-- The lines of one expression or command, then the rest.
pub data Piece : List ScriptLine → List ScriptLine → Type 0 where
  an_expression : {e : Expr} {rest : List ScriptLine} → SourceE e → Piece (expr_lines e rest) rest
  a_command : {c : Cmd} {rest : List ScriptLine} → Source c → Piece (cmd_lines c rest) rest

-- how many operands follow a line of each kind, by its number; 4 for a number that is no kind
abbrev pub operand_counts : List ℕ
operand_counts = 4 ∷ 0 ∷ 2 ∷ 1 ∷ 2 ∷ 3 ∷ 0 ∷ 0 ∷ 0 ∷ 2 ∷ 1 ∷ 1 ∷ 1 ∷ 1 ∷ 2 ∷ 1 ∷ 1 ∷ []

unfoldable pub operand_count : ℕ → ℕ
operand_count kind = get_or operand_counts kind 4

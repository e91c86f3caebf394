-- From lines to the command: "A script is one command in prefix order, operands following their line."
-- The lines are taken from the last to the first, over a stack of what stands complete.
use Rattle.std.specs.Prelude.{List, [], ◌∷◌}
use Rattle.std.proofs.Math.Option.{Option, none, some}
use Rattle.language.specs.Syntax.{int, Expr, val, loc, var, plus, left, right, pack, unpack, pairing, proj, Cmd, skip}
use Rattle.language.specs.Syntax.{seq, assign, while, case}
use Rattle.script.specs.Lines.{ScriptLine, l_skip, l_seq, l_assign, l_while, l_case, l_int, l_loc, l_var, l_plus}
use Rattle.script.specs.Lines.{l_left, l_right, l_pack, l_unpack, l_pair, l_proj}

pub data Tree : Type 0 where
  ex : Expr → Tree
  cm : Cmd → Tree

abbrev pub Stack : Type 0
Stack = List Tree

-- an expression on top of the stack, and what to do with it and the rest
unfoldable pub pop_e : Stack → (Expr → Stack → Option Stack) → Option Stack
pop_e [] k = none
pop_e (ex e ∷ st) k = k e st
pop_e (cm c ∷ st) k = none

-- a command likewise
unfoldable pub pop_c : Stack → (Cmd → Stack → Option Stack) → Option Stack
pop_c [] k = none
pop_c (ex e ∷ st) k = none
pop_c (cm c ∷ st) k = k c st

-- a line takes its operands from the stack and leaves its expression or command there
unfoldable pub on_stack : ScriptLine → Stack → Option Stack
on_stack l_skip st = some (cm skip ∷ st)
on_stack l_seq st = pop_c st (λ a u. pop_c u (λ b w. some (cm (seq a b) ∷ w)))
on_stack (l_assign x) st = pop_e st (λ e u. some (cm (assign x e) ∷ u))
on_stack l_while st = pop_e st (λ e u. pop_c u (λ c w. some (cm (while e c) ∷ w)))
on_stack l_case st = pop_e st (λ e u. pop_c u (λ a w. pop_c w (λ b z. some (cm (case e a b) ∷ z))))
on_stack (l_int n) st = some (ex (val (int n)) ∷ st)
on_stack (l_loc x) st = some (ex (loc x) ∷ st)
on_stack (l_var d) st = some (ex (var d) ∷ st)
on_stack l_plus st = pop_e st (λ a u. pop_e u (λ b w. some (ex (plus a b) ∷ w)))
on_stack (l_left t) st = pop_e st (λ a u. some (ex (left t a) ∷ u))
on_stack (l_right t) st = pop_e st (λ a u. some (ex (right t a) ∷ u))
on_stack (l_pack l) st = pop_e st (λ a u. some (ex (pack l a) ∷ u))
on_stack (l_unpack t l) st = pop_e st (λ a u. some (ex (unpack t l a) ∷ u))
on_stack (l_pair t) st = pop_e st (λ a u. pop_e u (λ b w. some (ex (pairing t a b) ∷ w)))
on_stack (l_proj p) st = pop_e st (λ a u. some (ex (proj p a) ∷ u))

unfoldable pub push_on : ScriptLine → Option Stack → Option Stack
push_on l none = none
push_on l (some st) = on_stack l st

unfoldable pub stack_of : List ScriptLine → Option Stack
stack_of [] = some []
stack_of (l ∷ ls) = push_on l (stack_of ls)

-- one command, and nothing beside it
unfoldable pub only_command : Option Stack → Option Cmd
only_command none = none
only_command (some []) = none
only_command (some (ex e ∷ st)) = none
only_command (some (cm c ∷ [])) = some c
only_command (some (cm c ∷ x ∷ st)) = none

unfoldable pub parse : List ScriptLine → Option Cmd
parse ls = only_command (stack_of ls)

-- Parsing and printing in prefix order are inverse.
use mathlib.Core.Path.{◌≡◌, refl, ap, ◌∙◌}
use mathlib.Core.List.{List, [], ◌∷◌}
use mathlib.Core.Option.{Option, none, some}
use Prim.Native.Nat.{ℕ}
use Rattle.logic.proofs.OptionLaws.{none_some, some_path}
use Rattle.language.specs.Syntax.{Expr, plus, left, right, pack, unpack, pairing, proj, Cmd, seq, assign, while, case}
use Rattle.script.specs.Lines.{ScriptLine, l_skip, l_seq, l_assign, l_while, l_case, l_int, l_loc, l_var, l_plus}
use Rattle.script.specs.Lines.{l_left, l_right, l_pack, l_unpack, l_pair, l_proj, SourceE, s_int, s_loc, s_var, s_plus}
use Rattle.script.specs.Lines.{s_left, s_right, s_pack, s_unpack, s_pair, s_proj, Source, s_skip, s_seq, s_assign}
use Rattle.script.specs.Lines.{s_while, s_case, integer_of, expr_lines, cmd_lines}
use Rattle.script_text.specs.Internal.Parse.{Tree, ex, cm, Stack, pop_e, pop_c, on_stack, push_on, stack_of}
use Rattle.script_text.specs.Internal.Parse.{only_command, parse}

-- ---- the lines of a tree leave the tree on the stack

-- a tree on top, if there is a stack
topped : Tree → Option Stack → Option Stack
topped x none = none
topped x (some st) = some (x ∷ st)

module _ (l : ScriptLine) (t : Tree) where
  push_0 : (o : Option Stack) → ((st : Stack) → on_stack l st ≡ some (t ∷ st)) → push_on l o ≡ topped t o
  unfolding push_on topped
  push_0 none h = refl
  push_0 (some st) h = h st

  push_1 : (x : Tree) (o : Option Stack) → ((st : Stack) → on_stack l (x ∷ st) ≡ some (t ∷ st))
      → push_on l (topped x o) ≡ topped t o
  unfolding push_on topped
  push_1 x none h = refl
  push_1 x (some st) h = h st

  push_2 : (x y : Tree) (o : Option Stack) → ((st : Stack) → on_stack l (x ∷ y ∷ st) ≡ some (t ∷ st))
      → push_on l (topped x (topped y o)) ≡ topped t o
  unfolding push_on topped
  push_2 x y none h = refl
  push_2 x y (some st) h = h st

  push_3 : (x y z : Tree) (o : Option Stack) → ((st : Stack) → on_stack l (x ∷ y ∷ z ∷ st) ≡ some (t ∷ st))
      → push_on l (topped x (topped y (topped z o))) ≡ topped t o
  unfolding push_on topped
  push_3 x y z none h = refl
  push_3 x y z (some st) h = h st

stack_expr : {e : Expr} (rest : List ScriptLine) → SourceE e
    → stack_of (expr_lines e rest) ≡ topped (ex e) (stack_of rest)
unfolding stack_of expr_lines on_stack pop_e integer_of
stack_expr rest s_int = push_0 _ _ _ (λ st. refl)
stack_expr rest s_loc = push_0 _ _ _ (λ st. refl)
stack_expr rest s_var = push_0 _ _ _ (λ st. refl)
stack_expr rest (s_plus {b = b} s r) =
    rw (stack_expr (expr_lines b rest) s, stack_expr rest r) (push_2 _ _ _ _ _ (λ st. refl))
stack_expr rest (s_left s) = rw (stack_expr rest s) (push_1 _ _ _ _ (λ st. refl))
stack_expr rest (s_right s) = rw (stack_expr rest s) (push_1 _ _ _ _ (λ st. refl))
stack_expr rest (s_pack s) = rw (stack_expr rest s) (push_1 _ _ _ _ (λ st. refl))
stack_expr rest (s_unpack s) = rw (stack_expr rest s) (push_1 _ _ _ _ (λ st. refl))
stack_expr rest (s_pair {b = b} s r) =
    rw (stack_expr (expr_lines b rest) s, stack_expr rest r) (push_2 _ _ _ _ _ (λ st. refl))
stack_expr rest (s_proj s) = rw (stack_expr rest s) (push_1 _ _ _ _ (λ st. refl))

stack_cmd : {c : Cmd} (rest : List ScriptLine) → Source c → stack_of (cmd_lines c rest) ≡ topped (cm c) (stack_of rest)
unfolding stack_of cmd_lines on_stack pop_e pop_c
stack_cmd rest s_skip = push_0 _ _ _ (λ st. refl)
stack_cmd rest (s_seq {b = b} s r) =
    rw (stack_cmd (cmd_lines b rest) s, stack_cmd rest r) (push_2 _ _ _ _ _ (λ st. refl))
stack_cmd rest (s_assign s) = rw (stack_expr rest s) (push_1 _ _ _ _ (λ st. refl))
stack_cmd rest (s_while {c = c} s r) =
    rw (stack_expr (cmd_lines c rest) s, stack_cmd rest r) (push_2 _ _ _ _ _ (λ st. refl))
stack_cmd rest (s_case {a = a} {b = b} s r q) =
    rw (stack_expr (cmd_lines a (cmd_lines b rest)) s, stack_cmd (cmd_lines b rest) r, stack_cmd rest q)
    (push_3 _ _ _ _ _ _ (λ st. refl))

pub parse-lines : {c : Cmd} → Source c → parse (cmd_lines c []) ≡ some c
unfolding parse only_command stack_of topped
parse-lines s = rw (stack_cmd [] s)

-- ---- what is on the stack is what its lines say

stack_lines : Stack → List ScriptLine
stack_lines [] = []
stack_lines (ex e ∷ st) = expr_lines e (stack_lines st)
stack_lines (cm c ∷ st) = cmd_lines c (stack_lines st)

data Sources : Stack → Type 0 where
  no_more : Sources []
  on_expr : {e : Expr} {st : Stack} → SourceE e → Sources st → Sources (ex e ∷ st)
  on_cmd : {c : Cmd} {st : Stack} → Source c → Sources st → Sources (cm c ∷ st)

-- the stack st has the lines ls
record StackHolds (ls : List ScriptLine) (st : Stack) : Type 0 where
  pub lines : ls ≡ stack_lines st
  pub sources : Sources st

-- an operand that was taken was there
data HasE : Stack → Expr → Stack → Type 0 where
  has_e : {e : Expr} {st : Stack} → SourceE e → Sources st → HasE (ex e ∷ st) e st

data HasC : Stack → Cmd → Stack → Type 0 where
  has_c : {c : Cmd} {st : Stack} → Source c → Sources st → HasC (cm c ∷ st) c st

module _ {P : Type 0} (r : Stack) where
  pop_e_split : {st : Stack} → Sources st → (k : Expr → Stack → Option Stack) → pop_e st k ≡ some r
      → ((e : Expr) (u : Stack) → HasE st e u → k e u ≡ some r → P) → P
  unfolding pop_e
  pop_e_split no_more k h g = none_some h
  pop_e_split (on_expr s q) k h g = g _ _ (has_e s q) h
  pop_e_split (on_cmd s q) k h g = none_some h

  pop_c_split : {st : Stack} → Sources st → (k : Cmd → Stack → Option Stack) → pop_c st k ≡ some r
      → ((c : Cmd) (u : Stack) → HasC st c u → k c u ≡ some r → P) → P
  unfolding pop_c
  pop_c_split no_more k h g = none_some h
  pop_c_split (on_expr s q) k h g = none_some h
  pop_c_split (on_cmd s q) k h g = g _ _ (has_c s q) h

under_e : {st : Stack} {e : Expr} {u : Stack} → HasE st e u → Sources u
under_e (has_e s q) = q

under_c : {st : Stack} {c : Cmd} {u : Stack} → HasC st c u → Sources u
under_c (has_c s q) = q

-- ---- a line keeps that the stack has the lines so far

onto : {ls : List ScriptLine} {x r : Stack} → some x ≡ some r → StackHolds ls x → StackHolds ls r
onto e h = rw (← some_path e) h

leaf_e : {ls : List ScriptLine} {st : Stack} {l : ScriptLine} {e : Expr} → ls ≡ stack_lines st → SourceE e → Sources st
    → ((rest : List ScriptLine) → l ∷ rest ≡ expr_lines e rest) → StackHolds (l ∷ ls) (ex e ∷ st)
unfolding stack_lines
leaf_e {l = l} h s q g = record { lines = ap (λ (r : List ScriptLine). l ∷ r) h ∙ g _; sources = on_expr s q }

-- one operand, an expression, makes an expression
one_e : {ls : List ScriptLine} {st : Stack} {l : ScriptLine} {e : Expr} {u : Stack} (f : Expr → Expr)
    → ls ≡ stack_lines st → HasE st e u
    → ((a : Expr) → SourceE a → SourceE (f a))
    → ((a : Expr) (rest : List ScriptLine) → l ∷ expr_lines a rest ≡ expr_lines (f a) rest)
    → StackHolds (l ∷ ls) (ex (f e) ∷ u)
unfolding stack_lines
one_e {l = l} f h (has_e s q) g k =
    record { lines = ap (λ (r : List ScriptLine). l ∷ r) h ∙ k _ _; sources = on_expr (g _ s) q }

assign_c : {ls : List ScriptLine} {st : Stack} {e : Expr} {u : Stack} (x : ℕ) → ls ≡ stack_lines st → HasE st e u
    → StackHolds (l_assign x ∷ ls) (cm (assign x e) ∷ u)
unfolding stack_lines cmd_lines
assign_c x h (has_e s q) =
    record { lines = ap (λ (r : List ScriptLine). l_assign x ∷ r) h; sources = on_cmd (s_assign s) q }

-- two operands, expressions, make an expression
two_e : {ls : List ScriptLine} {st : Stack} {l : ScriptLine} {a b : Expr} {u w : Stack} (f : Expr → Expr → Expr)
    → ls ≡ stack_lines st → HasE st a u → HasE u b w
    → ((a b : Expr) → SourceE a → SourceE b → SourceE (f a b))
    → ((a b : Expr) (rest : List ScriptLine) → l ∷ expr_lines a (expr_lines b rest) ≡ expr_lines (f a b) rest)
    → StackHolds (l ∷ ls) (ex (f a b) ∷ w)
unfolding stack_lines
two_e {l = l} f h (has_e s p) (has_e r q) g k =
    record { lines = ap (λ (r : List ScriptLine). l ∷ r) h ∙ k _ _ _; sources = on_expr (g _ _ s r) q }

seq_c : {ls : List ScriptLine} {st : Stack} {a b : Cmd} {u w : Stack} → ls ≡ stack_lines st → HasC st a u → HasC u b w
    → StackHolds (l_seq ∷ ls) (cm (seq a b) ∷ w)
unfolding stack_lines cmd_lines
seq_c h (has_c s p) (has_c r q) =
    record { lines = ap (λ (r : List ScriptLine). l_seq ∷ r) h; sources = on_cmd (s_seq s r) q }

while_c : {ls : List ScriptLine} {st : Stack} {e : Expr} {c : Cmd} {u w : Stack} → ls ≡ stack_lines st
    → HasE st e u → HasC u c w
    → StackHolds (l_while ∷ ls) (cm (while e c) ∷ w)
unfolding stack_lines cmd_lines
while_c h (has_e s p) (has_c r q) =
    record { lines = ap (λ (r : List ScriptLine). l_while ∷ r) h; sources = on_cmd (s_while s r) q }

case_c : {ls : List ScriptLine} {st : Stack} {e : Expr} {a b : Cmd} {u v w : Stack} → ls ≡ stack_lines st → HasE st e u
    → HasC u a v → HasC v b w
    → StackHolds (l_case ∷ ls) (cm (case e a b) ∷ w)
unfolding stack_lines cmd_lines
case_c h (has_e s p) (has_c r o) (has_c t q) =
    record { lines = ap (λ (r : List ScriptLine). l_case ∷ r) h; sources = on_cmd (s_case s r t) q }

push_sound : (l : ScriptLine) {st r : Stack} {ls : List ScriptLine} → ls ≡ stack_lines st → Sources st
    → on_stack l st ≡ some r
    → StackHolds (l ∷ ls) r
unfolding on_stack expr_lines cmd_lines integer_of
push_sound l_skip h q e = unfold stack_lines in
    onto e (record { lines = ap (λ (r : List ScriptLine). l_skip ∷ r) h; sources = on_cmd s_skip q })
push_sound l_seq {r = r} h q e =
    pop_c_split r q _ e (λ a u x f. pop_c_split r (under_c x) _ f (λ b w y g. onto g (seq_c h x y)))
push_sound (l_assign x) {r = r} h q e = pop_e_split r q _ e (λ a u y f. onto f (assign_c x h y))
push_sound l_while {r = r} h q e =
    pop_e_split r q _ e (λ a u x f. pop_c_split r (under_e x) _ f (λ b w y g. onto g (while_c h x y)))
push_sound l_case {r = r} h q e =
    pop_e_split r q _ e (λ a u x f.
    pop_c_split r (under_e x) _ f (λ b v y g. pop_c_split r (under_c y) _ g (λ d w z i. onto i (case_c h x y z))))
push_sound (l_int n) h q e = onto e (leaf_e h s_int q (λ rest. refl))
push_sound (l_loc x) h q e = onto e (leaf_e h s_loc q (λ rest. refl))
push_sound (l_var d) h q e = onto e (leaf_e h s_var q (λ rest. refl))
push_sound l_plus {r = r} h q e =
    pop_e_split r q _ e
    (λ a u x f. pop_e_split r (under_e x) _ f (λ b w y g. onto g (two_e plus h x y (λ c d. s_plus) (λ c d rest. refl))))
push_sound (l_left t) {r = r} h q e =
    pop_e_split r q _ e (λ a u x f. onto f (one_e (left t) h x (λ b. s_left) (λ b rest. refl)))
push_sound (l_right t) {r = r} h q e =
    pop_e_split r q _ e (λ a u x f. onto f (one_e (right t) h x (λ b. s_right) (λ b rest. refl)))
push_sound (l_pack l) {r = r} h q e =
    pop_e_split r q _ e (λ a u x f. onto f (one_e (pack l) h x (λ b. s_pack) (λ b rest. refl)))
push_sound (l_unpack t l) {r = r} h q e =
    pop_e_split r q _ e (λ a u x f. onto f (one_e (unpack t l) h x (λ b. s_unpack) (λ b rest. refl)))
push_sound (l_pair t) {r = r} h q e =
    pop_e_split r q _ e (λ a u x f.
    pop_e_split r (under_e x) _ f (λ b w y g. onto g (two_e (pairing t) h x y (λ c d. s_pair) (λ c d rest. refl))))
push_sound (l_proj p) {r = r} h q e =
    pop_e_split r q _ e (λ a u x f. onto f (one_e (proj p) h x (λ b. s_proj) (λ b rest. refl)))

push_on-sound : (l : ScriptLine) (o : Option Stack) (ls : List ScriptLine) (r : Stack)
    → ((st : Stack) → o ≡ some st → StackHolds ls st)
    → push_on l o ≡ some r → StackHolds (l ∷ ls) r
unfolding push_on
push_on-sound l none ls r k h = none_some h
push_on-sound l (some st) ls r k h = let x = k st refl in push_sound l x.lines x.sources h

stack_sound : (ls : List ScriptLine) (st : Stack) → stack_of ls ≡ some st → StackHolds ls st
unfolding stack_of
stack_sound [] st h = unfold stack_lines in onto h (record { lines = refl; sources = no_more })
stack_sound (l ∷ ls) st h = push_on-sound l (stack_of ls) ls st (λ u e. stack_sound ls u e) h

single_sound : (o : Option Stack) (c : Cmd) → only_command o ≡ some c → o ≡ some (cm c ∷ [])
unfolding only_command
single_sound none c h = none_some h
single_sound (some []) c h = none_some h
single_sound (some (ex e ∷ st)) c h = none_some h
single_sound (some (cm d ∷ [])) c h = ap (λ (x : Cmd). some (cm x ∷ [])) (some_path h)
single_sound (some (cm d ∷ x ∷ st)) c h = none_some h

on_top : {c : Cmd} {st : Stack} → Sources (cm c ∷ st) → Source c
on_top (on_cmd s q) = s

pub parse-sound : (ls : List ScriptLine) (c : Cmd) → parse ls ≡ some c → (ls ≡ cmd_lines c []) × Source c
unfolding parse stack_lines
parse-sound ls c h =
    let x = stack_sound ls (cm c ∷ []) (single_sound (stack_of ls) c h) in (x.lines, on_top x.sources)

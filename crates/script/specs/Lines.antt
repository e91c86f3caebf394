-- A script's lines (the scope, "The three texts", and request (f)): the sixteen kinds, and a command's lines in prefix
-- order; and how many an opening takes.
use Rattle.std.specs.Prelude.{List, ◌∷◌, ℕ}
use Rattle.std.proofs.Math.Option.{Option, none, some}
use Rattle.language.specs.Syntax.{Value, int, err, inl, inr, pkg, pair, blank, Part, Expr, val, loc, var, plus, left}
use Rattle.language.specs.Syntax.{right, pack, unpack, pairing, proj, Cmd, skip, seq, assign, while, case, Opening}

-- One line of each kind, with its operands' numbers; `l_proj` is the line of a first part and that of a second.
pub data ScriptLine : Type 0 where
  l_skip l_seq : ScriptLine
  l_assign : ℕ → ScriptLine
  l_while l_case : ScriptLine
  l_int l_loc l_var : ℕ → ScriptLine
  l_plus : ScriptLine
  l_left l_right l_pack : ℕ → ScriptLine
  l_unpack : ℕ → ℕ → ScriptLine
  l_pair : ℕ → ScriptLine
  l_proj : Part → ScriptLine

-- An expression as a script has it: its only values are integers.
pub data SourceE : Expr → Type 0 where
  s_int : {n : ℕ} → SourceE (val (int n))
  s_loc : {x : ℕ} → SourceE (loc x)
  s_var : {d : ℕ} → SourceE (var d)
  s_plus : {a b : Expr} → SourceE a → SourceE b → SourceE (plus a b)
  s_left : {t : ℕ} {a : Expr} → SourceE a → SourceE (left t a)
  s_right : {t : ℕ} {a : Expr} → SourceE a → SourceE (right t a)
  s_pack : {l : ℕ} {a : Expr} → SourceE a → SourceE (pack l a)
  s_unpack : {t l : ℕ} {a : Expr} → SourceE a → SourceE (unpack t l a)
  s_pair : {t : ℕ} {a b : Expr} → SourceE a → SourceE b → SourceE (pairing t a b)
  s_proj : {p : Part} {a : Expr} → SourceE a → SourceE (proj p a)

-- A command as a script has it.
pub data Source : Cmd → Type 0 where
  s_skip : Source skip
  s_seq : {a b : Cmd} → Source a → Source b → Source (seq a b)
  s_assign : {x : ℕ} {e : Expr} → SourceE e → Source (assign x e)
  s_while : {e : Expr} {c : Cmd} → SourceE e → Source c → Source (while e c)
  s_case : {e : Expr} {a b : Cmd} → SourceE e → Source a → Source b → Source (case e a b)

-- the number of an integer; no script has another value
unfoldable pub integer_of : Value → ℕ
integer_of (int n) = n
integer_of (err e) = 0
integer_of (inl v) = 0
integer_of (inr v) = 0
integer_of (pkg h v) = 0
integer_of (pair v w) = 0
integer_of blank = 0

-- The lines of an expression in prefix order, then rest.
unfoldable pub expr_lines : Expr → List ScriptLine → List ScriptLine
expr_lines (val v) rest = l_int (integer_of v) ∷ rest
expr_lines (loc x) rest = l_loc x ∷ rest
expr_lines (var d) rest = l_var d ∷ rest
expr_lines (plus a b) rest = l_plus ∷ expr_lines a (expr_lines b rest)
expr_lines (left t a) rest = l_left t ∷ expr_lines a rest
expr_lines (right t a) rest = l_right t ∷ expr_lines a rest
expr_lines (pack l a) rest = l_pack l ∷ expr_lines a rest
expr_lines (unpack t l a) rest = l_unpack t l ∷ expr_lines a rest
expr_lines (pairing t a b) rest = l_pair t ∷ expr_lines a (expr_lines b rest)
expr_lines (proj p a) rest = l_proj p ∷ expr_lines a rest

-- The lines of a command in prefix order, then rest.
unfoldable pub cmd_lines : Cmd → List ScriptLine → List ScriptLine
cmd_lines skip rest = l_skip ∷ rest
cmd_lines (seq a b) rest = l_seq ∷ cmd_lines a (cmd_lines b rest)
cmd_lines (assign x e) rest = l_assign x ∷ expr_lines e rest
cmd_lines (while e c) rest = l_while ∷ expr_lines e (cmd_lines c rest)
cmd_lines (case e a b) rest = l_case ∷ expr_lines e (cmd_lines a (cmd_lines b rest))

-- How many lines a start takes, and an opening with it: `b label`, or none (request (d)).
unfoldable pub start_lines : Option ℕ → ℕ
start_lines none = 0
start_lines (some l) = 1

abbrev pub opening_lines : Opening → ℕ
opening_lines o = start_lines o.start

-- What stands at a word of a script's code: the row of each kind of line.
use mathlib.Core.Path.{◌≡◌, refl, sym, ap, ◌∙◌}
use mathlib.Core.Logic.{◌⊎◌}
use mathlib.Core.Bool.{Bool, true, false}
use mathlib.Core.List.{List, [], ◌∷◌}
use Prim.Native.Nat.{ℕ, zero, suc, ◌+◌, ◌≤◌, ◌<◌}
use native.Mathlib.Nat.{add-zero}
use native.Mathlib.Decide.{dec_lt}
use native.Mathlib.Omega.{arith}
use borrow.Author.Tests.{le-leb, lt-leb, leb-true, leb-false}
use lib.Dec.{leb}
use lib.ListN.{length, get_or, drop, length-drop}
use lib.Seq.{get_or-drop, drop-drop}
use Rattle.language.specs.Syntax.{int, Part, pick, Expr, val, loc, var, plus, left, right, pack, unpack, pairing, proj}
use Rattle.language.specs.Syntax.{Cmd, skip, seq, assign, while, case}
use Rattle.script.specs.declared.Row.{Row}
use Rattle.script.specs.Lines.{ScriptLine, SourceE, s_int, s_loc, s_var, s_plus, s_left, s_right, s_pack}
use Rattle.script.specs.Lines.{s_unpack, s_pair, s_proj, Source, s_skip, s_seq, s_assign, s_while, s_case}
use Rattle.script.specs.Lines.{integer_of, expr_lines, cmd_lines}
use Rattle.script.specs.Internal.Code.{row_with, row_of, code, row_at}
use Rattle.script.specs.Internal.Pieces.{Sort, expression, command, Tree, SourceOf, lines_of}

-- ---- the row at a word

pub row_there : (ws : List ℕ) (at : ℕ) → at + 3 ≤ length ws
    → row_at ws at ≡ row_with (get_or ws at 0) (get_or ws (at + 1) 0) (get_or ws (at + 2) 0)
unfolding row_at
row_there ws at h = simp (le-leb _ _ h)

pub row_none : (ws : List ℕ) (at : ℕ) → length ws < at + 3 → row_at ws at ≡ row_with 0 0 0
unfolding row_at
row_none ws at h = simp (lt-leb _ _ h)

-- a row whose kind is not 0 lies within the code
pub row_within : (ws : List ℕ) (at : ℕ) {row : Row} → row ≡ row_at ws at → 0 < row.kind → at + 3 ≤ length ws
row_within ws at q h = on (leb (at + 3) (length ws)) refl
  where
    on : (b : Bool) → leb (at + 3) (length ws) ≡ b → at + 3 ≤ length ws
    on true e = leb-true _ _ e
    on false e = absurd (omega (arith, h, ap (λ (r : Row). r.kind) (q ∙ row_none ws at (leb-false _ _ e))))

-- ---- the row of a tree, by its kind: its words, its parts, and what stands after it

module _ (ws : List ℕ) (at : ℕ) where
  pub data RowOf (rest : List ScriptLine) : (s : Sort) → ℕ → ℕ → ℕ → Tree s → Type 0 where
    at_skip : drop (at + 3) ws ≡ code rest → RowOf rest command 1 0 0 skip
    at_seq : {c d : Cmd} → Source c → Source d → drop (at + 3) ws ≡ code (cmd_lines c (cmd_lines d rest))
        → RowOf rest command 2 0 0 (seq c d)
    at_assign : {x : ℕ} {e : Expr} → SourceE e → drop (at + 3) ws ≡ code (expr_lines e rest)
        → RowOf rest command 3 x 0 (assign x e)
    at_while : {e : Expr} {c : Cmd} → SourceE e → Source c → drop (at + 3) ws ≡ code (expr_lines e (cmd_lines c rest))
        → RowOf rest command 4 0 0 (while e c)
    at_case : {e : Expr} {c d : Cmd} → SourceE e → Source c → Source d
        → drop (at + 3) ws ≡ code (expr_lines e (cmd_lines c (cmd_lines d rest)))
        → RowOf rest command 5 0 0 (case e c d)
    at_int : {n : ℕ} → drop (at + 3) ws ≡ code rest → RowOf rest expression 6 n 0 (val (int n))
    at_loc : {x : ℕ} → drop (at + 3) ws ≡ code rest → RowOf rest expression 7 x 0 (loc x)
    at_var : {d : ℕ} → drop (at + 3) ws ≡ code rest → RowOf rest expression 8 d 0 (var d)
    at_plus : {e f : Expr} → SourceE e → SourceE f → drop (at + 3) ws ≡ code (expr_lines e (expr_lines f rest))
        → RowOf rest expression 9 0 0 (plus e f)
    at_left : {t : ℕ} {e : Expr} → SourceE e → drop (at + 3) ws ≡ code (expr_lines e rest)
        → RowOf rest expression 10 t 0 (left t e)
    at_right : {t : ℕ} {e : Expr} → SourceE e → drop (at + 3) ws ≡ code (expr_lines e rest)
        → RowOf rest expression 11 t 0 (right t e)
    at_pack : {l : ℕ} {e : Expr} → SourceE e → drop (at + 3) ws ≡ code (expr_lines e rest)
        → RowOf rest expression 12 l 0 (pack l e)
    at_unpack : {t l : ℕ} {e : Expr} → SourceE e → drop (at + 3) ws ≡ code (expr_lines e rest)
        → RowOf rest expression 13 t l (unpack t l e)
    at_pair : {t : ℕ} {e f : Expr} → SourceE e → SourceE f → drop (at + 3) ws ≡ code (expr_lines e (expr_lines f rest))
        → RowOf rest expression 14 t 0 (pairing t e f)
    at_first : {e : Expr} → SourceE e → drop (at + 3) ws ≡ code (expr_lines e rest)
        → RowOf rest expression 15 0 0 (proj Part.first e)
    at_second : {e : Expr} → SourceE e → drop (at + 3) ws ≡ code (expr_lines e rest)
        → RowOf rest expression 16 0 0 (proj Part.second e)

  abbrev pub ExprRow : List ScriptLine → ℕ → ℕ → ℕ → Expr → Type 0
  ExprRow rest = RowOf rest expression

  abbrev pub CmdRow : List ScriptLine → ℕ → ℕ → ℕ → Cmd → Type 0
  CmdRow rest = RowOf rest command

  -- a family over the three words of the row holds of the row that is read
  row_read : {X : Type 0} (P : ℕ → ℕ → ℕ → X → Type 0) (x : X) (k a b : ℕ) (more : List ℕ)
      → drop at ws ≡ k ∷ a ∷ b ∷ more
      → (drop (at + 3) ws ≡ more → P k a b x) → P (row_at ws at).kind (row_at ws at).a (row_at ws at).b x
  row_read P x k a b more h p =
      let n : at + 3 ≤ length ws = omega (arith, length-drop at ws, ap length h) in
      let e0 : get_or ws at 0 ≡ k =
      ap (λ (i : ℕ). get_or ws i 0) (sym (add-zero at)) ∙ sym (get_or-drop at ws 0 0)
      ∙ ap (λ (l : List ℕ). get_or l 0 0) h in
      let e1 : get_or ws (at + 1) 0 ≡ a = sym (get_or-drop at ws 1 0) ∙ ap (λ (l : List ℕ). get_or l 1 0) h in
      let e2 : get_or ws (at + 2) 0 ≡ b = sym (get_or-drop at ws 2 0) ∙ ap (λ (l : List ℕ). get_or l 2 0) h in
      rw (row_there ws at n, e0, e1, e2) (p (sym (drop-drop 3 at ws) ∙ ap (λ (l : List ℕ). drop 3 l) h))

  expr_row : {rest : List ScriptLine} {e : Expr} → SourceE e → drop at ws ≡ code (expr_lines e rest)
      → ExprRow rest (row_at ws at).kind (row_at ws at).a (row_at ws at).b e
  unfolding expr_lines code row_of integer_of pick
  expr_row {rest} s_int h = row_read (ExprRow rest) _ _ _ _ _ h at_int
  expr_row {rest} s_loc h = row_read (ExprRow rest) _ _ _ _ _ h at_loc
  expr_row {rest} s_var h = row_read (ExprRow rest) _ _ _ _ _ h at_var
  expr_row {rest} (s_plus s r) h = row_read (ExprRow rest) _ _ _ _ _ h (at_plus s r)
  expr_row {rest} (s_left s) h = row_read (ExprRow rest) _ _ _ _ _ h (at_left s)
  expr_row {rest} (s_right s) h = row_read (ExprRow rest) _ _ _ _ _ h (at_right s)
  expr_row {rest} (s_pack s) h = row_read (ExprRow rest) _ _ _ _ _ h (at_pack s)
  expr_row {rest} (s_unpack s) h = row_read (ExprRow rest) _ _ _ _ _ h (at_unpack s)
  expr_row {rest} (s_pair s r) h = row_read (ExprRow rest) _ _ _ _ _ h (at_pair s r)
  expr_row {rest} (s_proj {p = Part.first} s) h = row_read (ExprRow rest) _ _ _ _ _ h (at_first s)
  expr_row {rest} (s_proj {p = Part.second} s) h = row_read (ExprRow rest) _ _ _ _ _ h (at_second s)

  cmd_row : {rest : List ScriptLine} {c : Cmd} → Source c → drop at ws ≡ code (cmd_lines c rest)
      → CmdRow rest (row_at ws at).kind (row_at ws at).a (row_at ws at).b c
  unfolding cmd_lines code row_of
  cmd_row {rest} s_skip h = row_read (CmdRow rest) _ _ _ _ _ h at_skip
  cmd_row {rest} (s_seq s r) h = row_read (CmdRow rest) _ _ _ _ _ h (at_seq s r)
  cmd_row {rest} (s_assign s) h = row_read (CmdRow rest) _ _ _ _ _ h (at_assign s)
  cmd_row {rest} (s_while s r) h = row_read (CmdRow rest) _ _ _ _ _ h (at_while s r)
  cmd_row {rest} (s_case s p q) h = row_read (CmdRow rest) _ _ _ _ _ h (at_case s p q)

  tree_row : (s : Sort) (x : Tree s) (rest : List ScriptLine) → SourceOf s x → drop at ws ≡ code (lines_of s x rest)
      → RowOf rest s (row_at ws at).kind (row_at ws at).a (row_at ws at).b x
  tree_row expression e rest u h = expr_row u h
  tree_row command c rest u h = cmd_row u h

  -- the row that was read is that of the tree whose lines stand there
  pub row_of_lem : (s : Sort) (x : Tree s) (rest : List ScriptLine) {row : Row} {k : ℕ} → row ≡ row_at ws at
      → row.kind ≡ k → SourceOf s x
      → drop at ws ≡ code (lines_of s x rest) → RowOf rest s k row.a row.b x
  row_of_lem s x rest q h u w = rw (← q, h) at (tree_row s x rest u w)

  -- the row where lines stand is that of the first, and the others stand after it
  pub line_there : (l : ScriptLine) (ls : List ScriptLine) → drop at ws ≡ code (l ∷ ls)
      → (row_at ws at ≡ row_of l) × (drop (at + 3) ws ≡ code ls)
  unfolding code
  line_there l ls g =
      row_read {X = Unit} (λ k a b _. (◌≡◌ {A = Row} (row_with k a b) (row_of l)) × (drop (at + 3) ws ≡ code ls))
      tt _ _ _ (code ls) g (λ d. (refl, d))

  -- no row stands where the words end
  pub line_nowhere : drop at ws ≡ code [] → (row_at ws at).kind ≡ 0
  unfolding code
  line_nowhere h =
      let n : length ws < at + 3 = omega (arith, length-drop at ws, ap length h) in
      rw (row_none ws at n)

-- ---- the numbers of the kinds

-- the kinds of line with which a tree starts
abbrev pub KindOf : Sort → ℕ → Type 0
KindOf command k = (1 ≤ k) × (k < 6)
KindOf expression k = (6 ≤ k) × (k < 17)

row_kind : {ws : List ℕ} {at : ℕ} {rest : List ScriptLine} {s : Sort} {k a b : ℕ} {x : Tree s}
    → RowOf ws at rest s k a b x → KindOf s k
row_kind (at_skip h) = (omega arith, omega arith)
row_kind (at_seq s r h) = (omega arith, omega arith)
row_kind (at_assign s h) = (omega arith, omega arith)
row_kind (at_while s r h) = (omega arith, omega arith)
row_kind (at_case s p q h) = (omega arith, omega arith)
row_kind (at_int h) = (omega arith, omega arith)
row_kind (at_loc h) = (omega arith, omega arith)
row_kind (at_var h) = (omega arith, omega arith)
row_kind (at_plus s r h) = (omega arith, omega arith)
row_kind (at_left s h) = (omega arith, omega arith)
row_kind (at_right s h) = (omega arith, omega arith)
row_kind (at_pack s h) = (omega arith, omega arith)
row_kind (at_unpack s h) = (omega arith, omega arith)
row_kind (at_pair s r h) = (omega arith, omega arith)
row_kind (at_first s h) = (omega arith, omega arith)
row_kind (at_second s h) = (omega arith, omega arith)

-- no tree starts where the row's kind is none of its sort's
pub not_here : (s : Sort) (x : Tree s) (rest : List ScriptLine) (ws : List ℕ) (at : ℕ) {row : Row} → row ≡ row_at ws at
    → (KindOf s row.kind → ⊥)
    → SourceOf s x → drop at ws ≡ code (lines_of s x rest) → ⊥
not_here s x rest ws at q f u w = f (row_kind (row_of_lem ws at s x rest q refl u w))

-- k is none of n numbers from `first` on, as a match over them leaves it
abbrev pub NoneOf : ℕ → ℕ → ℕ → Type 0
NoneOf k first zero = Unit {0}
NoneOf k first (suc n) = NoneOf k first n × (k ≡ first + n → ⊥)

pub none_past : {k : ℕ} (first n : ℕ) → NoneOf k first n → first ≤ k → first + n ≤ k
none_past first zero f l = omega arith
none_past first (suc n) f l = omega (arith, f.1, none_past first n f.0 l)

pub none_between : {k : ℕ} (first n : ℕ) → NoneOf k first n → first ≤ k → k < first + n → ⊥
none_between first n f l u = omega (arith, none_past first n f l)

-- k is `first` or one of the n numbers after it
abbrev pub OneOf : ℕ → ℕ → ℕ → Type 0
OneOf k first zero = k ≡ first
OneOf k first (suc n) = (k ≡ first) ⊎ OneOf k (suc first) n

pub one_between : {k : ℕ} (first n : ℕ) → first ≤ k → k ≤ first + n → OneOf k first n
one_between first zero l u = omega arith
one_between {k} first (suc n) l u = on (dec_lt first k) (λ h. one_between (suc first) n h (omega arith))
  where
    on : Dec (first < k) → (first < k → OneOf k (suc first) n) → OneOf k first (suc n)
    on (yes h) f = ◌⊎◌.inr (f h)
    on (no h) f = ◌⊎◌.inl (omega arith)

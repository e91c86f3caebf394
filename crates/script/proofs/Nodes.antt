-- What a line makes of its operands, and what follows it: one table of the kinds, and a law for a line with no operand,
-- one, two or three.
use mathlib.Core.Path.{◌≡◌, refl}
use mathlib.Core.List.{List, [], ◌∷◌}
use Prim.Native.Nat.{ℕ, zero, suc, ◌+◌, ◌≤◌, ◌<◌}
use native.Mathlib.Omega.{arith}
use lib.ListN.{length, drop}
use Rattle.language.specs.Syntax.{int, Part, first, second, pick, val, loc, var, plus, left, right, pack, unpack}
use Rattle.language.specs.Syntax.{pairing, proj, skip, seq, assign, while, case}
use Rattle.script.specs.declared.Row.{Row}
use Rattle.script.specs.Lines.{ScriptLine, l_skip, l_seq, l_assign, l_while, l_case, l_int, l_loc, l_var, l_plus}
use Rattle.script.specs.Lines.{l_left, l_right, l_pack, l_unpack, l_pair, l_proj, s_int, s_loc, s_var, s_plus}
use Rattle.script.specs.Lines.{s_left, s_right, s_pack, s_unpack, s_pair, s_proj, s_skip, s_seq, s_assign}
use Rattle.script.specs.Lines.{s_while, s_case, integer_of, expr_lines, cmd_lines}
use Rattle.script.specs.Internal.Code.{row_of, code, row_at}
use Rattle.script.specs.Internal.Pieces.{Sort, expression, command, Tree, SourceOf, lines_of, Piece, an_expression}
use Rattle.script.specs.Internal.Pieces.{a_command, operand_count}
use Rattle.script.proofs.Rows.{RowOf, at_skip, at_seq, at_assign, at_while, at_case, at_int, at_loc, at_var}
use Rattle.script.proofs.Rows.{at_plus, at_left, at_right, at_pack, at_unpack, at_pair, at_first, at_second}
use Rattle.script.proofs.Rows.{row_of_lem, row_within}

-- ---- a line by the words of its row

pub data View : ℕ → ℕ → ℕ → ScriptLine → Type 0 where
  v_skip : View 1 0 0 l_skip
  v_seq : View 2 0 0 l_seq
  v_assign : {x : ℕ} → View 3 x 0 (l_assign x)
  v_while : View 4 0 0 l_while
  v_case : View 5 0 0 l_case
  v_int : {n : ℕ} → View 6 n 0 (l_int n)
  v_loc : {x : ℕ} → View 7 x 0 (l_loc x)
  v_var : {d : ℕ} → View 8 d 0 (l_var d)
  v_plus : View 9 0 0 l_plus
  v_left : {t : ℕ} → View 10 t 0 (l_left t)
  v_right : {t : ℕ} → View 11 t 0 (l_right t)
  v_pack : {l : ℕ} → View 12 l 0 (l_pack l)
  v_unpack : {t l : ℕ} → View 13 t l (l_unpack t l)
  v_pair : {t : ℕ} → View 14 t 0 (l_pair t)
  v_first : View 15 0 0 (l_proj first)
  v_second : View 16 0 0 (l_proj second)

pub view : (l : ScriptLine) → View (row_of l).kind (row_of l).a (row_of l).b l
unfolding row_of pick
view l_skip = v_skip
view l_seq = v_seq
view (l_assign x) = v_assign
view l_while = v_while
view l_case = v_case
view (l_int n) = v_int
view (l_loc x) = v_loc
view (l_var d) = v_var
view l_plus = v_plus
view (l_left t) = v_left
view (l_right t) = v_right
view (l_pack l) = v_pack
view (l_unpack t l) = v_unpack
view (l_pair t) = v_pair
view (l_proj first) = v_first
view (l_proj second) = v_second

-- ---- what a line makes

-- a function of a tree of each sort
abbrev pub Makes : List Sort → Type 0 → Type 0
Makes [] X = X
Makes (s ∷ ss) X = Tree s → Makes ss X

-- The kinds: the sort of tree that starts with such a row, the sorts of its operands, and how it is made of them.
pub data Node : (s : Sort) (ss : List Sort) → ℕ → ℕ → ℕ → Makes ss (Tree s) → Type 0 where
  n_skip : {a b : ℕ} → Node command [] 1 a b skip
  n_seq : {a b : ℕ} → Node command (command ∷ command ∷ []) 2 a b seq
  n_assign : {x b : ℕ} → Node command (expression ∷ []) 3 x b (assign x)
  n_while : {a b : ℕ} → Node command (expression ∷ command ∷ []) 4 a b while
  n_case : {a b : ℕ} → Node command (expression ∷ command ∷ command ∷ []) 5 a b case
  n_int : {n b : ℕ} → Node expression [] 6 n b (val (int n))
  n_loc : {x b : ℕ} → Node expression [] 7 x b (loc x)
  n_var : {d b : ℕ} → Node expression [] 8 d b (var d)
  n_plus : {a b : ℕ} → Node expression (expression ∷ expression ∷ []) 9 a b plus
  n_left : {t b : ℕ} → Node expression (expression ∷ []) 10 t b (left t)
  n_right : {t b : ℕ} → Node expression (expression ∷ []) 11 t b (right t)
  n_pack : {l b : ℕ} → Node expression (expression ∷ []) 12 l b (pack l)
  n_unpack : {t l : ℕ} → Node expression (expression ∷ []) 13 t l (unpack t l)
  n_pair : {t b : ℕ} → Node expression (expression ∷ expression ∷ []) 14 t b (pairing t)
  n_first : {a b : ℕ} → Node expression (expression ∷ []) 15 a b (proj first)
  n_second : {a b : ℕ} → Node expression (expression ∷ []) 16 a b (proj second)

-- the line of a part, whichever it is
pub n_proj : (p : Part) {a b : ℕ} → Node expression (expression ∷ []) (pick p 15 16) a b (proj p)
unfolding pick
n_proj first = n_first
n_proj second = n_second

pub no_node : {s : Sort} {ss : List Sort} {a b : ℕ} {f : Makes ss (Tree s)} → Node s ss 0 a b f → ⊥
no_node = elim [ ]

-- a line and its operands are the lines of what it makes of them
abbrev pub Made : (s : Sort) (ss : List Sort) → Makes ss (Tree s) → (List ScriptLine → List ScriptLine) → Type 0
Made s [] x lines = SourceOf s x × ((rest : List ScriptLine) → lines rest ≡ lines_of s x rest)
Made s (t ∷ ss) f lines = (x : Tree t) → SourceOf t x → Made s ss (f x) (λ rest. lines (lines_of t x rest))

pub made : {s : Sort} {ss : List Sort} {k a b : ℕ} {f : Makes ss (Tree s)} {l : ScriptLine} → Node s ss k a b f
    → View k a b l
    → Made s ss f (λ rest. l ∷ rest)
unfolding expr_lines cmd_lines integer_of
made n_skip v_skip = (s_skip, λ rest. refl)
made n_seq v_seq = λ c u d v. (s_seq u v, λ rest. refl)
made n_assign v_assign = λ e u. (s_assign u, λ rest. refl)
made n_while v_while = λ e u c v. (s_while u v, λ rest. refl)
made n_case v_case = λ e u c v d w. (s_case u v w, λ rest. refl)
made n_int v_int = (s_int, λ rest. refl)
made n_loc v_loc = (s_loc, λ rest. refl)
made n_var v_var = (s_var, λ rest. refl)
made n_plus v_plus = λ e u f v. (s_plus u v, λ rest. refl)
made n_left v_left = λ e u. (s_left u, λ rest. refl)
made n_right v_right = λ e u. (s_right u, λ rest. refl)
made n_pack v_pack = λ e u. (s_pack u, λ rest. refl)
made n_unpack v_unpack = λ e u. (s_unpack u, λ rest. refl)
made n_pair v_pair = λ e u f v. (s_pair u v, λ rest. refl)
made n_first v_first = λ e u. (s_proj u, λ rest. refl)
made n_second v_second = λ e u. (s_proj u, λ rest. refl)

module _ (ws : List ℕ) (at : ℕ) (rest : List ScriptLine) where
  -- P holds of what is made of trees whose lines stand one after another behind the line
  abbrev pub OfOperands : (s : Sort) (ss : List Sort) → Makes ss (Tree s) → (List ScriptLine → List ScriptLine)
      → (Tree s → Type 0) → Type 0
  OfOperands s [] x lines P = drop (at + 3) ws ≡ code (lines rest) → P x
  OfOperands s (t ∷ ss) f lines P =
      (x : Tree t) → SourceOf t x → OfOperands s ss (f x) (λ more. lines (lines_of t x more)) P

  pub of_operands : {s : Sort} {ss : List Sort} {k a b : ℕ} {f : Makes ss (Tree s)} {x : Tree s} → Node s ss k a b f
      → RowOf ws at rest s k a b x
      → (P : Tree s → Type 0) → OfOperands s ss f (λ more. more) P → P x
  of_operands n_skip (at_skip h) P p = p h
  of_operands n_seq (at_seq u v h) P p = p _ u _ v h
  of_operands n_assign (at_assign u h) P p = p _ u h
  of_operands n_while (at_while u v h) P p = p _ u _ v h
  of_operands n_case (at_case u v w h) P p = p _ u _ v _ w h
  of_operands n_int (at_int h) P p = p h
  of_operands n_loc (at_loc h) P p = p h
  of_operands n_var (at_var h) P p = p h
  of_operands n_plus (at_plus u v h) P p = p _ u _ v h
  of_operands n_left (at_left u h) P p = p _ u h
  of_operands n_right (at_right u h) P p = p _ u h
  of_operands n_pack (at_pack u h) P p = p _ u h
  of_operands n_unpack (at_unpack u h) P p = p _ u h
  of_operands n_pair (at_pair u v h) P p = p _ u _ v h
  of_operands n_first (at_first u h) P p = p _ u h
  of_operands n_second (at_second u h) P p = p _ u h

-- ---- what follows a line, by the number of its operands

module _ (ws : List ℕ) (at : ℕ) where
  pub data Parts (rest : List ScriptLine) : ℕ → Type 0 where
    no_parts_lem : drop (at + 3) ws ≡ code rest → Parts rest 0
    one_part : {ls : List ScriptLine} → Piece ls rest → drop (at + 3) ws ≡ code ls → Parts rest 1
    two_parts : {ls mid : List ScriptLine} → Piece ls mid → Piece mid rest → drop (at + 3) ws ≡ code ls → Parts rest 2
    three_parts : {ls mid end : List ScriptLine} → Piece ls mid → Piece mid end → Piece end rest
        → drop (at + 3) ws ≡ code ls → Parts rest 3

  row_parts : {rest : List ScriptLine} {s : Sort} {k a b : ℕ} {x : Tree s} → RowOf ws at rest s k a b x
      → Parts rest (operand_count k)
  unfolding operand_count
  row_parts (at_skip h) = no_parts_lem h
  row_parts (at_seq s r h) = two_parts (a_command s) (a_command r) h
  row_parts (at_assign s h) = one_part (an_expression s) h
  row_parts (at_while s r h) = two_parts (an_expression s) (a_command r) h
  row_parts (at_case s p q h) = three_parts (an_expression s) (a_command p) (a_command q) h
  row_parts (at_int h) = no_parts_lem h
  row_parts (at_loc h) = no_parts_lem h
  row_parts (at_var h) = no_parts_lem h
  row_parts (at_plus s r h) = two_parts (an_expression s) (an_expression r) h
  row_parts (at_left s h) = one_part (an_expression s) h
  row_parts (at_right s h) = one_part (an_expression s) h
  row_parts (at_pack s h) = one_part (an_expression s) h
  row_parts (at_unpack s h) = one_part (an_expression s) h
  row_parts (at_pair s r h) = two_parts (an_expression s) (an_expression r) h
  row_parts (at_first s h) = one_part (an_expression s) h
  row_parts (at_second s h) = one_part (an_expression s) h

  -- what follows the row that was read, where a piece starts
  pub parts : {ls rest : List ScriptLine} {row : Row} → row ≡ row_at ws at → Piece ls rest → drop at ws ≡ code ls
      → Parts rest (operand_count row.kind)
  parts {rest = rest} q (an_expression {e} s) h = row_parts (row_of_lem ws at expression e rest q refl s h)
  parts {rest = rest} q (a_command {c} s) h = row_parts (row_of_lem ws at command c rest q refl s h)

  pub few_parts : {rest : List ScriptLine} {n : ℕ} → Parts rest n → n < 4
  few_parts (no_parts_lem h) = omega arith
  few_parts (one_part p h) = omega arith
  few_parts (two_parts p q h) = omega arith
  few_parts (three_parts p q r h) = omega arith

  -- a line of a kind lies within the code
  pub counted_within : {row : Row} → row ≡ row_at ws at → operand_count row.kind < 4 → at + 3 ≤ length ws
  unfolding operand_count
  counted_within {row} q h = row_within ws at q (on row.kind h)
    where
      on : (k : ℕ) → operand_count k < 4 → 0 < k
      on zero l = absurd (omega arith)
      on (suc k) l = omega arith

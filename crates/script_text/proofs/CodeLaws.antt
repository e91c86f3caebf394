-- The code of lines, filled in line by line.
use mathlib.Core.Path.{◌≡◌, refl, ap}
use mathlib.Core.List.{List, [], ◌∷◌}
use mathlib.Core.Option.{Option, none, some}
use Prim.Native.Nat.{ℕ, suc, ◌+◌, ◌*◌, ◌-◌, ◌≤◌, ◌<◌}
use native.Mathlib.Omega.{arith}
use lib.ListN.{length, drop, set, replicate}
use lib.Seq.{sets}
use Rattle.std.specs.Prelude.{Option as Optional, Some, None}
use Rattle.script.specs.declared.Row.{Row}
use Rattle.text.specs.Lines.{front, lines_up_to}
use Rattle.text.proofs.Writings.{sets_zeros}
use Rattle.text.proofs.Lines.{lines-at_end, lines_at_full, lines-at-bad, lines-at-more, lines_exact}
use Rattle.script.specs.Lines.{ScriptLine}
use Rattle.script.specs.Names.{max_lines}
use Rattle.script.specs.Internal.Code.{row_of, code}
use Rattle.sheet.specs.Padding.{padded}
use Rattle.script_text.specs.Reading.{line_of}
use Rattle.script_text.specs.Internal.Decoded.{code_words, no_code, coded_lines}
use Rattle.script_text.specs.Internal.Placed.{placed_line}
use Rattle.script_text.proofs.LineLaws.{script_lines}
use Rattle.script_text.proofs.FoundLaws.{found_at, found_none}

-- ---- three words a line

pub code_length : (ls : List ScriptLine) → length (code ls) ≡ length ls * 3
unfolding code
code_length [] = refl
code_length (l ∷ ls) = omega (arith, code_length ls)

-- only no lines have no code
pub code_empty : (ls : List ScriptLine) → code ls ≡ [] → ls ≡ []
unfolding code
code_empty [] h = refl
code_empty (l ∷ ls) h = absurd (omega (arith, ap length h))

-- ---- a table that is filled line by line

-- the three words of line n
abbrev pub put : List ℕ → ℕ → ℕ → ℕ → ℕ → List ℕ
put w n k a b = set (set (set w (n * 3) k) (n * 3 + 1) a) (n * 3 + 2) b

-- n lines, and further ones
unfoldable pub tabled : ℕ → List ℕ → Option (List ScriptLine) → Optional (ℕ × List ℕ)
tabled n w none = None
tabled n w (some ls) = Some (n + length ls, sets w (n * 3) (code ls))

-- ---- the table of a text's lines, from line n and byte `at` on

tabled-front : (n : ℕ) (w : List ℕ) (l : ScriptLine) (o : Option (List ScriptLine))
    → tabled n w (front l o) ≡ tabled (n + 1) (put w n (row_of l).kind (row_of l).a (row_of l).b) o
unfolding tabled front code
tabled-front n w l none = refl
tabled-front n w l (some ls) =
    let c : n + suc (length ls) ≡ n + 1 + length ls = omega arith in
    let one : n * 3 + 1 ≡ suc (n * 3) = omega arith in
    let two : n * 3 + 2 ≡ suc (suc (n * 3)) = omega arith in
    let three : (n + 1) * 3 ≡ suc (suc (suc (n * 3))) = omega arith in
    rw (c, one, two, three)

-- at most m lines
module _ (m n : ℕ) (w : List ℕ) (s : List ℕ) (at : ℕ) where
  pub table_done : length s ≤ at → tabled n w (lines_up_to line_of (m - n) (drop at s)) ≡ Some (n, w)
  unfolding tabled code
  table_done h = let z : n + 0 ≡ n = omega arith in rw (lines-at_end line_of m n s at h, z)

  pub table_full : at < length s → m ≤ n → tabled n w (lines_up_to line_of (m - n) (drop at s)) ≡ None
  unfolding tabled
  table_full h l = rw (lines_at_full line_of m n s at h l)

  module _ (h : at < length s) (l : n < m) where
    pub table-bad : None ≡ placed_line s (line_of (drop at s))
        → tabled n w (lines_up_to line_of (m - n) (drop at s)) ≡ None
    unfolding tabled
    table-bad g = rw (lines-at-bad line_of m n s at l h (found_none s at g))

    pub table_more : (row : Row) (p : ℕ) → Some (row, p) ≡ placed_line s (line_of (drop at s))
        → tabled n w (lines_up_to line_of (m - n) (drop at s))
        ≡ tabled (n + 1) (put w n row.kind row.a row.b) (lines_up_to line_of (m - (n + 1)) (drop p s))
    table_more row p g =
        found_at s at row p g (λ x y i q.
        rw (lines-at-more line_of m n s at l script_lines.no_end x p y, tabled-front, q))

-- before the first line the words are zeros
pub table_start : (m : ℕ) (w t : List ℕ) → m ≤ max_lines → w ≡ no_code
    → tabled 0 w (lines_up_to line_of (m - 0) t) ≡ coded_lines (lines_up_to line_of m t)
unfolding tabled coded_lines padded no_code
table_start m w t h e = let z : m - 0 ≡ m = omega arith in rw (e, z) (go (lines_up_to line_of m t) refl)
  where
    go : (o : Option (List ScriptLine)) → lines_up_to line_of m t ≡ o
        → tabled 0 (replicate code_words 0) o ≡ coded_lines o
    go none e = refl
    go (some ls) e =
        let few = ((lines_exact script_lines m t ls).0 e).2 in
        let c : 0 + length ls ≡ length ls = omega arith in
        rw (c, sets_zeros code_words (code ls) (omega (arith, code_length ls)))

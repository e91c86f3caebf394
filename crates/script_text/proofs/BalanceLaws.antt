-- Telling whether lines are as many as their kinds ask for, row by row.
use mathlib.Core.Path.{◌≡◌, refl, sym, ap, ◌∙◌}
use mathlib.Core.Bool.{Bool, true, false}
use mathlib.Core.List.{List, [], ◌∷◌, ◌++◌}
use Prim.Native.Nat.{ℕ, zero, suc, ◌+◌, ◌-◌, ◌≤◌, ◌<◌}
use native.Mathlib.Omega.{arith}
use lib.Dec.{eqb, leb}
use borrow.Author.Tests.{leb-true}
use Rattle.logic.specs.Booleans.{both}
use Rattle.logic.proofs.BooleanLaws.{both_left, both_right}
use lib.ListN.{length, get_or}
use Rattle.script.specs.Lines.{ScriptLine}
use Rattle.script.specs.Internal.Code.{row_of, code}
use Rattle.script.specs.Internal.Pieces.{operand_counts, operand_count}
use Rattle.script.specs.Internal.Balance.{line_operands, closes}
use Rattle.script_text.proofs.CodeLaws.{code_length}

-- no kind has more than four operands
few_in : List ℕ → Bool
few_in [] = true
few_in (x ∷ xs) = both (leb x 4) (few_in xs)

few_at : (xs : List ℕ) → few_in xs ≡ true → (i : ℕ) → get_or xs i 4 ≤ 4
unfolding few_in
few_at [] f i = omega arith
few_at (x ∷ xs) f zero = leb-true x 4 (both_left (leb x 4) (few_in xs) f)
few_at (x ∷ xs) f (suc i) = few_at xs (both_right (leb x 4) (few_in xs) f) i

pub few_operands : (k : ℕ) → operand_count k ≤ 4
unfolding operand_count few_in both
few_operands k = few_at operand_counts refl k

-- no words are no lines
no_lines : (ls : List ScriptLine) → length ls < 1 → ls ≡ []
no_lines [] h = refl
no_lines (l ∷ ls) h = absurd (omega arith)

module _ (ws rest : List ℕ) where
  -- The words that are left are those of n trees exactly if all are those of one.
  abbrev pub Due : ℕ → Type 0
  Due n =
      (ls : List ScriptLine) → ws ≡ code ls
      → (more : List ScriptLine) × (rest ≡ code more) × (closes 1 ls ≡ closes n more)

  -- fewer words than a line's are none
  pub due_end : (n : ℕ) → Due n → length rest < 3 → (ls : List ScriptLine) → ws ≡ code ls → eqb n 0 ≡ closes 1 ls
  unfolding closes
  due_end n o h ls e =
      let r = o ls e in
      let z : r.0 ≡ [] = no_lines r.0 (omega (arith, code_length r.0, ap length r.1)) in
      sym (r.2 ∙ ap (closes n) z)

-- where a row's words come first
module _ (ws rest row next : List ℕ) (p : rest ≡ row ++ next) (three : length row ≡ 3) where
  first_line : (more : List ScriptLine) → rest ≡ code more
      → (l : ScriptLine) × (ls : List ScriptLine) × (more ≡ l ∷ ls) × (get_or row 0 0 ≡ (row_of l).kind)
      × (next ≡ code ls)
  first_line = split row p three
    where
      split : (r : List ℕ) → rest ≡ r ++ next → length r ≡ 3 → (more : List ScriptLine) → rest ≡ code more
          → (l : ScriptLine) × (ls : List ScriptLine) × (more ≡ l ∷ ls) × (get_or r 0 0 ≡ (row_of l).kind)
          × (next ≡ code ls)
      split (x ∷ y ∷ z ∷ []) q t [] e = unfold code in absurd (omega (arith, ap length (sym q ∙ e)))
      split (x ∷ y ∷ z ∷ []) q t (l ∷ ls) e =
          unfold code in
          let w : x ∷ y ∷ z ∷ next ≡ (row_of l).kind ∷ (row_of l).a ∷ (row_of l).b ∷ code ls = sym q ∙ e in
          (l, ls, refl, cc, cc)
      split [] q t more e = absurd (omega arith)
      split (x ∷ []) q t more e = absurd (omega arith)
      split (x ∷ y ∷ []) q t more e = absurd (omega arith)
      split (x ∷ y ∷ z ∷ u ∷ v) q t more e = absurd (omega arith)

  pub due_none : Due ws rest 0 → (ls : List ScriptLine) → ws ≡ code ls → false ≡ closes 1 ls
  unfolding closes
  due_none o ls e =
      let r = o ls e in
      let f = first_line r.0 r.1 in
      sym (r.2 ∙ ap (closes 0) f.2)

  pub due_more : (n k : ℕ) → Due ws rest n → (n ≡ 0 → ⊥) → k ≡ operand_count (get_or row 0 0) → Due ws next (n - 1 + k)
  unfolding closes
  due_more n k o z d ls e = on n z (o ls e)
    where
      on : (j : ℕ) → (j ≡ 0 → ⊥) → (more : List ScriptLine) × (rest ≡ code more) × (closes 1 ls ≡ closes j more)
          → (more : List ScriptLine) × (next ≡ code more) × (closes 1 ls ≡ closes (j - 1 + k) more)
      on zero f r = absurd (f refl)
      on (suc j) f r =
          let g = first_line r.0 r.1 in
          let m : k ≡ operand_count (row_of g.0).kind = d ∙ ap operand_count g.3 in
          let c : j + line_operands g.0 ≡ suc j - 1 + k = omega (arith, m) in
          (g.1, g.4, r.2 ∙ ap (closes (suc j)) g.2 ∙ ap (λ (i : ℕ). closes i g.1) c)

-- Skipping the lines of an expression or a command: as many operands as its line has.
use mathlib.Core.Path.{◌≡◌, refl, sym, subst, ◌∙◌}
use mathlib.Core.List.{List}
use Prim.Native.Nat.{ℕ, ◌+◌, ◌≤◌, ◌<◌}
use native.Mathlib.Omega.{arith}
use lib.ListN.{length, drop}
use Rattle.script.specs.Lines.{ScriptLine}
use Rattle.script.specs.Internal.Code.{code, row_at}
use Rattle.script.specs.Internal.Pieces.{operand_count}
use Rattle.script.specs.declared.Row.{Row}
use Rattle.script.proofs.Nodes.{Parts, no_parts_lem, one_part, two_parts, three_parts, parts, few_parts}
use Rattle.script.proofs.Nodes.{counted_within}
use Rattle.script.specs.Internal.Skips.{Skips}

module _ (ws : List ℕ) (at : ℕ) {row : Row} {n : ℕ} (r : row ≡ row_at ws at) (o : n ≡ operand_count row.kind) where
  -- a line of a kind lies within the code
  pub line_in : n < 4 → at + 3 ≤ length ws
  line_in l = counted_within ws at r (omega arith)

  by_parts : {m next : ℕ} → n ≡ m → at ≤ next
      → ((rest : List ScriptLine) → Parts ws at rest m → drop next ws ≡ code rest)
      → Skips ws at next
  by_parts e f p =
      record {
        forward = f;
        means = λ ls rest x h. p rest (subst (λ (i : ℕ). Parts ws at rest i) (sym o ∙ e) (parts ws at r x h));
      }

  pub skip-line : n ≡ 0 → Skips ws at (at + 3)
  skip-line e = by_parts e (omega arith) one
    where
      one : (rest : List ScriptLine) → Parts ws at rest 0 → drop (at + 3) ws ≡ code rest
      one rest (no_parts_lem h) = h

  pub skip_one : {next : ℕ} → n ≡ 1 → Skips ws (at + 3) next → Skips ws at next
  skip_one {next} e s = by_parts e (omega (arith, s.forward)) one
    where
      one : (rest : List ScriptLine) → Parts ws at rest 1 → drop next ws ≡ code rest
      one rest (one_part {ls = ls} p h) = s.means ls rest p h

  pub skip_two : {second next : ℕ} → n ≡ 2 → Skips ws (at + 3) second → Skips ws second next → Skips ws at next
  skip_two {second} {next} e s t = by_parts e (omega (arith, s.forward, t.forward)) two
    where
      two : (rest : List ScriptLine) → Parts ws at rest 2 → drop next ws ≡ code rest
      two rest (two_parts {ls = ls} {mid = mid} p q h) = t.means mid rest q (s.means ls mid p h)

  pub skip-three : {second third next : ℕ} → n ≡ 3 → Skips ws (at + 3) second → Skips ws second third
      → Skips ws third next → Skips ws at next
  skip-three {second} {third} {next} e s t u = by_parts e (omega (arith, s.forward, t.forward, u.forward)) three
    where
      three : (rest : List ScriptLine) → Parts ws at rest 3 → drop next ws ≡ code rest
      three rest (three_parts {ls = ls} {mid = mid} {end = end} p q x h) =
          u.means end rest x (t.means mid end q (s.means ls mid p h))

  pub skip_none : (n < 4 → ⊥) → Skips ws at at
  skip_none f = by_parts refl (omega arith) (λ rest p. absurd (f (few_parts ws at p)))

-- The lines of an expression or a command are balanced, and how many operands balanced lines have.
use mathlib.Core.Path.{◌≡◌, refl, ap, ◌∙◌}
use mathlib.Core.Bool.{Bool, true}
use mathlib.Core.List.{List, [], ◌∷◌}
use Prim.Native.Nat.{ℕ, zero, suc, ◌+◌}
use native.Mathlib.Omega.{arith}
use borrow.Author.Tests.{eqb-true}
use lib.ListN.{length}
use Rattle.logic.proofs.BooleanLaws.{absurd_false}
use Rattle.language.specs.Syntax.{Part, first, second, pick, Expr, val, loc, var, plus, left, right, pack, unpack}
use Rattle.language.specs.Syntax.{pairing, proj, Cmd, skip, seq, assign, while, case}
use Rattle.script.specs.Lines.{ScriptLine, l_proj, expr_lines, cmd_lines}
use Rattle.script.specs.Internal.Code.{row_of}
use Rattle.script.specs.Internal.Pieces.{operand_count}
use Rattle.script.specs.Internal.Balance.{line_operands, closes, all_operands}

-- the trees after a line of so many operands: with a sum by which the walk goes on
after : (n k m : ℕ) (ls : List ScriptLine) {b : Bool} → n + k ≡ m → closes m ls ≡ b → closes (n + k) ls ≡ b
after n k m ls e h = ap (λ (i : ℕ). closes i ls) e ∙ h

-- the line of each part has one operand
proj_operands : (p : Part) → line_operands (l_proj p) ≡ 1
unfolding operand_count row_of pick
proj_operands first = refl
proj_operands second = refl

pub expr_closes : (e : Expr) (n : ℕ) (rest : List ScriptLine) → closes (suc n) (expr_lines e rest) ≡ closes n rest
unfolding expr_lines closes operand_count row_of
expr_closes (val v) n rest = after n 0 n rest (omega arith) refl
expr_closes (loc x) n rest = after n 0 n rest (omega arith) refl
expr_closes (var d) n rest = after n 0 n rest (omega arith) refl
expr_closes (plus a b) n rest =
    after n 2 (suc (suc n)) (expr_lines a (expr_lines b rest)) (omega arith)
    (expr_closes a (suc n) (expr_lines b rest) ∙ expr_closes b n rest)
expr_closes (left t a) n rest = after n 1 (suc n) (expr_lines a rest) (omega arith) (expr_closes a n rest)
expr_closes (right t a) n rest = after n 1 (suc n) (expr_lines a rest) (omega arith) (expr_closes a n rest)
expr_closes (pack l a) n rest = after n 1 (suc n) (expr_lines a rest) (omega arith) (expr_closes a n rest)
expr_closes (unpack t l a) n rest = after n 1 (suc n) (expr_lines a rest) (omega arith) (expr_closes a n rest)
expr_closes (pairing t a b) n rest =
    after n 2 (suc (suc n)) (expr_lines a (expr_lines b rest)) (omega arith)
    (expr_closes a (suc n) (expr_lines b rest) ∙ expr_closes b n rest)
expr_closes (proj p a) n rest =
    after n (line_operands (l_proj p)) (suc n) (expr_lines a rest) (omega (arith, proj_operands p))
    (expr_closes a n rest)

pub cmd_closes : (c : Cmd) (n : ℕ) (rest : List ScriptLine) → closes (suc n) (cmd_lines c rest) ≡ closes n rest
unfolding cmd_lines closes operand_count row_of
cmd_closes skip n rest = after n 0 n rest (omega arith) refl
cmd_closes (seq a b) n rest =
    after n 2 (suc (suc n)) (cmd_lines a (cmd_lines b rest)) (omega arith)
    (cmd_closes a (suc n) (cmd_lines b rest) ∙ cmd_closes b n rest)
cmd_closes (assign x e) n rest = after n 1 (suc n) (expr_lines e rest) (omega arith) (expr_closes e n rest)
cmd_closes (while e c) n rest =
    after n 2 (suc (suc n)) (expr_lines e (cmd_lines c rest)) (omega arith)
    (expr_closes e (suc n) (cmd_lines c rest) ∙ cmd_closes c n rest)
cmd_closes (case e a b) n rest =
    after n 3 (suc (suc (suc n))) (expr_lines e (cmd_lines a (cmd_lines b rest))) (omega arith)
    (expr_closes e (suc (suc n)) (cmd_lines a (cmd_lines b rest)) ∙ cmd_closes a (suc n) (cmd_lines b rest)
    ∙ cmd_closes b n rest)

-- The lines of n trees have as many operands as lines, but for n. So where a call of a walk over the lines stands in an
-- operand of a line, that line has taken as many lines as it has operands: two for a command around a command, one for
-- an expression around another.
pub closed_operands : (n : ℕ) (ls : List ScriptLine) → closes n ls ≡ true → all_operands ls + n ≡ length ls
unfolding closes all_operands
closed_operands n [] h = omega (arith, eqb-true n 0 h)
closed_operands zero (l ∷ ls) h = absurd (absurd_false h)
closed_operands (suc n) (l ∷ ls) h = omega (arith, closed_operands (n + line_operands l) ls h)

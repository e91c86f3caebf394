-- How deep the innermost tree stands, counted in lines. A walk over the code makes at most a call for each line that is
-- counted around it, so this bounds the stack.
use Rattle.std.specs.Prelude.{ℕ, ◌+◌, max}
use Rattle.language.specs.Syntax.{Expr, val, loc, var, plus, left, right, pack, unpack, pairing, proj, Cmd, skip, seq}
use Rattle.language.specs.Syntax.{assign, while, case}

-- Each expression around another counts its line. Two are counted around either part of a pair, as an evaluator makes
-- two calls for a pair, and around the second operand of a plus, as a checker does: the other operand has a line as
-- well.
unfoldable pub expr_nesting : Expr → ℕ
expr_nesting (val v) = 0
expr_nesting (loc x) = 0
expr_nesting (var d) = 0
expr_nesting (plus a b) = max (1 + expr_nesting a) (2 + expr_nesting b)
expr_nesting (left t a) = 1 + expr_nesting a
expr_nesting (right t a) = 1 + expr_nesting a
expr_nesting (pack l a) = 1 + expr_nesting a
expr_nesting (unpack t l a) = 1 + expr_nesting a
expr_nesting (pairing t a b) = 2 + max (expr_nesting a) (expr_nesting b)
expr_nesting (proj p a) = 1 + expr_nesting a

-- each command around an expression counts its line, and each around a command two: there is another operand beside
-- the inner command
unfoldable pub cmd_nesting : Cmd → ℕ
cmd_nesting skip = 0
cmd_nesting (seq a b) = 2 + max (cmd_nesting a) (cmd_nesting b)
cmd_nesting (assign x e) = 1 + expr_nesting e
cmd_nesting (while e c) = max (1 + expr_nesting e) (2 + cmd_nesting c)
cmd_nesting (case e a b) = max (1 + expr_nesting e) (2 + max (cmd_nesting a) (cmd_nesting b))

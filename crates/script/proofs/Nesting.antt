-- A script has a line more than its innermost tree stands deep, at least.
use mathlib.Core.List.{List}
use Prim.Native.Nat.{◌+◌, ◌<◌}
use native.Mathlib.Omega.{arith}
use lib.ListN.{length}
use Rattle.language.specs.Syntax.{Expr, val, loc, var, plus, left, right, pack, unpack, pairing, proj, Cmd, skip, seq}
use Rattle.language.specs.Syntax.{assign, while, case}
use Rattle.script.specs.Lines.{ScriptLine, expr_lines, cmd_lines}
use Rattle.script.specs.Internal.Nesting.{expr_nesting, cmd_nesting}

pub expr_nesting_lem : (e : Expr) (rest : List ScriptLine) → expr_nesting e + length rest < length (expr_lines e rest)
unfolding expr_nesting expr_lines
expr_nesting_lem (val v) rest = omega arith
expr_nesting_lem (loc x) rest = omega arith
expr_nesting_lem (var d) rest = omega arith
expr_nesting_lem (plus a b) rest = omega (arith, expr_nesting_lem a (expr_lines b rest), expr_nesting_lem b rest)
expr_nesting_lem (left t a) rest = omega (arith, expr_nesting_lem a rest)
expr_nesting_lem (right t a) rest = omega (arith, expr_nesting_lem a rest)
expr_nesting_lem (pack l a) rest = omega (arith, expr_nesting_lem a rest)
expr_nesting_lem (unpack t l a) rest = omega (arith, expr_nesting_lem a rest)
expr_nesting_lem (pairing t a b) rest = omega (arith, expr_nesting_lem a (expr_lines b rest), expr_nesting_lem b rest)
expr_nesting_lem (proj p a) rest = omega (arith, expr_nesting_lem a rest)

pub cmd_nesting_lem : (c : Cmd) (rest : List ScriptLine) → cmd_nesting c + length rest < length (cmd_lines c rest)
unfolding cmd_nesting cmd_lines
cmd_nesting_lem skip rest = omega arith
cmd_nesting_lem (seq a b) rest = omega (arith, cmd_nesting_lem a (cmd_lines b rest), cmd_nesting_lem b rest)
cmd_nesting_lem (assign x e) rest = omega (arith, expr_nesting_lem e rest)
cmd_nesting_lem (while e c) rest = omega (arith, expr_nesting_lem e (cmd_lines c rest), cmd_nesting_lem c rest)
cmd_nesting_lem (case e a b) rest =
    omega (
      arith,
      expr_nesting_lem e (cmd_lines a (cmd_lines b rest)),
      cmd_nesting_lem a
          (cmd_lines b rest),
      cmd_nesting_lem b rest,
    )

-- What evaluation over a script's lines ensures.
use Rattle.std.specs.Prelude.{◌≡◌, ℕ, ◌≤◌, true, List, drop}
use Rattle.language.specs.Syntax.{Expr}
use Rattle.language.specs.World.{Mem, cell_words}
use Rattle.language.specs.Evaluation.{Res, eval}
use Rattle.sheet.specs.Internal.Tables.{labels_in}
use Rattle.script.specs.Lines.{ScriptLine, SourceE, expr_lines}
use Rattle.script.specs.Internal.Code.{code}
use Rattle.script.specs.Names.{Counts, named_e}
use Rattle.evaluator.specs.Internal.Cells.{CellsHold}
use Rattle.evaluator.specs.Internal.Records.{Setting, Place, Reached, Context}
use Rattle.evaluator.specs.Internal.Nodes.{Gives, Tells}

-- An expression stands at a place, then the rest; it names only what is there.
pub record ExprAt (p : Place) (k : Counts) (rest : List ScriptLine) (e : Expr) : Type 0 where
  pub source : SourceE e
  pub names : named_e k p.depth e ≡ true
  pub lines : drop p.at p.code ≡ code (expr_lines e rest)

-- The table and the cells hold what the words stand for, and the memory M.
pub record StandsFor (S : Setting) (p : Place) (C : Context) (M : Mem) : Type 0 where
  pub tells : Tells S C.world
  pub labels : C.counts.labels ≡ labels_in S.table
  pub cells : CellsHold p.cells C.counts.locations p.depth M C.env

-- The answer is x; where that is a value, the rest follows in the code.
abbrev pub Answers : Res → List ℕ → List ScriptLine → Reached → Type 0
Answers x ws rest r = Gives x r × (r.state ≡ 0 → drop r.next ws ≡ code rest)

pub record Evals (S : Setting) (p : Place) (r : Reached) : Type 0 where
  pub forward : r.state ≡ 0 → p.at ≤ r.next
  pub kept : drop cell_words r.cells ≡ drop cell_words p.cells
  pub means : (C : Context) (M : Mem) (e : Expr) (rest : List ScriptLine) → StandsFor S p C M
      → ExprAt p C.counts rest e
      → Answers (eval C.world C.env M e) p.code rest r

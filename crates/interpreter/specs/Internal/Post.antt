-- What the functions over a script's lines ensure.
use Rattle.std.specs.Prelude.{Result, Ok, Err, Bool}
use Rattle.std.specs.Prelude.{◌≡◌, true, false, List, ◌∷◌, ℕ, zero, suc, ◌≤◌, ◌<◌, drop}
use Rattle.language.specs.Syntax.{Value, int, err, inl, inr, pkg, pair, blank, Expr, Cmd, assign}
use Rattle.language.specs.World.{Mem, cell_words}
use Rattle.language.specs.Substitution.{Env, close}
use Rattle.language.specs.Evaluation.{Res, ok, long, stuck, eval}
use Rattle.language.specs.Transition.{Out, done, spent, over, wrong, iterate}
use Rattle.script.specs.Lines.{ScriptLine, Source, cmd_lines}
use Rattle.script.specs.Internal.Code.{code}
use Rattle.script.specs.Names.{Counts, named, max_depth}
use Rattle.memory.specs.Words.{cell}
use Rattle.memory.specs.Memory.{cell_of}
use Rattle.cells.specs.Internal.Cells.{accumulator}
use Rattle.evaluator.specs.Internal.Cells.{CellsHold}
use Rattle.evaluator.specs.Internal.Records.{Setting, Place, place_of, Context}
use Rattle.evaluator.specs.Internal.Post.{ExprAt, StandsFor}
use Rattle.evaluator.specs.State.{state_number}
use Rattle.evaluator.specs.declared.Stop.{Stop}
use Rattle.interpreter.specs.declared.commands.Side.{Side}
use Rattle.interpreter.specs.declared.commands.Side.TheVariants.{Left, Right}

-- ---- places in the code

-- A command stands at a place, then the rest; it names only what is there.
pub record CmdAt (p : Place) (k : Counts) (rest : List ScriptLine) (c : Cmd) : Type 0 where
  pub source : Source c
  pub names : named k p.depth c ≡ true
  pub lines : drop p.at p.code ≡ code (cmd_lines c rest)

-- ---- exec

-- Where a run that is done comes out: before the rest of the code, with so many locations and what the cases
-- bind in the cells.
pub record Target : Type 0 where
  pub code : List ℕ
  pub rest : List ScriptLine
  pub locations : ℕ
  pub depth : ℕ
  pub env : Env

abbrev pub target : Place → Context → List ScriptLine → Target
target p C rest =
    record { code = p.code; rest = rest; locations = C.counts.locations; depth = p.depth; env = C.env }

-- how a command's run ends: its state's number, the rest of the budget, and where the command's lines end
pub record Stepped : Type 0 where
  pub state : ℕ
  pub left : ℕ
  pub next : ℕ

abbrev pub executed : Result ℕ Stop → ℕ → Stepped
executed r left = record { state = state_number r; left = left; next = place_of r }

-- How the run of a command ends, by its state's number: done, with the memory in the cells and the place after
-- the command; the budget used up; a value too long. Where no rule applies nothing is promised: no accepted
-- script comes there.
pub data Finishes (g : Target) (d : Stepped) (cells : List ℕ) : Out → Type 0 where
  finish_done : {M : Mem} {b : ℕ} → d.state ≡ 0 → d.left ≡ b
      → CellsHold cells g.locations g.depth M g.env → drop d.next g.code ≡ code g.rest
      → Finishes g d cells (done M b)
  finish_spent : d.state ≡ 9 → d.left ≡ 0 → Finishes g d cells spent
  finish_over : {b : ℕ} → d.state ≡ 10 → d.left ≡ b → Finishes g d cells (over b)
  finish_wrong : Finishes g d cells wrong

pub record Execs (S : Setting) (p : Place) (fuel : ℕ) (d : Stepped) (cells : List ℕ) : Type 0 where
  pub forward : d.state ≡ 0 → p.at ≤ d.next
  pub spends : d.left ≤ fuel
  pub means : (C : Context) (M : Mem) (c : Cmd) (rest : List ScriptLine) → StandsFor S p C M
      → CmdAt p C.counts rest c
      → Finishes (target p C rest) d cells (iterate C.world fuel M (close zero C.env c))

-- An assignment to location x, the expression standing at p.
pub record Assigns (S : Setting) (p : Place) (fuel x : ℕ) (d : Stepped) (cells : List ℕ) : Type 0 where
  pub forward : d.state ≡ 0 → p.at ≤ d.next
  pub spends : d.left ≤ fuel
  pub means : (C : Context) (M : Mem) (e : Expr) (rest : List ScriptLine) → StandsFor S p C M
      → ExprAt p C.counts rest e → x < C.counts.locations
      → Finishes (target p C rest) d cells (iterate C.world fuel M (close zero C.env (assign x e)))

-- What a guard or the expression of a case decides, as a transition: left or right, with the value inside and the
-- rest of the budget; no budget; a value too long, with what the rest would have been; no rule.
pub data Choice : Type 0 where
  to_left to_right : Value → ℕ → Choice
  no_budget : Choice
  choice_long : ℕ → Choice
  choice_stuck : Choice

unfoldable pub choice_v : ℕ → Value → Choice
choice_v b (int n) = choice_stuck
choice_v b (err e) = choice_stuck
choice_v b (inl v) = to_left v b
choice_v b (inr v) = to_right v b
choice_v b (pkg h v) = choice_stuck
choice_v b (pair v w) = choice_stuck
choice_v b blank = choice_stuck

unfoldable pub choice : ℕ → Res → Choice
choice zero r = no_budget
choice (suc b) (ok v) = choice_v b v
choice (suc b) long = choice_long b
choice (suc b) stuck = choice_stuck

-- how it is decided: the state's number, the rest of the budget, a place, and whether for a left
pub record Decided : Type 0 where
  pub state : ℕ
  pub left : ℕ
  pub next : ℕ
  pub on : Bool

abbrev pub is_left : Side → Bool
is_left Left = true
is_left Right = false

abbrev pub decided : Result (Side × ℕ) Stop → ℕ → Decided
decided (Ok x) left = record { state = 0; left = left; next = x.1; on = is_left x.0 }
decided (Err s) left = record { state = state_number {A = ℕ} (Err s); left = left; next = 0; on = false }

-- State 0, with `on` for left; the value in the accumulator, and the place after the expression.
pub data Chooses (ws : List ℕ) (rest : List ScriptLine) (g : Decided) (cells : List ℕ) : Choice → Type 0 where
  goes_left : {v : Value} {b : ℕ} → g.state ≡ 0 → g.left ≡ b → g.on ≡ true
      → cell_of cells accumulator ≡ cell (inl v) → drop g.next ws ≡ code rest → Chooses ws rest g cells (to_left v b)
  goes_right : {v : Value} {b : ℕ} → g.state ≡ 0 → g.left ≡ b → g.on ≡ false
      → cell_of cells accumulator ≡ cell (inr v) → drop g.next ws ≡ code rest → Chooses ws rest g cells (to_right v b)
  has_none : g.state ≡ 9 → g.left ≡ 0 → Chooses ws rest g cells no_budget
  is_long : {b : ℕ} → g.state ≡ 10 → g.left ≡ suc b → Chooses ws rest g cells (choice_long b)
  is_stuck : Chooses ws rest g cells choice_stuck

pub record Decides (S : Setting) (p : Place) (fuel : ℕ) (g : Decided) (cells : List ℕ) : Type 0 where
  pub forward : g.state ≡ 0 → p.at ≤ g.next
  pub spends : g.left ≤ fuel
  pub settled : g.on ≡ true → g.state ≡ 0
  pub falls : g.on ≡ true → g.left < fuel
  pub kept : drop cell_words cells ≡ drop cell_words p.cells
  pub means : (C : Context) (M : Mem) (e : Expr) (rest : List ScriptLine) → StandsFor S p C M
      → ExprAt p C.counts rest e
      → Chooses p.code rest g cells (choice fuel (eval C.world C.env M e))

-- The branches of a case, for a left and for a right.
pub record Branching : Type 0 where
  pub on_left : Cmd
  pub on_right : Cmd

-- The branch taken, with `on` for left: its value is bound, and it starts at the place.
pub data Enters (g : Target) (M : Mem) (cs : Branching) (t : Decided) (cells : List ℕ) : Choice → Type 0 where
  enters_left : {v : Value} {b : ℕ} → t.state ≡ 0 → t.left ≡ b → t.on ≡ true
      → CellsHold cells g.locations (suc g.depth) M (v ∷ g.env)
      → drop t.next g.code ≡ code (cmd_lines cs.on_left (cmd_lines cs.on_right g.rest))
      → Enters g M cs t cells (to_left v b)
  enters_right : {v : Value} {b : ℕ} → t.state ≡ 0 → t.left ≡ b → t.on ≡ false
      → CellsHold cells g.locations (suc g.depth) M (v ∷ g.env)
      → drop t.next g.code ≡ code (cmd_lines cs.on_right g.rest) → Enters g M cs t cells (to_right v b)
  enters_spent : t.state ≡ 9 → t.left ≡ 0 → Enters g M cs t cells no_budget
  enters_long : {b : ℕ} → t.state ≡ 10 → t.left ≡ suc b → Enters g M cs t cells (choice_long b)
  enters_stuck : Enters g M cs t cells choice_stuck

pub record Branches (S : Setting) (p : Place) (fuel : ℕ) (t : Decided) (cells : List ℕ) : Type 0 where
  pub forward : t.state ≡ 0 → p.at ≤ t.next
  pub spends : t.left ≤ fuel
  pub shallow : t.state ≡ 0 → p.depth < max_depth
  pub means : (C : Context) (M : Mem) (e : Expr) (cs : Branching) (rest : List ScriptLine) → StandsFor S p C M
      → ExprAt p C.counts (cmd_lines cs.on_left (cmd_lines cs.on_right rest)) e
      → Source cs.on_left → p.depth < max_depth
      → Enters (target p C rest) M cs t cells (choice fuel (eval C.world C.env M e))

-- What the checkers ensure, for every expression or command whose lines stand at a word of the code.
use Rattle.std.specs.Prelude.{◌≡◌, Bool, true, false, cond, List, [], ℕ, ◌≤◌, length, drop}
use Rattle.std.specs.Prelude.{Result, Ok, Err}
use Rattle.language.specs.Syntax.{Expr, Cmd, Script}
use Rattle.language.specs.Typing.{least, flow_e, flow, refusal}
use Rattle.language.specs.Trust.{keeps_e, keeps, trust_keeping}
use Rattle.script.specs.Lines.{ScriptLine, SourceE, expr_lines, Source, cmd_lines}
use Rattle.script.specs.Internal.Code.{code}
use Rattle.script.specs.Names.{Counts, named}
use Rattle.sheet.specs.Sheet.{Sheet, formed, repeats}
use Rattle.sheet.specs.Internal.Tables.{table_of}
use Rattle.sheet.specs.Internal.Starts.{start_no}
use Rattle.sheet.specs.Meaning.{labels_over, declarations_of}
use Rattle.checker.specs.declared.TypingError.{TypingError}
use Rattle.checker.specs.declared.TypingError.TheVariants.{IllTyped, IllLabelled}
use Rattle.checker.specs.declared.bindings.Bindings.{Bindings}
use Rattle.checks.specs.declared.Typed.{Typed}
use Rattle.checks.specs.declared.Passed.{Passed}
use Rattle.checker.specs.Internal.Numbers.{given_no, type_no, shape_no, conditions_on, below_on}
use Rattle.checker.specs.Internal.Bindings.{Within, bound_types, bound_labels}

-- x is what typing finds of e
pub record Finds (t Γ Δ : List ℕ) (e : Expr) (x : Typed) : Type 0 where
  pub type_is : given_no x.typed x.ty ≡ type_no t Γ e
  pub label_is : x.label ≡ least (conditions_on t) Δ e
  pub flow_is : x.holds.flow ≡ flow_e (conditions_on t) Δ e
  pub keeping_is : x.holds.keeping ≡ keeps_e (conditions_on t) (below_on t) Δ e

pub record ChecksExpr (ws : List ℕ) (at : ℕ) (t : List ℕ) (b : Bindings) (x : Typed) : Type 0 where
  pub onward : at ≤ x.next
  pub means : (e : Expr) (rest : List ScriptLine) → SourceE e → drop at ws ≡ code (expr_lines e rest) → Within b
      → Finds t (bound_types b) (bound_labels b) e x × (drop x.next ws ≡ code rest)

-- r is what a line makes of its second operand, which stands after its first operand x
abbrev pub ChecksSecond : List ℕ → List ℕ → Bindings → Typed → (Typed → Typed) → Typed → Type 0
ChecksSecond ws t b x makes r = (y : Typed) × ChecksExpr ws x.next t b y × (r ≡ makes y)

-- c binds what b binds, and has as many places
pub record Kept (b c : Bindings) : Type 0 where
  pub size : length c.cases ≡ length b.cases
  pub depth : c.depth ≡ b.depth
  pub types : bound_types c ≡ bound_types b
  pub labels : bound_labels c ≡ bound_labels b

-- x is what typing finds of c below the surrounding label pc
pub record Passes (t Γ : List ℕ) (pc : ℕ) (Δ : List ℕ) (c : Cmd) (x : Passed) : Type 0 where
  pub typed_is : x.typed ≡ shape_no t Γ c
  pub flow_is : x.holds.flow ≡ flow (conditions_on t) pc Δ c
  pub keeping_is : x.holds.keeping ≡ keeps (conditions_on t) (below_on t) Δ c

pub record ChecksCmd (ws : List ℕ) (at : ℕ) (t : List ℕ) (b : Bindings) (pc : ℕ) (x : Passed) (b' : Bindings)
    : Type 0 where
  pub onward : at ≤ x.next
  pub kept : Kept b b'
  pub means : (k : Counts) (c : Cmd) (rest : List ScriptLine) → Source c → drop at ws ≡ code (cmd_lines c rest)
      → named k b.depth c ≡ true → Within b
      → Passes t (bound_types b) pc (bound_labels b) c x × (drop x.next ws ≡ code rest)

-- r is the number of the verdict (`verdict_number`: 0, 5 or 6). For the code and the start of a script whose command
-- names what is there, with the table of a sheet of the right form that repeats nothing, it is the scope's number.
pub record ChecksCode (ws t : List ℕ) (start r : ℕ) : Type 0 where
  pub exact : (s : Sheet) → formed s ≡ true → repeats s ≡ false → t ≡ table_of s → (k : Counts) (p : Script)
      → Source p.command
      → named k 0 p.command ≡ true → ws ≡ code (cmd_lines p.command []) → start ≡ start_no p.opening.start
      → r ≡ refusal (labels_over s.principals) (declarations_of s) p

-- For such code and such a table r says whether the script is trust-keeping.
pub record KeepsCode (ws t : List ℕ) (r : Bool) : Type 0 where
  pub says : (s : Sheet) → formed s ≡ true → t ≡ table_of s → (k : Counts) (p : Script) → Source p.command
      → named k 0 p.command ≡ true
      → ws ≡ code (cmd_lines p.command []) → r ≡ trust_keeping (labels_over s.principals) (declarations_of s) p

-- what is found of a script, by whether its types fit and whether its label conditions hold
abbrev pub verdict_of : Bool → Bool → Result Unit TypingError
verdict_of typed flow = cond typed (cond flow (Ok tt) (Err IllLabelled)) (Err IllTyped)

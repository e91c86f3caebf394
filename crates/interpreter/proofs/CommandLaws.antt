-- `Execs`: a law for each kind of line.
use mathlib.Core.Path.{◌≡◌, refl, sym, subst, ◌∙◌}
use mathlib.Core.Bool.{Bool, true, false, false≢true}
use mathlib.Core.List.{List, ◌∷◌}
use Prim.Native.Nat.{ℕ, zero, suc, ◌+◌, ◌≤◌}
use native.Mathlib.Omega.{arith}
use native.Mathlib.Numerals.{add-one}
use Rattle.std.specs.Prelude.{Option, Some, None}
use borrow.Author.Tests.{ltb-true}
use lib.ListN.{drop}
use Rattle.language.specs.Syntax.{Value, int, err, inl, inr, pkg, pair, blank, Expr, Cmd, seq, while, case}
use Rattle.language.specs.World.{Mem}
use Rattle.language.specs.Evaluation.{Res, ok, long, stuck, eval}
use Rattle.language.specs.Transition.{branch, branch_v, Out, done, spent, over, wrong}
use Rattle.logic.proofs.BooleanLaws.{both_left, both_right}
use Rattle.language.proofs.Interpreter.{go, and_then, spend, go_skip, go_seq, go_case, go_while}
use Rattle.script.specs.Lines.{ScriptLine, SourceE, Source, expr_lines, cmd_lines}
use Rattle.script.specs.Internal.Code.{code, row_at}
use Rattle.script.specs.Names.{Counts, named}
use Rattle.script.specs.declared.Row.{Row}
use Rattle.script.specs.Internal.Pieces.{command, a_command}
use Rattle.script.proofs.Rows.{CmdRow, at_skip, at_seq, at_assign, at_while, at_case, row_of_lem, KindOf, not_here}
use Rattle.evaluator.specs.Internal.Cells.{CellsHold}
use Rattle.evaluator.specs.Internal.Records.{Setting, Place, Context}
use Rattle.evaluator.specs.Internal.Post.{StandsFor}
use Rattle.script.specs.Internal.Skips.{Skips}
use Rattle.interpreter.specs.Internal.Post.{CmdAt, Target, target, Finishes, finish_done, finish_spent}
use Rattle.interpreter.specs.Internal.Post.{Stepped, finish_over, finish_wrong, Execs, Assigns, Choice, Decided}
use Rattle.interpreter.specs.Internal.Post.{to_left, to_right, no_budget, choice_long, choice_stuck, choice_v}
use Rattle.interpreter.specs.Internal.Post.{choice, Chooses, goes_left, goes_right, has_none, is_long, is_stuck}
use Rattle.interpreter.specs.Internal.Post.{Decides, Branching, Enters, enters_left, enters_right, enters_spent}
use Rattle.interpreter.specs.Internal.Post.{enters_long, enters_stuck, Branches}
use Rattle.evaluator.proofs.StateLaws.{holds_kept, holds_leave}
use Rattle.evaluator.proofs.EvalLaws.{moved, operand, held_after}
use Rattle.interpreter.proofs.ExecLaws.{ticked, Ticks, ticked-then, ends_there, goes_on_lem}

-- the row that was read is that of the command
cmd_row_of : {p : Place} {row : Row} {k : Counts} {rest : List ScriptLine} {c : Cmd} (kind : ℕ)
    → row ≡ row_at p.code p.at → row.kind ≡ kind
    → CmdAt p k rest c → CmdRow p.code p.at rest kind row.a row.b c
cmd_row_of {p} {rest = rest} {c = c} kind r q x = row_of_lem p.code p.at command c rest r q x.source x.lines

-- the run of a command in a context
abbrev ran : Context → Cmd → Mem → ℕ → Out
ran C c M b = go C.world C.env c M b

-- the context and the place of a branch that binds v
abbrev bound : Context → Value → Context
bound C v = record { world = C.world; counts = C.counts; env = v ∷ C.env }

abbrev inside : Place → ℕ → List ℕ → Place
inside p n cells = record { code = p.code; at = n; depth = suc p.depth; cells = cells }

-- what `Execs` says, by that run
module _ {S : Setting} {p : Place} {fuel : ℕ} {d : Stepped} {cells : List ℕ} where
  runs : Execs S p fuel d cells → (C : Context) (M : Mem) (c : Cmd) (rest : List ScriptLine) → StandsFor S p C M
      → CmdAt p C.counts rest c
      → Finishes (target p C rest) d cells (ran C c M fuel)
  unfolding go
  runs x C M c rest held here = x.means C M c rest held here

  by_runs : (d.state ≡ 0 → p.at ≤ d.next) → d.left ≤ fuel
      → ((C : Context) (M : Mem) (c : Cmd) (rest : List ScriptLine) → StandsFor S p C M → CmdAt p C.counts rest c
      → Finishes (target p C rest) d cells (ran C c M fuel))
      → Execs S p fuel d cells
  unfolding go
  by_runs f s m = record { forward = f; spends = s; means = m }

-- ---- decisions

chosen : (Value → ℕ → Out) → (Value → ℕ → Out) → Choice → Out
chosen l r (to_left v b) = l v b
chosen l r (to_right v b) = r v b
chosen l r no_budget = spent
chosen l r (choice_long b) = over (suc b)
chosen l r choice_stuck = wrong

chosen_is : (l r : Value → ℕ → Out) (fuel : ℕ) (res : Res)
    → spend fuel (λ b. branch (λ v. l v b) (λ v. r v b) (over (suc b)) wrong res) ≡ chosen l r (choice fuel res)
unfolding spend branch branch_v choice choice_v chosen
chosen_is l r zero res = refl
chosen_is l r (suc b) (ok (int n)) = refl
chosen_is l r (suc b) (ok (err e)) = refl
chosen_is l r (suc b) (ok (inl v)) = refl
chosen_is l r (suc b) (ok (inr v)) = refl
chosen_is l r (suc b) (ok (pkg h v)) = refl
chosen_is l r (suc b) (ok (pair v w)) = refl
chosen_is l r (suc b) (ok blank) = refl
chosen_is l r (suc b) long = refl
chosen_is l r (suc b) stuck = refl

module _ {t : Target} {g : Decided} {ws : List ℕ} {mid : List ScriptLine} {seen : List ℕ} (l : Value → ℕ → Out) where
  -- a guard that doesn't go on
  stops : {M : Mem} {c : Choice} {cells : List ℕ} (next : ℕ) → g.on ≡ false → Chooses ws mid g seen c
      → CellsHold cells t.locations t.depth M t.env
      → (g.state ≡ 0 → drop g.next ws ≡ code mid → drop next t.code ≡ code t.rest)
      → Finishes t (record { state = g.state; left = g.left; next = next }) cells (chosen l (λ v b. done M b) c)
  unfolding chosen
  stops next o (goes_left s f i a n) held e = absurd (false≢true (sym o ∙ i))
  stops next o (goes_right s f i a n) held e = finish_done s f held (e s n)
  stops next o (has_none s f) held e = finish_spent s f
  stops next o (is_long s f) held e = finish_over s f
  stops next o is_stuck held e = finish_wrong

  -- a guard that goes on
  turns_on : {c : Choice} {d : Stepped} {cells : List ℕ} (r : Value → ℕ → Out) → g.state ≡ 0
      → g.on ≡ true → Chooses ws mid g seen c
      → ((v : Value) → drop g.next ws ≡ code mid → Finishes t d cells (l v g.left))
      → Finishes t d cells (chosen l r c)
  unfolding chosen
  turns_on {d = d} {cells = cells} r z o (goes_left {v = v} s f i a n) k =
      subst (λ (b : ℕ). Finishes t d cells (l v b)) f (k v n)
  turns_on r z o (goes_right s f i a n) k = absurd (false≢true (sym i ∙ o))
  turns_on r z o (has_none s f) k = absurd (omega arith)
  turns_on r z o (is_long s f) k = absurd (omega arith)
  turns_on r z o is_stuck k = finish_wrong

-- where a while ends that stops: past its body, or where its last round ended
pub data Stops (ws : List ℕ) (body : ℕ) : Option ℕ → ℕ → Type 0 where
  past_body : {end : ℕ} → Skips ws body end → Stops ws body None end
  at_last : {end : ℕ} → Stops ws body (Some end) end

-- a fact about the place where the last round ended, if there was one
abbrev pub OnLast : Option ℕ → (ℕ → Type 0) → Type 0
OnLast last P = (n : ℕ) → last ≡ Some n → P n

module _ {ws : List ℕ} {body : ℕ} where
  stops_after : {at end : ℕ} {last : Option ℕ} → Stops ws body last end → at ≤ body → OnLast last (λ n. at ≤ n)
      → at ≤ end
  stops_after (past_body k) b l = omega (arith, k.forward)
  stops_after (at_last {end = end}) b l = l end refl

  stops_at : {last : Option ℕ} (c : Cmd) (rest : List ScriptLine) {end : ℕ} → Stops ws body last end → Source c
      → OnLast last (λ n. drop n ws ≡ code rest)
      → drop body ws ≡ code (cmd_lines c rest) → drop end ws ≡ code rest
  stops_at c rest (past_body k) s l b = k.means _ _ (a_command s) b
  stops_at c rest (at_last {end = end}) s l b = l end refl

-- `Execs` of a while in its rounds, the last of which ended at `last`
pub record Rounds (S : Setting) (p : Place) (fuel : ℕ) (last : Option ℕ) (d : Stepped) (cells : List ℕ) : Type 0 where
  pub forward : d.state ≡ 0 → p.at ≤ d.next
  pub spends : d.left ≤ fuel
  pub means : (C : Context) (M : Mem) (c : Cmd) (rest : List ScriptLine) → StandsFor S p C M
      → CmdAt p C.counts rest c
      → OnLast last (λ n. drop n p.code ≡ code rest) → Finishes (target p C rest) d cells (ran C c M fuel)

module _ {S : Setting} {p : Place} {fuel : ℕ} {d : Stepped} {cells : List ℕ} where
  pub rounds_first : Rounds S p fuel None d cells → Execs S p fuel d cells
  rounds_first x =
      by_runs x.forward x.spends (λ C M c rest held here. x.means C M c rest held here (λ n e. absurd (cc)))

  pub rounds_any : {last : Option ℕ} → Execs S p fuel d cells → Rounds S p fuel last d cells
  rounds_any x =
      record { forward = x.forward; spends = x.spends; means = λ C M c rest held here l. runs x C M c rest held here }

-- where a case ends whose branch ends as d, for a left and for a right; nowhere where d stops
pub data Ends (ws : List ℕ) (d : Stepped) : Bool → ℕ → Type 0 where
  past_second : {end : ℕ} → Skips ws d.next end → Ends ws d true end
  at_end : Ends ws d false d.next
  no_end : {on : Bool} {end : ℕ} → (d.state ≡ 0 → ⊥) → Ends ws d on end

ends_after : {ws : List ℕ} {d : Stepped} {end : ℕ} {on : Bool} → Ends ws d on end → d.state ≡ 0 → d.next ≤ end
ends_after (past_second k) z = k.forward
ends_after at_end z = omega arith
ends_after (no_end f) z = absurd (f z)

-- ---- the kinds, each matched at its number

module _ {S : Setting} (p : Place) {C : Context} {M : Mem} (held : StandsFor S p C M) where
  operand-held : StandsFor S (operand p) C M
  operand-held = held_after held refl refl

  skip_case : {fuel : ℕ} {rest : List ScriptLine} {a b : ℕ} {c : Cmd} → CmdRow p.code p.at rest 1 a b c
      → Finishes (target p C rest) (record { state = 0; left = fuel; next = p.at + 3 }) p.cells (ran C c M fuel)
  skip_case {fuel} (at_skip h) = rw (go_skip C.world C.env M fuel) (finish_done refl refl held.cells h)

  -- a command that stands after the line of `;`
  module _ {fuel : ℕ} {d t : Stepped} {cells : List ℕ} (x : Execs S (operand p) fuel d cells) (y : Ticks d t) where
    first_ends : (c d : Cmd) (rest : List ScriptLine) → Source c → named C.counts p.depth c ≡ true
        → drop (p.at + 3) p.code ≡ code (cmd_lines c (cmd_lines d rest))
        → Finishes (target p C (cmd_lines d rest)) t cells (ticked (ran C c M fuel))
    first_ends c d rest s n h =
        y.means (runs x C M c (cmd_lines d rest) operand-held (record { source = s; names = n; lines = h }))

    seq_is : (c d : Cmd) → ran C (seq c d) M fuel ≡ and_then (ticked (ran C c M fuel)) (λ M' b. ran C d M' b)
    seq_is c d = go_seq C.world C.env M c d fuel ∙ ticked-then (ran C c M fuel) (λ M' b. ran C d M' b)

    seq_end_case : {rest : List ScriptLine} {a b : ℕ} {c : Cmd} (next : ℕ) → CmdRow p.code p.at rest 2 a b c
        → named C.counts p.depth c ≡ true
        → (t.state ≡ 0 → ⊥)
        → Finishes (target p C rest) (record { state = t.state; left = t.left; next = next }) cells (ran C c M fuel)
    unfolding named
    seq_end_case {rest} next (at_seq {c = c} {d = d} s r h) n z =
        rw (seq_is c d) (ends_there (λ M' b. ran C d M' b) next z (first_ends c d rest s (both_left _ _ n) h))

    seq_case : {rest : List ScriptLine} {a b : ℕ} {c : Cmd} {r : Stepped} {cells' : List ℕ}
        → CmdRow p.code p.at rest 2 a b c
        → named C.counts p.depth c ≡ true → t.state ≡ 0
        → Execs S (moved p t.next cells) t.left r cells'
        → Finishes (target p C rest) r cells' (ran C c M fuel)
    unfolding named
    seq_case {rest} (at_seq {c = c} {d = d} s s' h) n z u =
        rw (seq_is c d)
        (goes_on_lem (λ M' b. ran C d M' b) z (first_ends c d rest s (both_left _ _ n) h)
        (λ M' held' q. runs u C M' d rest (record { tells = held.tells; labels = held.labels; cells = held' })
        (record { source = s'; names = both_right _ _ n; lines = q })))

  assign_case : {fuel : ℕ} {rest : List ScriptLine} {a b : ℕ} {c : Cmd} {d : Stepped} {cells : List ℕ}
      → CmdRow p.code p.at rest 3 a b c → named C.counts p.depth c ≡ true
      → Assigns S (operand p) fuel a d cells → Finishes (target p C rest) d cells (ran C c M fuel)
  unfolding named go
  assign_case {rest = rest} (at_assign {x = x} {e = e} s h) n y =
      y.means C M e rest operand-held (record { source = s; names = both_right _ _ n; lines = h })
      (ltb-true _ _ (both_left _ _ n))

  -- a loop
  module _ {fuel : ℕ} {g : Decided} {cells : List ℕ} (y : Decides S (operand p) fuel g cells) where
    -- a round, the first part of it being the guard
    round : Expr → Cmd → Value → ℕ → Out
    round e c v b = and_then (ran C c M b) (λ M' b'. spend b' (λ b''. ran C (while e c) M' b''))

    while_is : (e : Expr) (c : Cmd)
        → ran C (while e c) M fuel ≡ chosen (round e c) (λ v b. done M b) (choice fuel (eval C.world C.env M e))
    unfolding round
    while_is e c = go_while C.world C.env M e c fuel
        ∙ chosen_is (round e c) (λ v b. done M b) fuel (eval C.world C.env M e)

    module _ (e : Expr) (c : Cmd) (rest : List ScriptLine) (s : SourceE e) (r : Source c)
        (n : named C.counts p.depth (while e c) ≡ true)
        (h : drop (p.at + 3) p.code ≡ code (expr_lines e (cmd_lines c rest))) where
      guard-chooses : Chooses p.code (cmd_lines c rest) g cells (choice fuel (eval C.world C.env M e))
      unfolding named
      guard-chooses =
          y.means C M e (cmd_lines c rest) operand-held (record { source = s; names = both_left _ _ n; lines = h })

      -- the end of a round, after its transition
      module _ {d t : Stepped} {cells' : List ℕ} (x : Execs S (moved p g.next cells) g.left d cells')
          (y' : Ticks d t)
          (b : drop g.next p.code ≡ code (cmd_lines c rest)) where
        round-ends : Finishes (target p C rest) t cells' (ticked (ran C c M g.left))
        unfolding named
        round-ends = y'.means (runs x C M c rest (held_after held y.kept refl)
            (record { source = r; names = both_right _ _ n; lines = b }))

        round-stops : (next : ℕ) (v : Value) → (t.state ≡ 0 → ⊥)
            → Finishes (target p C rest) (record { state = t.state; left = t.left; next = next }) cells'
            (round e c v g.left)
        unfolding round
        round-stops next v z = rw (ticked-then (ran C c M g.left) (λ M' b. ran C (while e c) M' b))
            (ends_there (λ M' b. ran C (while e c) M' b) next z round-ends)

        round-goes : {r : Stepped} {cells'' : List ℕ} (v : Value) → t.state ≡ 0
            → CmdAt p C.counts rest (while e c)
            → Rounds S (moved p p.at cells') t.left (Some t.next) r cells''
            → Finishes (target p C rest) r cells'' (round e c v g.left)
        unfolding round
        round-goes v z here u =
            rw (ticked-then (ran C c M g.left) (λ M' b. ran C (while e c) M' b))
            (goes_on_lem (λ M' b. ran C (while e c) M' b) z round-ends
            (λ M' held' q.
            u.means C M' (while e c) rest (record { tells = held.tells; labels = held.labels; cells = held' })
            (record { source = here.source; names = here.names; lines = here.lines })
            (λ n e. let e' : t.next ≡ n = cc in subst (λ (i : ℕ). drop i p.code ≡ code rest) e' q)))

    while_stop_case : {rest : List ScriptLine} {a b : ℕ} {c : Cmd} {last : Option ℕ} {end : ℕ}
        → CmdRow p.code p.at rest 4 a b c
        → named C.counts p.depth c ≡ true
        → g.on ≡ false → (g.state ≡ 0 → Stops p.code g.next last end)
        → OnLast last (λ n. drop n p.code ≡ code rest)
        → Finishes (target p C rest) (record { state = g.state; left = g.left; next = end }) cells (ran C c M fuel)
    while_stop_case {rest} {end = end} (at_while {e = e} {c = c} s r h) n z k l =
        rw (while_is e c)
        (stops (round e c) end z (guard-chooses e c rest s r n h) (holds_kept held.cells cells y.kept)
        (λ q. stops_at c rest (k q) r l))

    module _ {d t : Stepped} {cells' : List ℕ} (o : g.on ≡ true)
        (x : Execs S (moved p g.next cells) g.left d cells') (y' : Ticks d t) where
      while-end-case : {rest : List ScriptLine} {a b : ℕ} {c : Cmd} (next : ℕ) → CmdRow p.code p.at rest 4 a b c
          → named C.counts p.depth c ≡ true
          → (t.state ≡ 0 → ⊥)
          → Finishes (target p C rest) (record { state = t.state; left = t.left; next = next }) cells' (ran C c M fuel)
      while-end-case {rest} next (at_while {e = e} {c = c} s r h) n z =
          rw (while_is e c)
          (turns_on (round e c) (λ v b. done M b) (y.settled o) o (guard-chooses e c rest s r n h)
          (λ v b. round-stops e c rest s r n h x y' b next v z))

      while-again-case : {rest : List ScriptLine} {a b : ℕ} {c : Cmd} {u : Stepped} {cells'' : List ℕ}
          → CmdRow p.code p.at rest 4 a b c
          → CmdAt p C.counts rest c → t.state ≡ 0
          → Rounds S (moved p p.at cells') t.left (Some t.next) u cells''
          → Finishes (target p C rest) u cells'' (ran C c M fuel)
      while-again-case {rest} (at_while {e = e} {c = c} s r h) here z w =
          rw (while_is e c)
          (turns_on (round e c) (λ v b. done M b) (y.settled o) o (guard-chooses e c rest s r here.names h)
          (λ v b. round-goes e c rest s r here.names h x y' b v z here w))

  -- a case
  module _ {fuel : ℕ} {t : Decided} {cells : List ℕ} (y : Branches S (operand p) fuel t cells) where
    case_is : (e : Expr) (c d : Cmd)
        → ran C (case e c d) M fuel ≡ chosen (λ v b. ran (bound C v) c M b) (λ v b. ran (bound C v) d M b)
        (choice fuel (eval C.world C.env M e))
    case_is e c d =
        go_case C.world C.env M e c d fuel
        ∙ chosen_is (λ v b. ran (bound C v) c M b) (λ v b. ran (bound C v) d M b) fuel (eval C.world C.env M e)

    enters : (rest : List ScriptLine) {e : Expr} {c d : Cmd} → SourceE e → Source c
        → named C.counts p.depth (case e c d) ≡ true
        → drop (p.at + 3) p.code ≡ code (expr_lines e (cmd_lines c (cmd_lines d rest)))
        → Enters (target p C rest) M (record { on_left = c; on_right = d }) t cells
        (choice fuel (eval C.world C.env M e))
    unfolding named
    enters rest {e} {c} {d} s s' n h =
        y.means C M e (record { on_left = c; on_right = d }) rest operand-held
        (record { source = s; names = both_left _ _ n; lines = h }) s'
        (ltb-true _ _ (both_left _ _ (both_right _ _ n)))

    case_end_at : {g : Target} {cs : Branching} {c : Choice} (l r : Value → ℕ → Out) (at : ℕ)
        → (t.state ≡ 0 → ⊥) → Enters g M cs t cells c
        → Finishes g (record { state = t.state; left = t.left; next = at }) cells (chosen l r c)
    unfolding chosen
    case_end_at l r at z (enters_left s f o b n) = absurd (z s)
    case_end_at l r at z (enters_right s f o b n) = absurd (z s)
    case_end_at l r at z (enters_spent s f) = finish_spent s f
    case_end_at l r at z (enters_long s f) = finish_over s f
    case_end_at l r at z enters_stuck = finish_wrong

    case_end_case : {rest : List ScriptLine} {a b : ℕ} {c : Cmd} (next : ℕ) → CmdRow p.code p.at rest 5 a b c
        → named C.counts p.depth c ≡ true
        → (t.state ≡ 0 → ⊥)
        → Finishes (target p C rest) (record { state = t.state; left = t.left; next = next }) cells (ran C c M fuel)
    case_end_case {rest} next (at_case {e = e} {c = c} {d = d} s s' s'' h) n z =
        rw (case_is e c d) (case_end_at _ _ next z (enters rest s s' n h))

    module _ {d : Stepped} {cells' : List ℕ} (x : Execs S (inside p t.next cells) t.left d cells') where
      -- the branch's run, seen from outside of the case
      leaves : {rest mid : List ScriptLine} {v : Value} {o : Out} {end : ℕ}
          → (d.state ≡ 0 → drop d.next p.code ≡ code mid → drop end p.code ≡ code rest)
          → Finishes (target (inside p t.next cells) (bound C v) mid) d cells' o
          → Finishes (target p C rest) (record { state = d.state; left = d.left; next = end }) cells' o
      leaves e (finish_done s f held n) = finish_done s f (holds_leave held) (e s n)
      leaves e (finish_spent s f) = finish_spent s f
      leaves e (finish_over s f) = finish_over s f
      leaves e finish_wrong = finish_wrong

      -- a branch is run
      branch-runs : {rest : List ScriptLine} {end : ℕ} (v : Value) (c : Cmd) (mid : List ScriptLine) (b : ℕ)
          → t.left ≡ b
          → Source c → named C.counts (suc p.depth) c ≡ true
          → CellsHold cells C.counts.locations (suc p.depth) M (v ∷ C.env)
          → drop t.next p.code ≡ code (cmd_lines c mid)
          → (d.state ≡ 0 → drop d.next p.code ≡ code mid → drop end p.code ≡ code rest)
          → Finishes (target p C rest) (record { state = d.state; left = d.left; next = end }) cells'
          (ran (bound C v) c M b)
      branch-runs {rest} {end} v c mid b f s n b' h e =
          subst (λ (i : ℕ). Finishes (target p C rest) (record { state = d.state; left = d.left; next = end }) cells'
          (ran (bound C v) c M i)) f
          (leaves e (runs x (bound C v) M c mid (record { tells = held.tells; labels = held.labels; cells = b' })
          (record { source = s; names = n; lines = h })))

      case_at : {rest : List ScriptLine} {cs : Branching} {c : Choice} {on : Bool} {end : ℕ} → Source cs.on_left
          → Source cs.on_right
          → named C.counts (suc p.depth) cs.on_left ≡ true
          → named C.counts (suc p.depth) cs.on_right ≡ true
          → t.state ≡ 0 → t.on ≡ on → Ends p.code d on end
          → Enters (target p C rest) M cs t cells c
          → Finishes (target p C rest) (record { state = d.state; left = d.left; next = end }) cells'
          (chosen (λ v b. ran (bound C v) cs.on_left M b) (λ v b. ran (bound C v) cs.on_right M b) c)
      unfolding chosen
      case_at s s' n n' z i (past_second k) (enters_left {v = v} q f o b h) =
          branch-runs v _ _ _ f s n b h (λ q e. k.means _ _ (a_command s') e)
      case_at s s' n n' z i at_end (enters_left q f o b h) = absurd (false≢true (sym i ∙ o))
      case_at s s' n n' z i (past_second k) (enters_right q f o b h) = absurd (false≢true (sym o ∙ i))
      case_at s s' n n' z i at_end (enters_right {v = v} q f o b h) = branch-runs v _ _ _ f s' n' b h (λ q e. e)
      case_at s s' n n' z i (no_end j) (enters_left {v = v} q f o b h) =
          branch-runs v _ _ _ f s n b h (λ q' e. absurd (j q'))
      case_at s s' n n' z i (no_end j) (enters_right {v = v} q f o b h) =
          branch-runs v _ _ _ f s' n' b h (λ q' e. absurd (j q'))
      case_at s s' n n' z i k (enters_spent q f) = absurd (omega arith)
      case_at s s' n n' z i k (enters_long q f) = absurd (omega arith)
      case_at s s' n n' z i k enters_stuck = finish_wrong

      case-case : {rest : List ScriptLine} {a b : ℕ} {c : Cmd} {on : Bool} {end : ℕ}
          → CmdRow p.code p.at rest 5 a b c
          → named C.counts p.depth c ≡ true
          → t.state ≡ 0 → t.on ≡ on → Ends p.code d on end
          → Finishes (target p C rest) (record { state = d.state; left = d.left; next = end }) cells' (ran C c M fuel)
      unfolding named
      case-case {rest} (at_case {e = e} {c = c} {d = d} s s' s'' h) n z i k =
          let m = both_right _ _ (both_right _ _ n) in
          rw (case_is e c d) (case_at s' s'' (both_left _ _ m) (both_right _ _ m) z i k (enters rest s s' n h))

-- ---- a law for each arm of the code

module _ {S : Setting} {p : Place} {fuel : ℕ} {row : Row} (r : row ≡ row_at p.code p.at) where
  pub exec_skip : row.kind ≡ 1 → Execs S p fuel (record { state = 0; left = fuel; next = p.at + 3 }) p.cells
  exec_skip q =
      by_runs (λ z. omega arith) (omega arith)
      (λ C M c rest held here. skip_case p held (cmd_row_of 1 r q here))

  module _ {d t : Stepped} {cells : List ℕ} (q : row.kind ≡ 2) (x : Execs S (operand p) fuel d cells)
      (y : Ticks d t) where
    pub exec_seq_end : (next : ℕ) → (t.state ≡ 0 → ⊥)
        → Execs S p fuel (record { state = t.state; left = t.left; next = next }) cells
    exec_seq_end next z =
        by_runs (λ o. absurd (z o)) (omega (arith, x.spends, y.spends))
        (λ C M c rest held here. seq_end_case p held x y next (cmd_row_of 2 r q here) here.names z)

    pub exec_seq : {u : Stepped} {cells' : List ℕ} → t.state ≡ 0
        → Execs S (moved p t.next cells) t.left u cells' → Execs S p fuel u cells'
    exec_seq z u =
        by_runs (λ o. omega (arith, x.forward (y.through z), y.same_place z, u.forward o))
        (omega (arith, x.spends, y.spends, u.spends))
        (λ C M c rest held here. seq_case p held x y (cmd_row_of 2 r q here) here.names z u)

  pub exec_assign : {d : Stepped} {cells : List ℕ} → row.kind ≡ 3 → Assigns S (operand p) fuel row.a d cells
      → Execs S p fuel d cells
  exec_assign q y =
      by_runs (λ z. omega (arith, y.forward z)) y.spends
      (λ C M c rest held here. assign_case p held (cmd_row_of 3 r q here) here.names y)

  module _ {g : Decided} {cells : List ℕ} (q : row.kind ≡ 4) (y : Decides S (operand p) fuel g cells) where
    pub while_stop : {last : Option ℕ} {end : ℕ} → g.on ≡ false → (g.state ≡ 0 → Stops p.code g.next last end)
        → OnLast last (λ n. p.at ≤ n)
        → Rounds S p fuel last (record { state = g.state; left = g.left; next = end }) cells
    while_stop z k l =
        record {
          forward = λ o. stops_after (k o) (omega (arith, y.forward o)) l;
          spends = y.spends;
          means = λ C M c rest held here. while_stop_case p held y (cmd_row_of 4 r q here) here.names z k;
        }

    module _ {d t : Stepped} {cells' : List ℕ} (o : g.on ≡ true)
        (x : Execs S (moved p g.next cells) g.left d cells') (y' : Ticks d t) where
      pub while-end : (next : ℕ) → (t.state ≡ 0 → ⊥)
          → Execs S p fuel (record { state = t.state; left = t.left; next = next }) cells'
      while-end next z =
          by_runs (λ i. absurd (z i)) (omega (arith, y.spends, x.spends, y'.spends))
          (λ C M c rest held here. while-end-case p held y o x y' next (cmd_row_of 4 r q here) here.names z)

      pub while-again : {u : Stepped} {cells'' : List ℕ} → t.state ≡ 0
          → Rounds S (moved p p.at cells') t.left (Some t.next) u cells''
          → Execs S p fuel u cells''
      while-again z u =
          by_runs u.forward (omega (arith, y.spends, x.spends, y'.spends, u.spends))
          (λ C M c rest held here. while-again-case p held y o x y' (cmd_row_of 4 r q here) here z u)

  module _ {t : Decided} {cells : List ℕ} (q : row.kind ≡ 5) (y : Branches S (operand p) fuel t cells) where
    pub exec_case_end : (next : ℕ) → (t.state ≡ 0 → ⊥)
        → Execs S p fuel (record { state = t.state; left = t.left; next = next }) cells
    exec_case_end next z =
        by_runs (λ o. absurd (z o)) y.spends
        (λ C M c rest held here. case_end_case p held y next (cmd_row_of 5 r q here) here.names z)

    pub exec_case : {d : Stepped} {cells' : List ℕ} {on : Bool} {end : ℕ} → t.state ≡ 0
        → Execs S (record { code = p.code; at = t.next; depth = p.depth + 1; cells = cells }) t.left d cells'
        → t.on ≡ on → Ends p.code d on end
        → Execs S p fuel (record { state = d.state; left = d.left; next = end }) cells'
    exec_case {d} {cells'} z x i k =
        let x' : Execs S (inside p t.next cells) t.left d cells' = rw (add-one p.depth) at x in
        by_runs (λ o. omega (arith, y.forward z, x.forward o, ends_after k o)) (omega (arith, x.spends, y.spends))
        (λ C M c rest held here. case-case p held y x' (cmd_row_of 5 r q here) here.names z i k)

  pub exec_none : (next : ℕ) → (KindOf command row.kind → ⊥)
      → Execs S p fuel (record { state = 4; left = fuel; next = next }) p.cells
  exec_none next f =
      by_runs (λ z. absurd (omega arith)) (omega arith)
      (λ C M c rest held here. absurd (not_here command c rest p.code p.at r f here.source here.lines))

-- `Execs` and what it is made of: a law for each way through each function.
use mathlib.Core.Path.{◌≡◌, refl, sym, ap, subst, ◌∙◌}
use mathlib.Core.Bool.{Bool, true, false, false≢true}
use mathlib.Core.List.{List, ◌∷◌}
use Prim.Native.Nat.{ℕ, zero, suc, ◌+◌, ◌≤◌, ◌<◌}
use native.Mathlib.Omega.{arith}
use lib.ListN.{drop, get_or}
use Rattle.language.specs.Syntax.{Value, Expr}
use Rattle.language.specs.World.{Mem}
use Rattle.language.specs.Substitution.{update}
use Rattle.language.specs.Evaluation.{Res, ok, long, stuck, eval}
use Rattle.language.specs.Transition.{Out, done, spent, over, wrong}
use Rattle.language.proofs.Interpreter.{go, and_then, spend, assigned, go_assign}
use Rattle.script.specs.Lines.{ScriptLine, Source, cmd_lines}
use Rattle.script.specs.Internal.Code.{code}
use Rattle.script.specs.Internal.Pieces.{a_command}
use Rattle.script.specs.Names.{max_depth}
use Rattle.memory.specs.Words.{enc, cell}
use Rattle.memory.specs.Memory.{cell_of}
use Rattle.cells.specs.Internal.Cells.{accumulator, load_of, store_of, pop_of}
use Rattle.evaluator.specs.Internal.Cells.{first_location, CellsHold}
use Rattle.evaluator.specs.Internal.Records.{Setting, Place, Reached, Context}
use Rattle.evaluator.specs.Internal.Nodes.{Yields, Gives, Tags}
use Rattle.evaluator.specs.Internal.Post.{ExprAt, StandsFor, Evals}
use Rattle.script.specs.Internal.Skips.{Skips}
use Rattle.interpreter.specs.Internal.Post.{Target, target, Finishes, finish_done, finish_spent, finish_over}
use Rattle.interpreter.specs.Internal.Post.{finish_wrong, Stepped, Assigns, Choice, choice_v, choice, Decided}
use Rattle.interpreter.specs.Internal.Post.{Chooses, goes_left, goes_right, has_none, is_long, is_stuck, Decides}
use Rattle.interpreter.specs.Internal.Post.{Branching, Enters, enters_left, enters_right, enters_spent}
use Rattle.interpreter.specs.Internal.Post.{enters_long, enters_stuck, Branches}
use Rattle.cells.proofs.CellLaws.{length_load, length_pop}
use Rattle.evaluator.proofs.ValueLaws.{cell_size, tags_left, tags_right, pop_tag, Kind, is_int, is_err, is_inl, is_inr}
use Rattle.evaluator.proofs.ValueLaws.{is_pkg, is_pair_lem, is_blank, kind-enc}
use Rattle.evaluator.proofs.NodeLaws.{words_here, load_here}
use Rattle.evaluator.proofs.StateLaws.{room_here, holds_kept, holds_put, holds_bind}

-- ---- how ends follow one another

-- the transition after a run that is done
unfoldable pub ticked : Out → Out
ticked (done M zero) = spent
ticked (done M (suc b)) = done M b
ticked spent = spent
ticked (over b) = over b
ticked wrong = wrong

-- the transition in the code: t after d
pub record Ticks (d t : Stepped) : Type 0 where
  pub spends : t.left ≤ d.left
  pub through : t.state ≡ 0 → d.state ≡ 0
  pub same_place : t.state ≡ 0 → t.next ≡ d.next
  pub means : {g : Target} {cells : List ℕ} {o : Out} → Finishes g d cells o → Finishes g t cells (ticked o)

-- a run after a transition
pub ticked-then : (o : Out) (F : Mem → ℕ → Out) → and_then o (λ M b. spend b (λ b'. F M b')) ≡ and_then (ticked o) F
unfolding and_then spend ticked
ticked-then (done M zero) F = refl
ticked-then (done M (suc b)) F = refl
ticked-then spent F = refl
ticked-then (over b) F = refl
ticked-then wrong F = refl

module _ {g h : Target} {d : Stepped} {cells : List ℕ} (F : Mem → ℕ → Out) where
  -- a run that isn't done is the end, at whatever place
  pub ends_there : {o : Out} (next : ℕ) → (d.state ≡ 0 → ⊥) → Finishes g d cells o
      → Finishes h (record { state = d.state; left = d.left; next = next }) cells (and_then o F)
  unfolding and_then
  ends_there next z (finish_done s l held n) = absurd (z s)
  ends_there next z (finish_spent s l) = finish_spent s l
  ends_there next z (finish_over s l) = finish_over s l
  ends_there next z finish_wrong = finish_wrong

  -- a run that is done goes on
  pub goes_on_lem : {o : Out} {r : Stepped} {cells' : List ℕ} → d.state ≡ 0 → Finishes g d cells o
      → ((M : Mem) → CellsHold cells g.locations g.depth M g.env → drop d.next g.code ≡ code g.rest
      → Finishes h r cells' (F M d.left))
      → Finishes h r cells' (and_then o F)
  unfolding and_then
  goes_on_lem {r = r} {cells' = cells'} z (finish_done {M = M} s l held n) k =
      subst (λ (i : ℕ). Finishes h r cells' (F M i)) l (k M held n)
  goes_on_lem z (finish_spent s l) k = absurd (omega arith)
  goes_on_lem z (finish_over s l) k = absurd (omega arith)
  goes_on_lem z finish_wrong k = finish_wrong

-- ---- tick

module _ {d : Stepped} {g : Target} {cells : List ℕ} where
  same_end : {o : Out} → (d.state ≡ 0 → ⊥) → Finishes g d cells o → Finishes g d cells (ticked o)
  unfolding ticked
  same_end z (finish_done s l held n) = absurd (z s)
  same_end z (finish_spent s l) = finish_spent s l
  same_end z (finish_over s l) = finish_over s l
  same_end z finish_wrong = finish_wrong

  spent_end : {o : Out} (next : ℕ) → d.state ≡ 0 → d.left ≡ 0 → Finishes g d cells o
      → Finishes g (record { state = 9; left = d.left; next = next }) cells (ticked o)
  unfolding ticked
  spent_end next z f (finish_done {b = zero} s l held n) = finish_spent refl f
  spent_end next z f (finish_done {b = suc b} s l held n) = absurd (omega arith)
  spent_end next z f (finish_spent s l) = absurd (omega arith)
  spent_end next z f (finish_over s l) = absurd (omega arith)
  spent_end next z f finish_wrong = finish_wrong

  step_end : {o : Out} {left : ℕ} → d.state ≡ 0 → d.left ≡ left + 1 → Finishes g d cells o
      → Finishes g (record { state = 0; left = left; next = d.next }) cells (ticked o)
  unfolding ticked
  step_end z f (finish_done {b = zero} s l held n) = absurd (omega arith)
  step_end z f (finish_done {b = suc b} s l held n) = finish_done {b = b} refl (omega arith) held n
  step_end z f (finish_spent s l) = absurd (omega arith)
  step_end z f (finish_over s l) = absurd (omega arith)
  step_end z f finish_wrong = finish_wrong

module _ (d : Stepped) where
  pub tick_same : (d.state ≡ 0 → ⊥) → Ticks d d
  tick_same z = record { spends = omega arith; through = λ q. q; same_place = λ q. refl; means = same_end z }

  pub tick_spent : (next : ℕ) → d.state ≡ 0 → d.left ≡ 0
      → Ticks d (record { state = 9; left = d.left; next = next })
  tick_spent next z f =
      record {
        spends = omega arith;
        through = λ q. z;
        same_place = λ q. absurd (omega arith);
        means = spent_end next z f;
      }

  pub tick_step : {left : ℕ} → d.state ≡ 0 → d.left ≡ left + 1
      → Ticks d (record { state = 0; left = left; next = d.next })
  tick_step z f = record { spends = omega arith; through = λ q. z; same_place = λ q. refl; means = step_end z f }

-- ---- assign

-- an assignment, by the value of its expression
abbrev assigned_to : Mem → ℕ → ℕ → Res → Out
assigned_to M x fuel r = spend fuel (λ b. assigned (λ v. done (update M x v) b) b r)

assign_fail_at : {g : Target} (M : Mem) (x : ℕ) {s : ℕ} {cells : List ℕ} (at fuel : ℕ) (r : Res) (words : List ℕ)
    → (fuel ≡ 0 → ⊥) → (s ≡ 0 → ⊥)
    → Yields r (s) words
    → Finishes g (record { state = s; left = fuel; next = at }) cells (assigned_to M x fuel r)
unfolding spend assigned Yields
assign_fail_at M x at zero r words f z a = absurd (f refl)
assign_fail_at M x at (suc b) (ok v) words f z a = absurd (z a.0)
assign_fail_at M x at (suc b) long words f z a = finish_over a refl
assign_fail_at M x at (suc b) stuck words f z a = finish_wrong

assign_done_at : (g : Target) {M : Mem} (x : ℕ) (v : Reached) {cells : List ℕ} (fuel : ℕ) {left : ℕ} (r : Res)
    → fuel ≡ left + 1
    → v.state ≡ 0 → Gives r v → x < g.locations
    → CellsHold v.cells g.locations g.depth M g.env → drop v.next g.code ≡ code g.rest
    → cells ≡ store_of v.cells (first_location + x) (load_of v.cells accumulator)
    → Finishes g (record { state = 0; left = left; next = v.next }) cells (assigned_to M x fuel r)
unfolding spend assigned Yields
assign_done_at g x v zero r f z a l held n e = absurd (omega arith)
assign_done_at g x v (suc b) (ok u) f z a l held n e =
    finish_done {b = b} refl (omega arith)
    (holds_put held x u l (load_here v.cells u (room_here held) a.1) (length_load v.cells 0) e) n
assign_done_at g x v (suc b) long f z a l held n e = absurd (omega arith)
assign_done_at g x v (suc b) stuck f z a l held n e = finish_wrong

module _ {S : Setting} {p : Place} {fuel x : ℕ} where
  assign_by : {d : Stepped} {cells : List ℕ} → (d.state ≡ 0 → p.at ≤ d.next) → d.left ≤ fuel
      → ((C : Context) (M : Mem) (e : Expr) (rest : List ScriptLine) → StandsFor S p C M → ExprAt p C.counts rest e
      → x < C.counts.locations
      → Finishes (target p C rest) d cells (assigned_to M x fuel (eval C.world C.env M e)))
      → Assigns S p fuel x d cells
  unfolding go
  assign_by {d} {cells} f s m =
      record {
        forward = f;
        spends = s;
        means = λ C M e rest held here l.
            subst (λ (o : Out). Finishes (target p C rest) d cells o) (sym (go_assign C.world C.env M x e fuel))
            (m C M e rest held here l);
      }

  pub assign-spent : (next : ℕ) → fuel ≡ 0
      → Assigns S p fuel x (record { state = 9; left = fuel; next = next }) p.cells
  unfolding spend
  assign-spent next z =
      assign_by (λ q. absurd (omega arith)) (omega arith)
      (λ C M e rest held here l. rw z (finish_spent refl refl))

  pub assign_fail : {s n : ℕ} {cells : List ℕ} (next : ℕ) → (fuel ≡ 0 → ⊥)
      → Evals S p (record { state = s; next = n; cells = cells })
      → (s ≡ 0 → ⊥) → Assigns S p fuel x (record { state = s; left = fuel; next = next }) cells
  assign_fail next f y z =
      assign_by (λ q. absurd (z q)) (omega arith)
      (λ C M e rest held here l. assign_fail_at M x next fuel _ _ f z (y.means C M e rest held here).0)

  pub assign_done : {v : Reached} {left : ℕ} {cells : List ℕ} → fuel ≡ left + 1 → Evals S p v → v.state ≡ 0
      → cells ≡ store_of v.cells (first_location + x) (load_of v.cells accumulator)
      → Assigns S p fuel x (record { state = 0; left = left; next = v.next }) cells
  assign_done {v} f y z e =
      assign_by (λ q. y.forward z) (omega arith)
      (λ C M u rest held here l. let m = y.means C M u rest held here in
      assign_done_at (target p C rest) x v fuel _ f z m.0 l
      (holds_kept held.cells v.cells y.kept) (m.1 z) e)

-- ---- decide

decide_fail_at : {ws : List ℕ} {rest : List ScriptLine} {s : ℕ} {cells : List ℕ} (at fuel : ℕ) (r : Res)
    → (fuel ≡ 0 → ⊥)
    → (s ≡ 0 → ⊥)
    → Yields r (s) (cell_of cells accumulator)
    → Chooses ws rest (record { state = s; left = fuel; next = at; on = false }) cells (choice fuel r)
unfolding choice Yields
decide_fail_at at zero r f z a = absurd (f refl)
decide_fail_at at (suc b) (ok v) f z a = absurd (z a.0)
decide_fail_at at (suc b) long f z a = is_long a refl
decide_fail_at at (suc b) stuck f z a = is_stuck

module _ {S : Setting} {p : Place} {fuel : ℕ} where
  pub decide_spent : (next : ℕ) → fuel ≡ 0
      → Decides S p fuel (record { state = 9; left = fuel; next = next; on = false }) p.cells
  unfolding choice
  decide_spent next z =
      record {
        forward = λ q. absurd (omega arith);
        spends = omega arith;
        settled = λ q. absurd (false≢true q);
        falls = λ q. absurd (false≢true q);
        kept = refl;
        means = λ C M e rest held here. rw z (has_none refl refl);
      }

  pub decide_fail : {s n : ℕ} {cells : List ℕ} (next : ℕ) → (fuel ≡ 0 → ⊥)
      → Evals S p (record { state = s; next = n; cells = cells })
      → (s ≡ 0 → ⊥) → Decides S p fuel (record { state = s; left = fuel; next = next; on = false }) cells
  decide_fail next f y z =
      record {
        forward = λ q. absurd (z q);
        spends = omega arith;
        settled = λ q. absurd (false≢true q);
        falls = λ q. absurd (false≢true q);
        kept = y.kept;
        means = λ C M e rest held here. decide_fail_at next fuel _ f z (y.means C M e rest held here).0;
      }

-- the value in the accumulator, by its first word
kind_here : (work : List ℕ) (v : Value) {w : ℕ} (n : ℕ) → cell_of work accumulator ≡ cell v → w ≡ get_or work 0 0
    → w ≡ n → Kind n v
kind_here work v {w} n a p q =
    let e : get_or (enc v _) 0 0 ≡ n = ap (λ (l : List ℕ). get_or l 0 0) (sym (words_here work v a)) ∙ sym p ∙ q in
    subst (λ (i : ℕ). Kind i v) e (kind-enc v _)

-- the first word of a left and of a right, and whether a guard goes on for it
pub data Side : ℕ → Bool → Type 0 where
  side_left : Side 3 true
  side_right : Side 4 false

module _ {ws : List ℕ} {rest : List ScriptLine} {cells : List ℕ} where
  chooses_side : {next b : ℕ} (v : Value) {n : ℕ} {on : Bool} → Side n on → Kind n v
      → cell_of cells accumulator ≡ cell v
      → drop next ws ≡ code rest
      → Chooses ws rest (record { state = 0; left = b; next = next; on = on }) cells (choice_v b v)
  unfolding choice_v
  chooses_side v side_left is_inl e d = goes_left refl refl refl e d
  chooses_side v side_right is_inr e d = goes_right refl refl refl e d

  chooses_none : {g : Decided} (b : ℕ) (v : Value) {w : ℕ} → Kind w v → (w ≡ 3 → ⊥) → (w ≡ 4 → ⊥)
      → Chooses ws rest g cells (choice_v b v)
  unfolding choice_v
  chooses_none b v is_int n3 n4 = is_stuck
  chooses_none b v is_err n3 n4 = is_stuck
  chooses_none b v is_inl n3 n4 = absurd (n3 refl)
  chooses_none b v is_inr n3 n4 = absurd (n4 refl)
  chooses_none b v is_pkg n3 n4 = is_stuck
  chooses_none b v is_pair_lem n3 n4 = is_stuck
  chooses_none b v is_blank n3 n4 = is_stuck

-- a decision, by the value that was found
chosen_by : {ws : List ℕ} {rest : List ScriptLine} {g : Decided} (v : Reached) (fuel left : ℕ) (r : Res)
    → fuel ≡ left + 1
    → v.state ≡ 0 → Gives r v
    → ((u : Value) → cell_of v.cells accumulator ≡ cell u → Chooses ws rest g v.cells (choice_v left u))
    → Chooses ws rest g v.cells (choice fuel r)
unfolding choice Yields
chosen_by v zero left r f z a k = absurd (omega arith)
chosen_by {ws = ws} {rest = rest} {g = g} v (suc b) left (ok u) f z a k =
    let e : left ≡ b = omega arith in
    subst (λ (i : ℕ). Chooses ws rest g v.cells (choice_v i u)) e (k u a.1)
chosen_by v (suc b) left long f z a k = absurd (omega arith)
chosen_by v (suc b) left stuck f z a k = is_stuck

module _ {S : Setting} {p : Place} {fuel w : ℕ} (left : ℕ) {v : Reached} (f : fuel ≡ left + 1) (y : Evals S p v)
    (z : v.state ≡ 0) (q : w ≡ get_or v.cells 0 0) where
  pub decide_side : {n : ℕ} {on : Bool} → Side n on → w ≡ n
      → Decides S p fuel (record { state = 0; left = left; next = v.next; on = on }) v.cells
  decide_side {n} {on} side i =
      record {
        forward = λ o. y.forward z;
        spends = omega arith;
        settled = λ o. refl;
        falls = λ o. omega arith;
        kept = y.kept;
        means = λ C M e rest held here.
            let m = y.means C M e rest held here in
            chosen_by v fuel left _ f z m.0
            (λ u a. chooses_side u side (kind_here v.cells u n a q i) a (m.1 z));
      }

  pub decide_none : (next : ℕ) → (w ≡ 3 → ⊥) → (w ≡ 4 → ⊥)
      → Decides S p fuel (record { state = 4; left = fuel; next = next; on = false }) v.cells
  decide_none next n3 n4 =
      record {
        forward = λ o. absurd (omega arith);
        spends = omega arith;
        settled = λ o. absurd (false≢true o);
        falls = λ o. absurd (false≢true o);
        kept = y.kept;
        means = λ C M e rest held here.
            chosen_by v fuel left _ f z (y.means C M e rest held here).0
            (λ u a. chooses_none left u (kind_here v.cells u w a q refl) n3 n4);
      }

-- ---- branch

-- where the branch starts that is taken, for a left and for a right
pub data Starts (ws : List ℕ) (first : ℕ) : Bool → ℕ → Type 0 where
  at_first : Starts ws first true first
  at_second : {second : ℕ} → Skips ws first second → Starts ws first false second

starts-after : {ws : List ℕ} {first start : ℕ} {on : Bool} → Starts ws first on start → first ≤ start
starts-after at_first = omega arith
starts-after (at_second k) = k.forward

module _ {t : Target} {M : Mem} {cs : Branching} {g : Decided} {ws : List ℕ} {mid : List ScriptLine}
    {cells : List ℕ} where
  enters_past : {c : Choice} (at : ℕ) → (g.state ≡ 0 → ⊥) → Chooses ws mid g cells c
      → Enters t M cs (record { state = g.state; left = g.left; next = at; on = false }) cells c
  enters_past at z (goes_left s l o e n) = absurd (z s)
  enters_past at z (goes_right s l o e n) = absurd (z s)
  enters_past at z (has_none s l) = enters_spent s l
  enters_past at z (is_long s l) = enters_long s l
  enters_past at z is_stuck = enters_stuck

module _ (t : Target) {M : Mem} {cells cells' : List ℕ} (held : CellsHold cells t.locations t.depth M t.env)
    (shallow : t.depth < max_depth)
    (e : cells' ≡ store_of cells (suc t.depth) (pop_of (load_of cells accumulator))) where
  binds_inside : {w : ℕ} {f : Value → Value} → Tags w f → (v : Value) → cell_of cells accumulator ≡ cell (f v)
      → CellsHold cells' t.locations (suc t.depth) M (v ∷ t.env)
  binds_inside {f = f} tag v a =
      holds_bind held v shallow
      (ap pop_of (load_here cells (f v) (room_here held) a)
      ∙ pop_tag tag v (omega (arith, tag.longer v, cell_size cells 0 (f v) a)))
      (length_pop _ (length_load cells 0)) e

  module _ {cs : Branching} (g : Decided) (s : Source cs.on_left) where
    enters_on : {c : Choice} {on : Bool} {start : ℕ} → g.state ≡ 0 → g.on ≡ on
        → Starts t.code g.next on start
        → Chooses t.code (cmd_lines cs.on_left (cmd_lines cs.on_right t.rest)) g cells c
        → Enters t M cs (record { state = 0; left = g.left; next = start; on = g.on }) cells' c
    enters_on z i at_first (goes_left {v = v} q l o a n) = enters_left refl l o (binds_inside tags_left v a) n
    enters_on z i (at_second k) (goes_left q l o a n) = absurd (false≢true (sym i ∙ o))
    enters_on z i at_first (goes_right q l o a n) = absurd (false≢true (sym o ∙ i))
    enters_on z i (at_second k) (goes_right {v = v} q l o a n) =
        enters_right refl l o (binds_inside tags_right v a) (k.means _ _ (a_command s) n)
    enters_on z i h (has_none q l) = absurd (omega arith)
    enters_on z i h (is_long q l) = absurd (omega arith)
    enters_on z i h is_stuck = enters_stuck

module _ {S : Setting} {p : Place} {fuel : ℕ} where
  pub branch_deep : (next : ℕ) → max_depth ≤ p.depth
      → Branches S p fuel (record { state = 4; left = fuel; next = next; on = false }) p.cells
  branch_deep next h =
      record {
        forward = λ z. absurd (omega arith);
        spends = omega arith;
        shallow = λ z. absurd (omega arith);
        means = λ C M e cs rest held here s l. absurd (omega arith);
      }

  module _ {g : Decided} {cells : List ℕ} (y : Decides S p fuel g cells) where
    pub branch_past : (next : ℕ) → (g.state ≡ 0 → ⊥)
        → Branches S p fuel (record { state = g.state; left = g.left; next = next; on = false }) cells
    branch_past next h =
        record {
          forward = λ z. absurd (h z);
          spends = y.spends;
          shallow = λ z. absurd (h z);
          means = λ C M e cs rest held here s l. enters_past next h (y.means C M e _ held here);
        }

    pub branch_taken : {cells' : List ℕ} {on : Bool} {start : ℕ} → p.depth < max_depth
        → cells' ≡ store_of cells (suc p.depth) (pop_of (load_of cells accumulator))
        → g.state ≡ 0 → g.on ≡ on
        → Starts p.code g.next on start
        → Branches S p fuel (record { state = 0; left = g.left; next = start; on = g.on }) cells'
    branch_taken l b z o h =
        record {
          forward = λ q. omega (arith, y.forward z, starts-after h);
          spends = y.spends;
          shallow = λ q. l;
          means = λ C M e cs rest held here s m.
              enters_on (target p C rest) (holds_kept held.cells cells y.kept) l b g s z o h
              (y.means C M e _ held here);
        }

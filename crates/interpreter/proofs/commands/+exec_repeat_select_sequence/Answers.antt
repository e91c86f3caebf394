-- The places are later in the code, and each return is a law.
use Rattle.std.proofs.Common.{◌≡◌, ℕ, suc, ◌+◌, ◌≤◌, List, length, true, false, refl, sym, ap, arith}
use Rattle.std.proofs.lemmas.Bool.{false≢true}
use denote.Enum.Bare.{sameb}
use Rattle.script.specs.Internal.Code.{row_at}
use Rattle.script.proofs.Rows.{row_within, none_between}
use Rattle.evaluator.specs.declared.Stop.TheVariants.{Spent}
use Rattle.evaluator.proofs.EvalLaws.{stopped, passed_on}
use Rattle.interpreter.specs.declared.commands.Side.{Side}
use Rattle.interpreter.specs.declared.commands.Side.TheVariants.{Left, Right}
use Rattle.interpreter.specs.contracts.commands.Side.{the_type}
use Rattle.interpreter.specs.Internal.Post.{is_left}
use Rattle.interpreter.proofs.ExecLaws.{tick_same, tick_spent, tick_step}
use Rattle.interpreter.proofs.CommandLaws as laws
use Rattle.interpreter.proofs.commands.+exec_repeat_select_sequence.Goals as goal

-- a row of a kind is there
row_here : (ws : List ℕ) (at : ℕ) {k : ℕ} → (row_at ws at).kind ≡ suc k → at + 3 ≤ length ws
row_here ws at h = row_within ws at refl (omega arith)

-- what the test of the side tells
on_right : (s : Side) → true ≡ sameb the_type s Right → is_left s ≡ false
on_right Left e = absurd (false≢true (sym e))
on_right Right e = refl

on_left : (s : Side) → false ≡ sameb the_type s Right → is_left s ≡ true
on_left Left e = refl
on_left Right e = absurd (false≢true e)

pub exec-overflow_add-result : goal.exec-overflow_add-result
exec-overflow_add-result t c = omega (arith, row_within _ _ c.row_at-row.ensures (omega (arith, c.in-1.is)))

pub exec-overflow_add-at : goal.exec-overflow_add-at
exec-overflow_add-at t c = omega (arith, row_within _ _ c.row_at-row.ensures (omega (arith, c.in-3.is)))

pub exec-returns-in-1 : goal.exec-returns-in-1
exec-returns-in-1 t c = laws.exec_skip c.row_at-row.ensures c.in-1.is

pub exec-returns-in-3 : goal.exec-returns-in-3
exec-returns-in-3 t c = laws.exec_assign c.row_at-row.ensures c.in-3.is c.assign.ensures

pub exec-returns-in_default : goal.exec-returns-in_default
exec-returns-in_default t c =
    laws.exec_none c.row_at-row.ensures 0 (λ h. none_between 1 5 c.in_default.in_default-own.rest h.0 h.1)

pub sequence-overflow_add-at : goal.sequence-overflow_add-at
sequence-overflow_add-at t c = omega (arith, row_here _ _ c.requires)

pub repeat-overflow_add-at : goal.repeat-overflow_add-at
repeat-overflow_add-at t c = omega (arith, row_here _ _ c.requires)

pub select-overflow_add-at : goal.select-overflow_add-at
select-overflow_add-at t c = omega (arith, row_here _ _ c.requires)

pub sequence-exec-requires : goal.sequence-exec-requires
sequence-exec-requires t c = (omega (arith, row_here _ _ c.requires), tt)

pub sequence-exec-requires-2 : goal.sequence-exec-requires-2
sequence-exec-requires-2 t c = (omega (arith, row_here _ _ c.requires, c.in_ok-second.ensures.forward refl), tt)

pub sequence-returns-in_err-second : goal.sequence-returns-in_err-second
sequence-returns-in_err-second t c =
    rw (passed_on _ _ c.from_residual.ensures)
    (laws.exec_seq_end refl c.requires c.in_err-second.ensures (tick_same _ (stopped _)) 0 (stopped _))

pub sequence-returns-in_err-fuel : goal.sequence-returns-in_err-fuel
sequence-returns-in_err-fuel t c =
    rw (passed_on _ _ c.from_residual-in_err-fuel.ensures, c.in_err-fuel.ensures.0)
    (laws.exec_seq_end refl c.requires c.in_ok-second.ensures (tick_spent _ 0 refl c.in_err-fuel.ensures.1) 0
    (stopped Spent))

pub sequence-returns : goal.sequence-returns
sequence-returns t c =
    laws.exec_seq refl c.requires c.in_ok-second.ensures (tick_step _ refl c.in_ok-fuel.ensures) refl
    c.exec-2.ensures

pub repeat-loop-side-init : goal.repeat-loop-side-init
repeat-loop-side-init t c = ((λ n e. absurd (cc)), λ d cells x. laws.rounds_first x)

pub repeat-returns-in_err-side : goal.repeat-returns-in_err-side
repeat-returns-in_err-side t c =
    rw (passed_on _ _ c.from_residual.ensures)
    (c.loop-side.invariant.1 _ _
    (laws.while_stop refl c.requires c.in_err-side.ensures refl (λ z. absurd (stopped _ z)) c.loop-side.invariant.0))

pub repeat-returns-in-Some : goal.repeat-returns-in-Some
repeat-returns-in-Some t c =
    c.loop-side.invariant.1 _ _
    (laws.while_stop refl c.requires c.in_ok-side.ensures (on_right _ c.if-eq.ensures)
    (λ z. rw c.in-Some.is laws.at_last) c.loop-side.invariant.0)

pub repeat-returns-in-None : goal.repeat-returns-in-None
repeat-returns-in-None t c =
    c.loop-side.invariant.1 _ _
    (laws.while_stop refl c.requires c.in_ok-side.ensures (on_right _ c.if-eq.ensures)
    (λ z. rw c.in-None.is (laws.past_body c.skip.ensures)) c.loop-side.invariant.0)

pub repeat-exec-requires : goal.repeat-exec-requires
repeat-exec-requires t c = (omega (arith, row_here _ _ c.requires, c.in_ok-side.ensures.forward refl), tt)

pub repeat-returns-in_err-end : goal.repeat-returns-in_err-end
repeat-returns-in_err-end t c =
    rw (passed_on _ _ c.from_residual-in_err-end.ensures)
    (c.loop-side.invariant.1 _ _
    (laws.rounds_any
    (laws.while-end refl c.requires c.in_ok-side.ensures (on_left _ c.if-eq.ensures) c.in_err-end.ensures
    (tick_same _ (stopped _)) 0 (stopped _))))

pub repeat-returns-in_err-fuel : goal.repeat-returns-in_err-fuel
repeat-returns-in_err-fuel t c =
    rw (passed_on _ _ c.from_residual-in_err-fuel.ensures, c.in_err-fuel.ensures.0)
    (c.loop-side.invariant.1 _ _
    (laws.rounds_any
    (laws.while-end refl c.requires c.in_ok-side.ensures (on_left _ c.if-eq.ensures) c.in_ok-end.ensures
    (tick_spent _ 0 refl c.in_err-fuel.ensures.1) 0 (stopped Spent))))

pub repeat-loop-side-preserved : goal.repeat-loop-side-preserved
repeat-loop-side-preserved t c = (
  (λ n e. let q : c.in_ok-end.end ≡ n = cc in omega
      (arith, c.in_ok-side.ensures.forward refl, c.in_ok-end.ensures.forward refl)),
  λ d cells y.
      c.loop-side.invariant.1 d cells
      (laws.rounds_any
      (laws.while-again refl c.requires c.in_ok-side.ensures (on_left _ c.if-eq.ensures) c.in_ok-end.ensures
      (tick_step _ refl c.in_ok-fuel.ensures) refl y)),
)

pub repeat-loop-side-smaller : goal.repeat-loop-side-smaller
repeat-loop-side-smaller t c =
    omega
    (arith, c.in_ok-side.ensures.falls (on_left _ c.if-eq.ensures), c.in_ok-end.ensures.spends, c.in_ok-fuel.ensures)

pub select-exec-requires : goal.select-exec-requires
select-exec-requires t c = (omega (arith, row_here _ _ c.requires, c.in_ok-side.ensures.forward refl), tt)

pub select-overflow_add-depth : goal.select-overflow_add-depth
select-overflow_add-depth t c = omega (arith, c.in_ok-side.ensures.shallow refl)

pub select-returns-in_err-side : goal.select-returns-in_err-side
select-returns-in_err-side t c =
    rw (passed_on _ _ c.from_residual.ensures)
    (laws.exec_case_end refl c.requires c.in_err-side.ensures 0 (stopped _))

pub select-returns-in_err-end : goal.select-returns-in_err-end
select-returns-in_err-end t c =
    rw (passed_on _ _ c.from_residual-in_err-end.ensures)
    (laws.exec_case refl c.requires c.in_ok-side.ensures refl c.in_err-end.ensures refl (laws.no_end (stopped _)))

pub select-returns-in-Left : goal.select-returns-in-Left
select-returns-in-Left t c =
    laws.exec_case refl c.requires c.in_ok-side.ensures refl c.in_ok-end.ensures (ap is_left c.in-Left.is)
    (laws.past_second c.skip.ensures)

pub select-returns-in-Right : goal.select-returns-in-Right
select-returns-in-Right t c =
    laws.exec_case refl c.requires c.in_ok-side.ensures refl c.in_ok-end.ensures (ap is_left c.in-Right.is)
    laws.at_end

-- The places are later in the code, and each return is a law.
use Rattle.std.proofs.Common.{◌≡◌, ℕ, ◌+◌, ◌≤◌, List, length, refl, arith}
use Rattle.script.specs.Internal.Code.{row_at}
use Rattle.script.proofs.Rows.{row_within, none_past}
use Rattle.evaluator.proofs.EvalLaws as laws
use Rattle.evaluator.proofs.EvalLaws.{passed_on}
use Rattle.evaluator.proofs.+pair_reach.Goals as goal
use Rattle.evaluator.proofs.+pair_reach.Goals.{pair-then-next-eq-PAIR+in_ok-pair, pair-else-next-eq-PAIR+in_ok-reach-2}

-- the row of a pair is there
pair_within : (ws : List ℕ) (at : ℕ) → (row_at ws at).kind ≡ 14 → at + 3 ≤ length ws
pair_within ws at h = row_within ws at refl (omega arith)

pub pair-overflow_add-at : goal.pair-overflow_add-at
pair-overflow_add-at t c = omega (arith, pair_within _ _ c.requires)

pub pair-reach-requires : goal.pair-reach-requires
pair-reach-requires t c = (omega (arith, pair_within _ _ c.requires), tt)

pub pair-returns-in_err-reach : goal.pair-returns-in_err-reach
pair-returns-in_err-reach t c =
    rw (passed_on _ _ c.from_residual.ensures)
    (laws.eval-pair_end refl c.in_err-reach.ensures (laws.stopped_in (Unit {0}) _) c.requires)

pub pair-pair-requires : goal.pair-pair-requires
pair-pair-requires t c = (
  omega (arith, pair_within _ _ c.requires, c.in_ok-reach.ensures.forward refl),
  rw c.row_at-next.ensures at
      c.if-next-eq-PAIR.true,
)

pub pair-returns-in_err-pair : goal.pair-returns-in_err-pair
pair-returns-in_err-pair t c =
    rw (passed_on _ _ c.from_residual-in_err-pair.ensures)
    (laws.eval-pair_stop refl c.in_ok-reach.ensures refl c.in_err-pair.ensures (laws.stopped_in (Unit {0}) _) c.requires
    c.load-first.ensures)

pub pair-reach-requires-else-next-eq-PAIR : goal.pair-reach-requires-else-next-eq-PAIR
pair-reach-requires-else-next-eq-PAIR t c =
    (omega (arith, pair_within _ _ c.requires, c.in_ok-reach.ensures.forward refl), tt)

pub pair-returns-in_err-reach-2 : goal.pair-returns-in_err-reach-2
pair-returns-in_err-reach-2 t c =
    rw (passed_on _ _ c.from_residual-in_err-reach-2.ensures)
    (laws.eval-pair_stop refl c.in_ok-reach.ensures refl c.in_err-reach-2.ensures (laws.stopped_in (Unit {0}) _)
    c.requires c.load-first.ensures)

pub pair-returns : goal.pair-returns
pair-returns t c =
    laws.eval-pair_made refl c.in_ok-reach.ensures refl {m = c.if-next-eq-PAIR.at} {before = c.if-next-eq-PAIR.work}
    (elim c.if-next-eq-PAIR.branch [
      | pair-then-next-eq-PAIR+in_ok-pair w ↦ rw (w.work-is, w.at-is) w.in_ok-pair.ensures
      | pair-else-next-eq-PAIR+in_ok-reach-2 w ↦ rw (w.work-is, w.at-is) w.in_ok-reach-2.ensures
    ])
    (λ z. refl) c.requires c.load-first.ensures c.pair-2.ensures

pub reach-overflow_add-at : goal.reach-overflow_add-at
reach-overflow_add-at t c = omega (arith, row_within _ _ c.row_at-row.ensures (omega (arith, c.in-6.is)))

pub reach-overflow_add-at-in-7 : goal.reach-overflow_add-at-in-7
reach-overflow_add-at-in-7 t c = omega (arith, row_within _ _ c.row_at-row.ensures (omega (arith, c.in-7.is)))

pub reach-overflow_add-at-in-8 : goal.reach-overflow_add-at-in-8
reach-overflow_add-at-in-8 t c = omega (arith, row_within _ _ c.row_at-row.ensures (omega (arith, c.in-8.is)))

pub reach-overflow_add-at-in-9 : goal.reach-overflow_add-at-in-9
reach-overflow_add-at-in-9 t c = omega (arith, row_within _ _ c.row_at-row.ensures (omega arith))

pub reach-reach-requires : goal.reach-reach-requires
reach-reach-requires t c = (omega (arith, row_within _ _ c.row_at-row.ensures (omega arith)), tt)

pub reach-reach-requires-in-9 : goal.reach-reach-requires-in-9
reach-reach-requires-in-9 t c =
    (omega (arith, row_within _ _ c.row_at-row.ensures (omega arith), c.in_ok-reach-in-9.ensures.forward refl), tt)

pub reach-pair-requires : goal.reach-pair-requires
reach-pair-requires t c = (omega arith, rw c.row_at-row.ensures at c.in-14.is)

pub reach-returns-in_err-reach-in-9 : goal.reach-returns-in_err-reach-in-9
reach-returns-in_err-reach-in-9 t c =
    rw (passed_on _ _ c.from_residual.ensures)
    (laws.eval-end c.row_at-row.ensures c.in_err-reach-in-9.ensures (laws.stopped_in (Unit {0}) _)
    (none_past 6 3 c.in-9.in_default-own.rest.0 c.in-9.if-kind-lt6-own.false)
    (omega (arith, c.in-9.if-kind-lt17-own.true)) c.in-9.in_default-own.rest.1)

pub reach-returns-then-kind-ne-PLUS : goal.reach-returns-then-kind-ne-PLUS
reach-returns-then-kind-ne-PLUS t c =
    laws.eval-one c.row_at-row.ensures c.in_ok-reach-in-9.ensures (λ z. refl)
    (none_past 6 3 c.in-9.in_default-own.rest.0 c.in-9.if-kind-lt6-own.false)
    (omega (arith, c.in-9.if-kind-lt17-own.true)) c.if-kind-ne-PLUS.true c.in-9.in_default-own.rest.1
    c.applied.ensures

pub reach-returns-in_err-reach-in-9-2 : goal.reach-returns-in_err-reach-in-9-2
reach-returns-in_err-reach-in-9-2 t c =
    rw (passed_on _ _ c.from_residual-in_err-reach-in-9-2.ensures)
    (laws.eval-plus_stop c.row_at-row.ensures c.in_ok-reach-in-9.ensures refl c.in_err-reach-in-9-2.ensures
    (laws.stopped_in (Unit {0}) _) c.if-kind-ne-PLUS.false c.word-n.ensures)

pub reach-returns-in_ok-reach-in-9-2 : goal.reach-returns-in_ok-reach-in-9-2
reach-returns-in_ok-reach-in-9-2 t c =
    laws.eval-plus_made c.row_at-row.ensures c.in_ok-reach-in-9.ensures refl c.in_ok-reach-in-9-2.ensures (λ z. refl)
    c.if-kind-ne-PLUS.false c.word-n.ensures c.sum.ensures

pub reach-returns-in-6 : goal.reach-returns-in-6
reach-returns-in-6 t c = laws.eval-int c.row_at-row.ensures c.in-6.is c.literal.ensures

pub reach-returns-in-7 : goal.reach-returns-in-7
reach-returns-in-7 t c = laws.eval-loc c.row_at-row.ensures c.in-7.is c.location.ensures

pub reach-returns-in-8 : goal.reach-returns-in-8
reach-returns-in-8 t c = laws.eval-var c.row_at-row.ensures c.in-8.is c.variable.ensures

pub reach-returns-in_default : goal.reach-returns-in_default
reach-returns-in_default t c =
    laws.eval_none c.row_at-row.ensures (λ h. omega (arith, h.0, c.in_default.if-kind-lt6-own.true))

pub reach-returns-in_default-2 : goal.reach-returns-in_default-2
reach-returns-in_default-2 t c =
    laws.eval_none c.row_at-row.ensures (λ h. omega (arith, h.1, c.in_default.if-kind-lt17-own.false))

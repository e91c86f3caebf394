-- `script::skip`: a line that has operands lies within the code, and each return is a law.
use Rattle.std.proofs.Common.{arith}
use Rattle.script.proofs.SkipLaws as laws
use Rattle.script.proofs.+skip.Goals as goal

pub overflow_add-result : goal.overflow_add-result
overflow_add-result t c = omega (arith, laws.line_in _ _ c.row_at-row.ensures c.operands-n.ensures (omega arith))

pub overflow_add-at : goal.overflow_add-at
overflow_add-at t c = omega (arith, laws.line_in _ _ c.row_at-row.ensures c.operands-n.ensures (omega arith))

pub skip-requires : goal.skip-requires
skip-requires t c = omega (arith, laws.line_in _ _ c.row_at-row.ensures c.operands-n.ensures (omega arith))

pub overflow_add-at-in-2 : goal.overflow_add-at-in-2
overflow_add-at-in-2 t c = omega (arith, laws.line_in _ _ c.row_at-row.ensures c.operands-n.ensures (omega arith))

pub skip-second-requires : goal.skip-second-requires
skip-second-requires t c = omega (arith, laws.line_in _ _ c.row_at-row.ensures c.operands-n.ensures (omega arith))

pub skip-requires-in-2 : goal.skip-requires-in-2
skip-requires-in-2 t c =
    omega (
      arith,
      laws.line_in _ _ c.row_at-row.ensures c.operands-n.ensures (omega arith),
      c.skip-second.ensures.forward,
    )

pub returns-in-0 : goal.returns-in-0
returns-in-0 t c = laws.skip-line _ _ c.row_at-row.ensures c.operands-n.ensures c.in-0.is

pub returns-in-1 : goal.returns-in-1
returns-in-1 t c = laws.skip_one _ _ c.row_at-row.ensures c.operands-n.ensures c.in-1.is c.skip.ensures

pub returns-in-2 : goal.returns-in-2
returns-in-2 t c =
    laws.skip_two _ _ c.row_at-row.ensures c.operands-n.ensures c.in-2.is c.skip-second.ensures c.skip-in-2.ensures

pub returns-in-3 : goal.returns-in-3
returns-in-3 t c =
    laws.skip-three _ _ c.row_at-row.ensures c.operands-n.ensures c.in-3.is c.skip-second-in-3.ensures
    c.skip-third.ensures c.skip-in-3.ensures

pub returns-in_default : goal.returns-in_default
returns-in_default t c = laws.skip_none _ _ c.row_at-row.ensures c.operands-n.ensures (λ l. omega arith)

-- `script_text::scan::balanced` meets its contract.
use Rattle.std.proofs.Common.{◌≡◌, length, get_or, refl, ◌∙◌, ap, arith, rules, length-append}
use Rattle.std.specs.Slice.Iter.{chunks_exact_rest, chunks_exact_size}
use Rattle.script_text.proofs.BalanceLaws.{due_none, due_end, due_more, few_operands}
use Rattle.script_text.proofs.scan.balanced.Goals as goal

pub loop-row-init : goal.loop-row-init
loop-row-init c =
    let rest : chunks_exact_rest c.into_iter-row-iterator.result ≡ c.args.code.now = search rules in
    let size : chunks_exact_size c.into_iter-row-iterator.result ≡ 3 = search rules in
    record { size = size; few = rw rest (omega arith); due = λ ls e. (ls, rest ∙ e, refl) }

pub returns-then-trees-eq0 : goal.returns-then-trees-eq0
returns-then-trees-eq0 c =
    let row = c.in-Some.ensures.steps.1 in
    due_none _ _ _ _ row.0 (row.1 ∙ c.loop-row.invariant.size) (rw c.if-trees-eq0.true at c.loop-row.invariant.due)

pub overflow_add-trees : goal.overflow_add-trees
overflow_add-trees c = omega (arith, c.operands.ensures, few_operands (get_or c.in-Some.row.now 0 0))

pub loop-row-preserved : goal.loop-row-preserved
loop-row-preserved c =
    let step = c.in-Some.ensures.steps in
    let three = step.1.1 ∙ c.loop-row.invariant.size in record {
      size = step.0 ∙ c.loop-row.invariant.size;
      few = omega (
        arith,
        c.operands.ensures,
        few_operands (get_or c.in-Some.row.now 0 0),
        three,
        ap length step.1.0,
        length-append c.in-Some.row.now (chunks_exact_rest c.next.new.self),
      );
      due = due_more _ _ _ _ step.1.0 three c.loop-row.trees c.operands.result c.loop-row.invariant.due
          c.if-trees-eq0.false c.operands.ensures;
    }

pub returns : goal.returns
returns c =
    due_end _ _ c.loop-row.trees c.loop-row.invariant.due
    (omega (arith, c.in-None.ensures.steps, c.loop-row.invariant.size))

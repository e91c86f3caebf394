-- The words of the locations that are read are there.
use Rattle.std.proofs.Common.{sym, arith}
use Rattle.std.proofs.Math.Seq.{length-take-le}
use Rattle.memory_text.proofs.Tables.{memory-few, memory_full}
use Rattle.cases.proofs.Case.run.Goals as goal

pub overflow_mul-words : goal.overflow_mul-words
overflow_mul-words g c = omega (arith, memory-few _ _ c.in-Some.ensures)

pub slice_bounds-words-end : goal.slice_bounds-words-end
slice_bounds-words-end g c =
    let e = c.in-Some.ensures in omega (arith, memory-few _ _ e, memory_full _ _ e)

pub slice_bounds-words-end-2 : goal.slice_bounds-words-end-2
slice_bounds-words-end-2 g c =
    let e = c.in-Some.ensures in
    sym (length-take-le _ _ (omega (arith, memory-few _ _ e, memory_full _ _ e)))

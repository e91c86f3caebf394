-- The view is printed, or the number is.
use Rattle.std.proofs.Common.{ℕ, ◌%◌, ap, ◌∙◌, arith, replicate}
use Rattle.language.specs.World.{cell_words}
use Rattle.memory_text.specs.Sizes.{memory_words}
use Rattle.desk.proofs.Outputs.{put_same, front_length, front_is, memory_puts}
use Rattle.desk.proofs.Shows.{view-shown, view-number}
use Rattle.desk.proofs.show_given.Goals as goal

pub returns-then-k-eq-DONE : goal.returns-then-k-eq-DONE
returns-then-k-eq-DONE c =
    let g = c.args.given.now in
    let w = c.requires.0 in
    let x = c.simp_view-answer.new.view in
    let l = c.simp_view-answer.auto.view in
    let n = front_length g.count x (replicate memory_words 0) l w.few in
    put_same _ _ _ _ _
    (view-shown c.args.sheet.now g _ x w c.simp_view-answer.ensures _ c.number-k.ensures c.if-k-eq-DONE.true)
    (memory_puts c.args.out.now _ x _ _ (front_is g.count x (replicate memory_words 0) l w.few)
    c.write_memory.ensures.value c.write_memory.ensures.out_after (ap (λ (i : ℕ). i % cell_words) n ∙ w.whole)
    (omega (arith, w.few)) (omega (arith, c.requires.1)))

pub returns : goal.returns
returns c =
    put_same _ _ _ _ _
    (view-number c.args.sheet.now c.args.given.now _ _ c.requires.0 c.simp_view-answer.ensures _ c.number-k.ensures
    c.if-k-eq-DONE.false)
    (rw c.from.ensures at c.put_line.ensures)

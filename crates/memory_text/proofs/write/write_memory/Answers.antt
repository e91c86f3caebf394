use Rattle.std.proofs.Common.{ℕ, length, sym, ap, ◌∙◌, arith, length-append}
use Rattle.memory_text.proofs.Writes.{lines_goes, lines_done, printed_all, printed_part, printed_small}
use Rattle.memory_text.proofs.write.write_memory.Goals as goal
use Rattle.memory_text.proofs.write.write_memory.Goals.{then-words-ne0-via-then-words-ne0}
use Rattle.memory_text.proofs.write.write_memory.Goals.{then-words-ne0-via-else-words-ne0+then-out-words}

pub returns-then-words-ne0 : goal.returns-then-words-ne0
returns-then-words-ne0 c =
    elim c.then-words-ne0.branch [
      | then-words-ne0-via-then-words-ne0 w ↦
          let p = printed_part c.args.words.now c.args.out.now w.if-words-ne0.true in
          record { value = sym p.0; out_after = sym p.1 }
      | then-words-ne0-via-else-words-ne0+then-out-words w ↦
          let p = printed_small c.args.words.now c.args.out.now w.if-words-ne0.false w.if-out-words.true in
          record { value = sym p.0; out_after = sym p.1 }
    ]

pub loop-row-preserved : goal.loop-row-preserved
loop-row-preserved c =
    let i = c.loop-row.invariant in
    let s = c.in-Some.ensures.steps in
    let n = s.1.1 ∙ i.size in
    record {
      size = s.0 ∙ i.size;
      short = omega (arith, c.put_line-at.ensures.short, n, ap length s.1.0, length-append {A = ℕ});
      goes = lines_goes _ _ _ _ _ _ _ _ _ _ i.goes s.1.0 n c.put_line-at.ensures;
    }

pub returns : goal.returns
returns c =
    let i = c.loop-row.invariant in
    let s = c.in-None.ensures.steps in
    let d = lines_done _ _ _ _ _ i.goes (omega (arith, s.1.0, i.size)) in
    let p = printed_all c.args.words.now c.args.out.now c.if-words-ne0.false c.if-out-words.false in
    record { value = d.0 ∙ sym p.0; out_after = d.1 ∙ sym p.1 }

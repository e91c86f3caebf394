-- `script_text::decode_lines` meets its contract.
use Rattle.std.proofs.Common.{ℕ, List, Bor, refl, sym, ap, ◌∙◌, arith}
use Rattle.reader.proofs.Moves.{moved_found, moved_none}
use Rattle.script_text.proofs.CodeLaws.{table_start, table_done, table_full, table-bad, table_more}
use Rattle.script_text.proofs.decode_lines.Goals as goal

pub loop-reader-init : goal.loop-reader-init
loop-reader-init c = record {
  few = omega arith;
  same = refl;
  rest = table_start _ _ _ c.requires.few c.requires.zeros;
}

pub returns-then-most-count : goal.returns-then-most-count
returns-then-most-count c =
    sym (table_full _ _ _ _ _ c.loop-reader-test.true c.if-most-count.true) ∙ c.loop-reader.invariant.rest

pub returns-in_err-row : goal.returns-in_err-row
returns-in_err-row c =
    let line = rw c.loop-reader.invariant.same at c.in_err-row.ensures.line in
    rw c.from_residual.ensures
    (sym (table-bad _ _ _ _ _ c.loop-reader-test.true c.if-most-count.false (sym (moved_none _ _ _ line)))
    ∙ c.loop-reader.invariant.rest)

pub loop-reader-preserved : goal.loop-reader-preserved
loop-reader-preserved c =
    let line = rw c.loop-reader.invariant.same at c.in_ok-row.ensures.line in record {
      few = omega arith;
      same = ap (λ (r : Bor (List ℕ)). r.now) c.in_ok-row.ensures.text ∙ c.loop-reader.invariant.same;
      rest = sym (table_more _ _ _ _ _ c.loop-reader-test.true c.if-most-count.false _ _
          (sym (moved_found _ _ _ _ line)))
          ∙ c.loop-reader.invariant.rest;
    }

pub returns : goal.returns
returns c = sym (table_done _ _ _ _ _ c.loop-reader-test.false) ∙ c.loop-reader.invariant.rest

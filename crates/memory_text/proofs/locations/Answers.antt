-- No line is left, the line that stands here is no location, or it is one more.
use Rattle.std.proofs.Common.{◌≡◌, length, refl, sym, ap, ◌∙◌, arith, Bor, List, ℕ}
use Rattle.sheet.specs.Sheet.{max_locations}
use Rattle.memory_text.proofs.Tables.{tabled_start, rest_done, rest_full, rest-bad, rest_more, row_on, row_off}
use Rattle.memory_text.proofs.locations.Goals as goal

pub loop-count-init : goal.loop-count-init
loop-count-init c = record { sized = refl; text = refl; rest = tabled_start _ }

pub returns-then-s-reader : goal.returns-then-s-reader
returns-then-s-reader c =
    let l = c.loop-count in
    let t = l.reader.text.now in
    sym (rest_done l.count l.words t l.reader.at (omega (arith, ap length l.invariant.text))) ∙ l.invariant.rest

pub returns-in_err-row : goal.returns-in_err-row
returns-in_err-row c =
    let l = c.loop-count in
    let t = l.reader.text.now in
    c.from_residual.ensures
    ∙ sym (rest-bad l.count l.words t l.reader.at (omega (arith, ap length l.invariant.text)) c.loop-count-test.true
    (row_off t l.reader.at _ c.in_err-row.ensures.line))
    ∙ l.invariant.rest

pub loop-count-preserved : goal.loop-count-preserved
loop-count-preserved c =
    let l = c.loop-count in
    let t = l.reader.text.now in
    let same = ap (λ (r : Bor (List ℕ)). r.now) c.next_location.ensures.text in
    record {
      sized = c.store.auto.words ∙ l.invariant.sized;
      text = same ∙ l.invariant.text;
      rest = rw (c.store.ensures, same)
          (sym (rest_more l.count l.words t l.reader.at (omega (arith, ap length l.invariant.text))
          c.loop-count-test.true c.in_ok-row.row _ (row_on t l.reader.at _ _ c.in_ok-row.ensures.line))
          ∙ l.invariant.rest);
    }

pub returns-then-s-reader-2 : goal.returns-then-s-reader-2
returns-then-s-reader-2 c =
    let l = c.loop-count in
    let t = l.reader.text.now in
    let n : l.count ≡ max_locations = omega arith in
    rw n at (sym (rest_done l.count l.words t l.reader.at (omega (arith, ap length l.invariant.text)))
    ∙ l.invariant.rest)

pub returns-else-s-reader-2 : goal.returns-else-s-reader-2
returns-else-s-reader-2 c =
    let l = c.loop-count in
    let t = l.reader.text.now in
    sym (rest_full l.count l.words t l.reader.at (omega (arith, ap length l.invariant.text)) (omega arith))
    ∙ l.invariant.rest

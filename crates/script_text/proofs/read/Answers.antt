-- `script_text::read` meets its contract.
use Rattle.std.proofs.Common.{refl, sym}
use Rattle.logic.proofs.BooleanLaws.{both_true, both_no_left, both_no_right}
use Rattle.script_text.specs.Internal.Decoded.{no_code}
use Rattle.script_text.proofs.ReadLaws.{read_none, read_yes, read_no}
use Rattle.script_text.proofs.read.Goals.{else-whole-via-then-whole+else-is_start, else-whole-via-else-whole}
use Rattle.script_text.proofs.read.Goals as goal

pub returns-in_err-decoded : goal.returns-in_err-decoded
returns-in_err-decoded c =
    rw c.from_residual.ensures (record {
      decoded = sym (read_none _ _ c.in_err-decoded.ensures.decoded);
      refused = c.in_err-decoded.ensures.refused;
    })

pub returns-then-is_start : goal.returns-then-is_start
returns-then-is_start c = record {
  decoded = read_yes _ _ _ _ c.in_ok-decoded.ensures.decoded _ c.rows.ensures _ c.whole.ensures _ c.is_start.ensures
      (both_true c.if-whole.true c.if-is_start.true);
  refused = tt;
}

pub returns : goal.returns
unfolding no_code
returns c =
    elim c.else-whole.branch [
      | else-whole-via-then-whole+else-is_start w ↦ record {
        decoded = read_no _ _ _ _ c.in_ok-decoded.ensures.decoded _ c.rows.ensures _ c.whole.ensures _
            w.is_start.ensures (both_no_right _ _ w.if-is_start.false);
        refused = refl;
      }
      | else-whole-via-else-whole w ↦ record {
        decoded = read_no _ _ _ _ c.in_ok-decoded.ensures.decoded _ c.rows.ensures _ c.whole.ensures _ refl
            (both_no_left _ _ w.if-whole.false);
        refused = refl;
      }
    ]

use Prim.Native.Nat.{◌+◌}
use native.Mathlib.Omega.{arith}
use borrow.Author.Tests.{lt-ltb}
use Rattle.sets.proofs.SetLaws.{shl_one}
use Rattle.sheet.specs.Sheet.{max_labels}
use Rattle.members.proofs.alone.Goals as goal

pub returns : goal.returns
returns c =
    let a = c.args in
    rw (lt-ltb a.l max_labels (omega arith)) (shl_one 64 (a.first + a.l) (omega arith))

use mathlib.Core.Path.{◌≡◌}
use Prim.Native.Nat.{◌+◌}
use native.Mathlib.Omega.{arith}
use Rattle.members.specs.Internal.Members.{label_member}
use Rattle.members.proofs.label.Goals as goal

pub returns : goal.returns
unfolding label_member
returns c =
    let z : 0 + c.args.l ≡ c.args.l = omega arith in
    rw z at c.alone.ensures

-- The first member of the rest, and the rest without it.
use mathlib.Core.Path.{◌≡◌, ap}
use mathlib.Core.List.{◌∷◌}
use Prim.Native.Nat.{◌-◌, ◌<◌, ◌^◌}
use native.Mathlib.Omega.{arith}
use lib.ListN.{length}
use Rattle.std.specs.Int.{w64, trailing_zeros}
use Rattle.sets.specs.Sets.{single}
use Rattle.sets.proofs.SetLaws.{shl_one}
use Rattle.members.specs.Internal.Members.{members_of}
use Rattle.members.proofs.WalkLaws.{none_left, first_there, first_within, first_of}
use Rattle.members.proofs.EachIterator.next.Goals as goal

pub returns-then-self-eq0-clause-steps : goal.returns-then-self-eq0-clause-steps
returns-then-self-eq0-clause-steps c = rw c.if-self-eq0.true (none_left, none_left)

pub overflow_sub-self : goal.overflow_sub-self
overflow_sub-self c =
    let m = c.args.self.now.rest in
    let some : 0 < m = omega arith in
    let fits : m < 2 ^ 64 = omega arith in
    rw (shl_one 64 (trailing_zeros w64 m) (first_there m some fits)) (first_within m some fits)

pub returns-clause-steps : goal.returns-clause-steps
returns-clause-steps c =
    let m = c.args.self.now.rest in
    let some : 0 < m = omega arith in
    let fits : m < 2 ^ 64 = omega arith in
    rw (shl_one 64 (trailing_zeros w64 m) (first_there m some fits)) (first_of m some fits)

pub returns-clause-goes : goal.returns-clause-goes
returns-clause-goes c =
    let m = c.args.self.now.rest in
    let p = trailing_zeros w64 m in
    let some : 0 < m = omega arith in
    let fits : m < 2 ^ 64 = omega arith in
    let shorter : length (members_of m) ≡ length (p ∷ members_of (m - single p)) = ap length (first_of m some fits) in
    rw (shl_one 64 p (first_there m some fits)) (record {
      on = λ _. (tt, tt, omega arith);
      keeps = tt;
      rests = λ _. tt;
    })

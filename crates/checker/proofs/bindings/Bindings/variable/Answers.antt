-- A variable is read from its place, if it has one.
use mathlib.Core.Path.{◌≡◌, sym, ◌∙◌}
use Prim.Native.Nat.{suc, ◌-◌}
use native.Mathlib.Omega.{arith}
use Rattle.checker.proofs.BindingLaws.{var_in, var_past, var_deep}
use Rattle.checker.proofs.bindings.Bindings.variable.Goals as goal

pub returns-then-i-self : goal.returns-then-i-self
returns-then-i-self c =
    let a = c.args in
    c.no_type.ensures ∙ sym (var_past a.self.now a.d a.next (omega arith))

pub returns-then-at-ge-DEPTH : goal.returns-then-at-ge-DEPTH
returns-then-at-ge-DEPTH c =
    let a = c.args in
    c.no_type-then-at-ge-DEPTH.ensures ∙ sym (var_deep a.self.now a.d a.next (omega arith))

pub returns : goal.returns
returns c =
    let a = c.args in
    let e : a.self.now.depth - 1 - a.d ≡ a.self.now.depth - suc a.d = omega arith in
    c.plain.ensures ∙ rw e (sym (var_in a.self.now a.d a.next (omega arith) (omega arith)))

-- From what a reader found and the byte that it has reached back to what stood there.
use Prim.Native.Nat.{ℕ}
use native.Mathlib.Omega.{arith}
use mathlib.Core.Path.{◌≡◌, refl, sym, ap}
use Rattle.std.specs.Prelude.{Option, Some, None}
use Rattle.reader.specs.Internal.Moved.{moved}

module _ {A : Type 0} (i p : ℕ) where
  pub moved_found : (o : Option (A × ℕ)) (x : A) → (Some x, p) ≡ moved i o → o ≡ Some (x, p)
  moved_found None x e =
      let f : Some x ≡ None = ap (λ (y : Option A × ℕ). y.0) e in
      let z : ◌≡◌ {A = ℕ} 0 1 = cc in absurd (omega arith)
  moved_found (Some y) x e =
      let f : Some x ≡ Some y.0 = ap (λ (y : Option A × ℕ). y.0) e in
      let a : y.0 ≡ x = cc in
      let b : y.1 ≡ p = sym (ap (λ (y : Option A × ℕ). y.1) e) in
      rw (← a, ← b) refl

  pub moved_none : (o : Option (A × ℕ)) → (None, p) ≡ moved i o → o ≡ None
  moved_none None e = refl
  moved_none (Some y) e =
      let f : None ≡ Some y.0 = ap (λ (y : Option A × ℕ). y.0) e in
      let z : ◌≡◌ {A = ℕ} 0 1 = cc in absurd (omega arith)

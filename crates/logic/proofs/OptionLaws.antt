-- Laws of the options.
use mathlib.Core.Path.{◌≡◌}
use mathlib.Core.Option.{none, some}
use Prim.Native.Nat.{ℕ}
use native.Mathlib.Omega.{arith}

-- none is not some
pub none_some : {A P : Type 0} {a : A} → none ≡ some a → P
none_some h = absurd (let z : ◌≡◌ {A = ℕ} 0 1 = cc in omega arith)

pub some_path : {A : Type 0} {a b : A} → some a ≡ some b → a ≡ b
some_path h = cc

-- From an answer in a text back to the reading, from a reading to its answer, and the answer to readings one after
-- another.
use Prim.Native.Nat.{ℕ, ◌-◌, ◌≤◌}
use native.Mathlib.Omega.{arith}
use mathlib.Core.Path.{◌≡◌, refl, sym, ap}
use mathlib.Core.List.{List}
use native.Mathlib.Nat.{sub-le}
use lib.ListN.{length, drop, length-drop}
use Rattle.std.specs.Prelude.{Some, None, option_and_then, option_map}
use Rattle.text.specs.Reading.{Read, and_then}
use Rattle.text.specs.Reading.Read.{got, bad}
use Rattle.text.specs.Internal.Place.{placed, placed_end}
use Rattle.text.proofs.Readings.{IsEnd, ends_place}

-- each value that x reads from t is followed by the end of t
abbrev pub Within : {A : Type 0} → List ℕ → Read A → Type 0
Within {A} t x = (v : A) (u : List ℕ) → x ≡ got v u → IsEnd t u

module _ (s : List ℕ) where
  -- the answer to a reading that is known
  pub placed_got : {A : Type 0} (want : Read A) (v : A) (p : ℕ) → want ≡ got v (drop p s) → p ≤ length s
      → placed s want ≡ Some (v, p)
  unfolding placed
  placed_got want v p e h = let z : length s - length (drop p s) ≡ p = omega (arith, length-drop p s) in rw (e, z)

  pub placed_none : {A : Type 0} (want : Read A) → want ≡ bad → placed s want ≡ None
  unfolding placed
  placed_none want e = rw e

  pub placed_end_got : (want : Read Unit) (p : ℕ) → want ≡ got tt (drop p s) → p ≤ length s
      → placed_end s want ≡ Some p
  unfolding placed_end
  placed_end_got want p e h = let z : length s - length (drop p s) ≡ p = omega (arith, length-drop p s) in rw (e, z)

  pub placed_end_none : (want : Read Unit) → want ≡ bad → placed_end s want ≡ None
  unfolding placed_end
  placed_end_none want e = rw e

  -- what an answer to a reading at i says of it
  module _ (i : ℕ) where
    pub placed_at : {A : Type 0} (want : Read A) → Within (drop i s) want → (v : A) (p : ℕ)
        → Some (v, p) ≡ placed s want → (want ≡ got v (drop p s)) × (p ≤ length s)
    unfolding placed
    placed_at {A} (got u t) w v p e =
        let x : t ≡ drop (length s - length t) s = sym (ends_place s i t (w u t refl)) in
        let q : (u, length s - length t) ≡ (v, p) = cc in
        let a : u ≡ v = ap (λ (y : A × ℕ). y.0) q in
        let b : length s - length t ≡ p = ap (λ (y : A × ℕ). y.1) q in
        let h : p ≤ length s = rw b at (sub-le (length s) (length t)) in
        rw (x, b, a) (refl, h)
    placed_at {A} bad w v p e = let z : ◌≡◌ {A = ℕ} 0 1 = cc in absurd (omega arith)

    pub placed-bad : {A : Type 0} (want : Read A) → None ≡ placed s want → want ≡ bad
    unfolding placed
    placed-bad (got u t) e = let z : ◌≡◌ {A = ℕ} 0 1 = cc in absurd (omega arith)
    placed-bad bad e = refl

    -- the answer to one reading after another, whose value is used
    pub placed_then : {A B : Type 0} (x : Read A) (f : A → List ℕ → Read B) → Within (drop i s) x
        → placed s (and_then x f) ≡ option_and_then (λ r. placed s (f r.0 (drop r.1 s))) (placed s x)
    unfolding placed and_then
    placed_then (got v t) f w = rw (ends_place s i t (w v t refl))
    placed_then bad f w = refl

    -- the same where the place alone is
    pub placed_after : {B : Type 0} (x : Read Unit) (f : Unit → List ℕ → Read B) → Within (drop i s) x
        → placed s (and_then x f) ≡ option_and_then (λ p. placed s (f tt (drop p s))) (placed_end s x)
    unfolding placed placed_end and_then
    placed_after (got v t) f w = rw (ends_place s i t (w v t refl))
    placed_after bad f w = refl

    -- the same with the value of an earlier reading
    pub placed_last : {B : Type 0} (x : Read Unit) (v : B)
        → placed s (and_then x (λ _ u. got v u)) ≡ option_map (λ p. (v, p)) (placed_end s x)
    unfolding placed placed_end and_then
    placed_last (got w t) v = refl
    placed_last bad v = refl

  -- the answer to a reading whose value is made into another
  pub placed_map : {A B : Type 0} (x : Read A) (f : A → B)
      → placed s (and_then x (λ v u. got (f v) u)) ≡ option_map (λ r. (f r.0, r.1)) (placed s x)
  unfolding placed and_then
  placed_map (got v t) f = refl
  placed_map bad f = refl

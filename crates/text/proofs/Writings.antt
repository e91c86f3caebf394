-- Bytes in a buffer: one run after another, how long a number is, and where the bytes fit.
use Prim.Native.Nat.{ℕ, zero, suc, ◌+◌, ◌*◌, ◌-◌, ◌/◌, ◌%◌, ◌^◌, ◌≤◌, ◌<◌}
use native.Mathlib.Omega.{arith}
use native.Mathlib.Nat.{one-le-pow}
use mathlib.Core.Path.{◌≡◌, refl, sym, ap, ◌∙◌}
use mathlib.Core.List.{List, [], ◌∷◌, ◌++◌}
use lib.ListN.{length, set, drop, replicate, length-append, length-replicate}
use lib.Seq.{sets, sets-eq}
use lib.Dec.{ltb}
use borrow.Author.Tests.{le-leb, lt-leb, ltb-true, ltb-false}
use Rattle.std.specs.Prelude.{Option, Some, None, IfSome, IfNone}
use Rattle.std.specs.Option.{option_map_or}
use Rattle.text.specs.Number.{decimal, most}
use Rattle.text.specs.Internal.Writing.{written, reached}
use Rattle.logic.proofs.BooleanLaws.{cases}
pub use Rattle.sets.proofs.Walks.{sets_append}
use Rattle.text.proofs.Decimals.{decimal_low, decimal_more}

-- words stored over zeros
drop-zeros : (k n : ℕ) → drop k (replicate {A = ℕ} n 0) ≡ replicate (n - k) 0
drop-zeros zero n = let z : n - 0 ≡ n = omega arith in rw z
drop-zeros (suc k) zero = let z : 0 - suc k ≡ 0 = omega arith in rw z
drop-zeros (suc k) (suc n) = let z : suc n - suc k ≡ n - k = omega arith in rw z (drop-zeros k n)

pub sets_zeros : (n : ℕ) (ws : List ℕ) → length ws ≤ n → sets (replicate n 0) 0 ws ≡ ws ++ replicate (n - length ws) 0
sets_zeros n ws h =
    let z : 0 + length ws ≡ length ws = omega arith in
    sets-eq ws (replicate n 0) 0 (omega (arith, length-replicate {A = ℕ} n 0)) ∙ rw (z, drop-zeros (length ws) n)

-- the digits of a number, one by one
pub length_low : (v : ℕ) → v < 10 → length (decimal v) ≡ 1
length_low v h = ap length (decimal_low v h)

pub length_more : (v : ℕ) → 10 ≤ v → length (decimal v) ≡ length (decimal (v / 10)) + 1
length_more v h = ap length (decimal_more v h) ∙ length-append (decimal (v / 10)) ((48 + v % 10) ∷ [])

pub sets_low : (l : List ℕ) (i v : ℕ) → v < 10 → set l i (48 + v) ≡ sets l i (decimal v)
sets_low l i v h = rw (decimal_low v h)

pub sets_more : (l : List ℕ) (i v : ℕ) → 10 ≤ v
    → set (sets l i (decimal (v / 10))) (i + length (decimal (v / 10))) (48 + v % 10) ≡ sets l i (decimal v)
sets_more l i v h = sym (ap (sets l i) (decimal_more v h) ∙ sets_append l i (decimal (v / 10)) ((48 + v % 10) ∷ []))

-- a number below 10 ^ (k + 1) has at most k + 1 digits
length_below : (k v : ℕ) → v < 10 ^ suc k → length (decimal v) ≤ suc k
length_below zero v h = omega (arith, length_low v (omega arith))
length_below (suc k) v h =
    cases (ltb v 10) (λ e. omega (arith, length_low v (ltb-true _ _ e)))
    (λ e.
    let l : 10 ≤ v = ltb-false _ _ e in
    omega (arith, length_more v l, length_below k (v / 10) (omega arith)))

-- 32 bits take at most ten digits, and at least one
pub length-decimal : (v : ℕ) → v ≤ most → length (decimal v) ≤ 10
length-decimal v h = length_below 9 v (let z : 10 ^ 10 ≡ 10000000000 = refl in omega arith)

pub length_positive : (v : ℕ) → 1 ≤ length (decimal v)
length_positive v =
    cases (ltb v 10) (λ e. omega (arith, length_low v (ltb-true _ _ e)))
    (λ e. omega (arith, length_more v (ltb-false _ _ e)))

-- a number of at least 10 ^ k has more than k digits
length_above : (k v : ℕ) → 10 ^ k ≤ v → suc k ≤ length (decimal v)
length_above zero v h = length_positive v
length_above (suc k) v h =
    let p : 1 ≤ 10 ^ k = one-le-pow k 10 (omega arith) in
    let l : 10 ≤ v = omega arith in
    omega (arith, length_more v l, length_above k (v / 10) (omega arith))

-- how many digits the logarithm tells, and one for 0
pub length_by_log : (o : Option ℕ) (v : ℕ) → IfNone o (v ≡ 0) → IfSome o (λ n. 10 ^ n ≤ v)
    → IfSome o (λ n. v < 10 * 10 ^ n) → option_map_or (λ n. n + 1) o 1 ≡ length (decimal v)
length_by_log None v z l h = sym (length_low v (omega arith))
length_by_log (Some n) v z l h = omega (arith, length_above n v l, length_below n v (omega arith))

-- where the bytes fit, and where not
module _ (out : List ℕ) (at : ℕ) (bytes : List ℕ) where
  module _ (h : at + length bytes ≤ length out) where
    pub written_fits : written out at bytes ≡ sets out at bytes
    unfolding written
    written_fits = rw (le-leb _ _ h)

    pub reached_fits : reached out at bytes ≡ at + length bytes
    unfolding reached
    reached_fits = rw (le-leb _ _ h)

  module _ (h : length out < at + length bytes) where
    pub written_none : written out at bytes ≡ out
    unfolding written
    written_none = rw (lt-leb _ _ h)

    pub reached_none : reached out at bytes ≡ at
    unfolding reached
    reached_none = rw (lt-leb _ _ h)

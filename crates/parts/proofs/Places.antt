-- Where the bytes of a text stand in the buffer.
use Prim.Native.Nat.{ℕ, ◌+◌, ◌*◌, ◌-◌, ◌≤◌, ◌<◌}
use native.Mathlib.Omega.{arith}
use native.Mathlib.Numerals.{add-one}
use mathlib.Core.Path.{◌≡◌, sym, ap}
use mathlib.Core.List.{List, [], ◌∷◌, ◌++◌}
use lib.ListN.{length, take, drop, set, length-drop, get_or-eq_default}
use lib.Seq.{drop-set-add, drop-set-lt, take-set-le, take-suc-set, take_all}
use lib.Dec.{ltb}
use borrow.Author.Tests.{ltb-true, ltb-false}
use Rattle.logic.proofs.BooleanLaws.{cases}
use Rattle.parts.specs.declared.State.{State}
use Rattle.parts.specs.Parts.{keep}
use Rattle.parts.specs.Feeding.{count, text_held}

-- a byte stored after the n bytes from p on
pub place_same : (l : List ℕ) (p n b : ℕ) → p + n < length l
    → take (n + 1) (drop p (set l (p + n) b)) ≡ take n (drop p l) ++ (b ∷ [])
place_same l p n b h =
    rw (drop-set-add p l n b, add-one n) (take-suc-set (drop p l) n b (omega (arith, length-drop p l)))

-- a byte stored in the places of another text
pub place_other : (l : List ℕ) (i j m n b : ℕ) → (j ≡ i → ⊥) → m ≤ keep → n < keep
    → take m (drop (i * keep) (set l (j * keep + n) b)) ≡ take m (drop (i * keep) l)
place_other l i j m n b d hm hn =
    cases (ltb j i)
    (λ e. let s : j < i = ltb-true _ _ e in ap (take m) (drop-set-lt (i * keep) l (j * keep + n) b (omega arith)))
    (λ e.
    let s : i ≤ j = ltb-false _ _ e in
    let more : i < j =
    cases (ltb i j) (λ q. ltb-true _ _ q) (λ q. let z : j ≤ i = ltb-false _ _ q in absurd (d (omega arith))) in
    let q : j * keep + n ≡ i * keep + (j * keep + n - i * keep) = omega arith in
    rw q (rw (drop-set-add (i * keep) l (j * keep + n - i * keep) b)
    (take-set-le m (drop (i * keep) l) (j * keep + n - i * keep) b (omega arith))))

-- what is held of a text, as the code takes it
module _ (s : State) (buffer : List ℕ) (i : ℕ) where
  pub text_past : length s.kept ≤ i → [] ≡ text_held s buffer i
  unfolding text_held
  text_past h = rw (get_or-eq_default s.kept 0 h)

  pub text_short : length (drop (i * keep) buffer) ≤ count s i → drop (i * keep) buffer ≡ text_held s buffer i
  unfolding text_held
  text_short h = sym (take_all (count s i) (drop (i * keep) buffer) h)

  pub text_long : take (count s i - 0) (drop (i * keep) buffer) ≡ text_held s buffer i
  unfolding text_held
  text_long = let z : count s i - 0 ≡ count s i = omega arith in rw z

-- Readings one after another, the byte at the front, and that what follows a reading is the end of the text.
use Prim.Native.Nat.{ℕ, ◌+◌, ◌-◌, ◌≤◌, ◌<◌}
use native.Mathlib.Omega.{arith}
use native.Mathlib.Numerals.{add-one}
use mathlib.Core.Path.{◌≡◌, refl, ap}
use mathlib.Core.List.{List, [], ◌∷◌, ◌++◌}
use lib.ListN.{length, drop, get_or, length-append, length-drop, drop_of_length-le}
use lib.Seq.{drop-cons, drop-drop, drop-append_seam}
use lib.Dec.{eqb, leb}
use borrow.Author.Tests.{eq-eqb, ne_eqb, eqb-true, leb-true, leb-false}
use Rattle.text.specs.Reading.{Read, and_then, byte}
use Rattle.text.specs.Reading.Read.{got, bad}
use Rattle.logic.proofs.BooleanLaws.{cases, cond_split}

-- what stands from i on
pub drop-step : (s : List ℕ) (i : ℕ) → i < length s → drop i s ≡ get_or s i 0 ∷ drop (i + 1) s
drop-step s i h = rw (add-one, drop-cons s i 0)

-- a refusal is no value
pub not_bad : {A P : Type 0} (v : A) (u : List ℕ) → bad ≡ got v u → P
not_bad v u e = let z : ◌≡◌ {A = ℕ} 0 1 = cc in absurd (omega arith)

-- the same value and the same rest
pub got_same : {A : Type 0} (v w : A) (t u : List ℕ) → got v t ≡ got w u → (v ≡ w) × (t ≡ u)
got_same v w t u e = (cc, cc)

module _ {A B : Type 0} where
  pub and_then-got : (x : Read A) (f : A → List ℕ → Read B) (v : A) (t : List ℕ) → x ≡ got v t → and_then x f ≡ f v t
  unfolding and_then
  and_then-got x f v t e = rw e

  pub and_then-bad : (x : Read A) (f : A → List ℕ → Read B) → x ≡ bad → and_then x f ≡ bad
  unfolding and_then
  and_then-bad x f e = rw e

  -- where both are read, so is the first
  pub and_then_split : {P : Type 0} (x : Read A) (f : A → List ℕ → Read B) (w : B) (u : List ℕ)
      → ((v : A) (t : List ℕ) → x ≡ got v t → f v t ≡ got w u → P) → and_then x f ≡ got w u → P
  unfolding and_then
  and_then_split (got v t) f w u g e = g v t refl e
  and_then_split bad f w u g e = not_bad w u e

-- the cases of `byte`
pub byte_none : (b : ℕ) → byte b [] ≡ bad
unfolding byte
byte_none b = refl

pub byte_here : (b c : ℕ) (t : List ℕ) → c ≡ b → byte b (c ∷ t) ≡ got tt t
unfolding byte
byte_here b c t h = rw (eq-eqb c b h)

pub byte_other : (b c : ℕ) (t : List ℕ) → (c ≡ b → ⊥) → byte b (c ∷ t) ≡ bad
unfolding byte
byte_other b c t h = rw (ne_eqb c b h)

-- the same at a place of a text
module _ (b : ℕ) (s : List ℕ) (i : ℕ) where
  pub byte-at_end : length s ≤ i → byte b (drop i s) ≡ bad
  byte-at_end h = rw (drop_of_length-le s h) (byte_none b)

  pub byte_at_here : i < length s → get_or s i 0 ≡ b → byte b (drop i s) ≡ got tt (drop (i + 1) s)
  byte_at_here h e = rw (drop-step s i h) (byte_here b (get_or s i 0) (drop (i + 1) s) e)

  pub byte_at_other : i < length s → (get_or s i 0 ≡ b → ⊥) → byte b (drop i s) ≡ bad
  byte_at_other h e = rw (drop-step s i h) (byte_other b (get_or s i 0) (drop (i + 1) s) e)

pub byte-sound : (b : ℕ) (t u : List ℕ) (x : Unit) → byte b t ≡ got x u → t ≡ b ∷ u
unfolding byte
byte-sound b [] u x e = not_bad x u e
byte-sound b (c ∷ t) u x e =
    cond_split (eqb c b) _ _ _
    (λ p y. let h : c ≡ b = eqb-true _ _ p in let z = (got_same tt x t u y).1 in rw (h, z))
    (λ p y. not_bad x u y) e

-- u is the end of t
abbrev pub IsEnd : List ℕ → List ℕ → Type 0
IsEnd t u = drop (length t - length u) t ≡ u

pub ends_append : (xs u : List ℕ) → IsEnd (xs ++ u) u
ends_append xs u =
    let z : length (xs ++ u) - length u ≡ length xs = omega (arith, length-append xs u) in
    rw z (drop-append_seam xs u)

-- what is printed before u ends in u
pub ends_print : (t xs u : List ℕ) → t ≡ xs ++ u → IsEnd t u
ends_print t xs u e = rw e (ends_append xs u)

pub ends_short : (t u : List ℕ) → IsEnd t u → length u ≤ length t
ends_short t u e = omega (arith, length-drop (length t - length u) t, ap length e)

pub ends_trans : (t u w : List ℕ) → IsEnd t u → IsEnd u w → IsEnd t w
ends_trans t u w e f =
    let z : length t - length w ≡ length t - length u + (length u - length w) =
    omega (arith, ends_short t u e, ends_short u w f) in
    rw (z, ← drop-drop (length u - length w) (length t - length u) t, e) f

pub ends_drop : (s : List ℕ) (i : ℕ) → IsEnd s (drop i s)
ends_drop s i =
    cases (leb i (length s))
    (λ h. let l : i ≤ length s = leb-true _ _ h in let z : length s - length (drop i s) ≡ i =
    omega (arith, length-drop i s) in rw z)
    (λ h.
    let l : length s < i = leb-false _ _ h in
    let n : drop i s ≡ [] = drop_of_length-le s {i = i} (omega arith) in
    rw n (drop_of_length-le s {i = length s - 0} (omega arith)))

-- what follows in the rest of s from i on follows in s
pub ends_place : (s : List ℕ) (i : ℕ) (u : List ℕ) → IsEnd (drop i s) u → IsEnd s u
ends_place s i u e = ends_trans s (drop i s) u (ends_drop s i) e

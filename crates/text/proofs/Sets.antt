-- The cases of hexadecimal digits, and that a set is read exactly where its digits stand.
use Prim.Native.Nat.{ℕ, zero, suc, ◌+◌, ◌*◌, ◌-◌, ◌/◌, ◌%◌, ◌^◌, ◌≤◌, ◌<◌}
use native.Mathlib.Omega.{arith}
use native.Mathlib.Nat.{lt_of_lt_of_le, pow-le-pow_right}
use native.Mathlib.Numerals.{add-one}
use mathlib.Core.Path.{◌≡◌, refl, sym, ap, ◌∙◌}
use mathlib.Core.List.{List, [], ◌∷◌, ◌++◌, append_assoc}
use lib.ListN.{length, drop, get_or, length-append, length-drop}
use lib.Dec.{ltb}
use borrow.Author.Tests.{lt-ltb, le-ltb, ltb-true, ltb-false}
use Rattle.std.specs.Prelude.{Some, None, slice_range}
use Rattle.std.proofs.lemmas.List.{get_or-take, get_or-drop, length-take}
use Rattle.text.specs.Reading.{and_then}
use Rattle.text.specs.Reading.Read.{got, bad}
use Rattle.text.specs.Set.{hex_digit, hex_digits, set_digits, hex_set, hex_byte, hex_form}
use Rattle.text.specs.Internal.Place.{hex_value}
use Rattle.text.specs.Theorems.{SetExact}
use Rattle.logic.proofs.BooleanLaws.{cases, cond_split}
use Rattle.text.proofs.Readings.{and_then_split, drop-step, ends_print, not_bad, got_same}
use Rattle.text.proofs.Places.{Within}

-- the cases of `hex_digits`: no text left, no digit, a digit, none wanted
pub hex_done : (v : ℕ) (t : List ℕ) → hex_digits 0 v t ≡ got v t
unfolding hex_digits
hex_done v t = refl

pub hex_short : (k v : ℕ) → hex_digits (suc k) v [] ≡ bad
unfolding hex_digits
hex_short k v = refl

module _ (k v c d : ℕ) (t : List ℕ) (e : d ≡ hex_digit c) where
  pub hex_bad : 15 < d → hex_digits (suc k) v (c ∷ t) ≡ bad
  unfolding hex_digits
  hex_bad l = rw (← e, lt-ltb 15 d l)

  pub hex_on : d ≤ 15 → hex_digits (suc k) v (c ∷ t) ≡ hex_digits k (v * 16 + d) t
  unfolding hex_digits
  hex_on l = rw (← e, le-ltb 15 d l)

-- fewer bytes than digits are wanted
pub hex_few : (k v : ℕ) (t : List ℕ) → length t < k → hex_digits k v t ≡ bad
unfolding hex_digits
hex_few zero v t h = absurd (omega arith)
hex_few (suc k) v [] h = refl
hex_few (suc k) v (c ∷ t) h =
    cases (ltb 15 (hex_digit c)) (λ e. rw e) (λ e. rw e (hex_few k (v * 16 + hex_digit c) t (omega arith)))

-- what an answer says of a digit
pub hex_value-bad : (c : ℕ) → None ≡ hex_value c → 15 < hex_digit c
unfolding hex_value
hex_value-bad c e =
    cases (ltb 15 (hex_digit c)) (λ p. ltb-true _ _ p)
    (λ p. let x : None ≡ Some (hex_digit c) = rw p at e in let z : ◌≡◌ {A = ℕ} 0 1 = cc in absurd (omega arith))

pub hex_value-got : (c d : ℕ) → Some d ≡ hex_value c → (d ≡ hex_digit c) × (d ≤ 15)
unfolding hex_value
hex_value-got c d e =
    cases (ltb 15 (hex_digit c))
    (λ p. let x : Some d ≡ None = rw p at e in let z : ◌≡◌ {A = ℕ} 0 1 = cc in absurd (omega arith))
    (λ p.
    let x : Some d ≡ Some (hex_digit c) = rw p at e in
    let y : d ≡ hex_digit c = cc in
    let l : hex_digit c ≤ 15 = ltb-false _ _ p in
    (y, omega arith))

-- the same at a place of a text, where i of n digits are read
module _ (n i v : ℕ) (s : List ℕ) (p : ℕ) (l : i < n) where
  module _ (h : p < length s) (d : ℕ) (e : d ≡ hex_digit (get_or s p 0)) where
    pub hex_at_bad : 15 < d → hex_digits (n - i) v (drop p s) ≡ bad
    hex_at_bad m =
        let z : n - i ≡ suc (n - (i + 1)) = omega arith in
        rw (z, drop-step s p h) (hex_bad (n - (i + 1)) v (get_or s p 0) d (drop (p + 1) s) e m)

    pub hex_at_on : d ≤ 15 → hex_digits (n - i) v (drop p s) ≡ hex_digits (n - (i + 1)) (v * 16 + d) (drop (p + 1) s)
    hex_at_on m =
        let z : n - i ≡ suc (n - (i + 1)) = omega arith in
        rw (z, drop-step s p h) (hex_on (n - (i + 1)) v (get_or s p 0) d (drop (p + 1) s) e m)

-- the same where items are the first bytes of rest, the bytes from p on
module _ (n m v : ℕ) (s rest items : List ℕ) (p i : ℕ) (e : rest ≡ slice_range s p (length s))
    (f : items ≡ slice_range rest 0 n) (h : i < length items) (l : n ≤ m) where
  run_inside : (p + i < length s) × (i < m)
  run_inside =
      omega (
        arith,
        ap length e,
        ap length f,
        length-take (length s - p) (drop p s),
        length-drop p s,
        length-take (n - 0) (drop 0 rest),
        length-drop 0 rest,
      )

  run_byte : get_or items i 0 ≡ get_or s (p + i) 0
  run_byte =
      let a : i < n - 0 = omega (arith, ap length f, length-take (n - 0) (drop 0 rest)) in
      let b : i < length s - p = omega (arith, run_inside) in
      ap (λ (t : List ℕ). get_or t i 0) f ∙ get_or-take (n - 0) rest i 0 a ∙ ap (λ (t : List ℕ). get_or t i 0) e
      ∙ get_or-take (length s - p) (drop p s) i 0 b ∙ get_or-drop p s i 0

  pub hex_run_bad : None ≡ hex_value (get_or items i 0) → hex_digits (m - i) v (drop (p + i) s) ≡ bad
  hex_run_bad x =
      hex_at_bad m i v s (p + i) run_inside.1 run_inside.0 _ (ap hex_digit run_byte) (hex_value-bad _ x)

  pub hex_run_on : (d : ℕ) → Some d ≡ hex_value (get_or items i 0)
      → hex_digits (m - i) v (drop (p + i) s) ≡ hex_digits (m - (i + 1)) (v * 16 + d) (drop (p + (i + 1)) s)
  hex_run_on d x =
      let y = hex_value-got _ d x in
      let next : p + (i + 1) ≡ p + i + 1 = omega arith in
      rw next (hex_at_on m i v s (p + i) run_inside.1 run_inside.0 d (y.0 ∙ ap hex_digit run_byte) y.1)

-- i digits are below 16 ^ i, and one digit more fits a set
pub hex_fits : (i v : ℕ) → i < set_digits → v < 16 ^ i → v < 16 ^ (set_digits - 1)
hex_fits i v l h =
    let few : i ≤ set_digits - 1 = omega arith in
    let low : 16 ^ i ≤ 16 ^ (set_digits - 1) = pow-le-pow_right (omega arith) few in
    lt_of_lt_of_le h low

pub hex_grows : (i v d : ℕ) → v < 16 ^ i → d ≤ 15 → v * 16 + d < 16 ^ (i + 1)
hex_grows i v d h l = rw (add-one i) (omega arith)

-- a digit's byte and its value
digit_of_byte : (d : ℕ) → d < 16 → hex_digit (hex_byte d) ≡ d
unfolding hex_byte hex_digit
digit_of_byte d h =
    cases (ltb d 10)
    (λ p.
    let l : d < 10 = ltb-true _ _ p in
    simp (p, le-ltb (48 + d) 48 (omega arith), lt-ltb (48 + d) 58 (omega arith)) (omega arith))
    (λ p.
    let l : 10 ≤ d = ltb-false _ _ p in
    simp (
      p,
      le-ltb (87 + d) 48 (omega arith),
      le-ltb (87 + d) 58 (omega arith),
      le-ltb (87 + d) 97 (omega arith),
      lt-ltb (87 + d) 103 (omega arith),
    )
    (omega arith))

byte_of_digit : (c d : ℕ) → hex_digit c ≡ d → d ≤ 15 → hex_byte d ≡ c
unfolding hex_byte hex_digit
byte_of_digit c d e h =
    cond_split (ltb c 48) _ _ _ (λ p x. absurd (omega arith))
    (λ p. cond_split (ltb c 58) _ _ _
    (λ q x. let l : 48 ≤ c = ltb-false _ _ p in
    let m : c < 58 = ltb-true _ _ q in
    rw (lt-ltb d 10 (omega arith)) (omega arith))
    (λ q. cond_split (ltb c 97) _ _ _ (λ o x. absurd (omega arith))
    (λ o. cond_split (ltb c 103) _ _ _
    (λ r x. let l : 97 ≤ c = ltb-false _ _ o in
    let m : c < 103 = ltb-true _ _ r in
    rw (le-ltb d 10 (omega arith)) (omega arith))
    (λ r x. absurd (omega arith))))) e

-- the first of the digits that were read
hex_split : {P : Type 0} (k v : ℕ) (t : List ℕ) (w : ℕ) (u : List ℕ)
    → ((d : ℕ) (r : List ℕ) → t ≡ hex_byte d ∷ r → d ≤ 15 → hex_digits k (v * 16 + d) r ≡ got w u → P)
    → hex_digits (suc k) v t ≡ got w u → P
unfolding hex_digits
hex_split k v [] w u g e = not_bad w u e
hex_split k v (c ∷ t) w u g e =
    cond_split (ltb 15 (hex_digit c)) _ _ _ (λ p x. not_bad w u x)
    (λ p x. let l : hex_digit c ≤ 15 = ltb-false _ _ p in
    g (hex_digit c) t (rw (byte_of_digit c (hex_digit c) refl l) refl) l x) e

hex_byte_lem : (k v d : ℕ) (t : List ℕ) → d < 16 → hex_digits (suc k) v (hex_byte d ∷ t) ≡ hex_digits k (v * 16 + d) t
hex_byte_lem k v d t h = hex_on k v (hex_byte d) d t (sym (digit_of_byte d h)) (omega arith)

-- the last of the digits is read after the others
hex_last : (k v : ℕ) (t : List ℕ) → hex_digits (suc k) v t ≡ and_then (hex_digits k v t) (λ w u. hex_digits 1 w u)
unfolding hex_digits and_then
hex_last zero v t = refl
hex_last (suc k) v [] = refl
hex_last (suc k) v (c ∷ t) = cases (ltb 15 (hex_digit c)) (λ e. rw e) (λ e. rw e (hex_last k (v * 16 + hex_digit c) t))

-- ---- k digits

pub length-form : (k m : ℕ) → length (hex_form k m) ≡ k
unfolding hex_form
length-form zero m = refl
length-form (suc k) m =
    length-append (hex_form k (m / 16)) (hex_byte (m % 16) ∷ []) ∙ omega (arith, length-form k (m / 16))

pub digits-sound : (k : ℕ) (t : List ℕ) (w : ℕ) (u : List ℕ) → hex_digits k 0 t ≡ got w u
    → (t ≡ hex_form k w ++ u) × (w < 16 ^ k)
unfolding hex_form
digits-sound zero t w u e = let q = got_same 0 w t u (sym (hex_done 0 t) ∙ e) in (q.1, omega (arith, q.0))
digits-sound (suc k) t w u e =
    and_then_split (hex_digits k 0 t) _ w u
    (λ v r f g. hex_split 0 v r w u
    (λ d r' p l x.
    let q = got_same (v * 16 + d) w r' u (sym (hex_done _ r') ∙ x) in
    let front = digits-sound k t v r f in
    let high : w / 16 ≡ v = omega (arith, q.0) in
    let low : w % 16 ≡ d = omega (arith, q.0) in
    (rw (high, low, append_assoc) (front.0 ∙ rw (p, q.1)), omega (arith, q.0, front.1))) g)
    (sym (hex_last k 0 t) ∙ e)

pub digits_print : (k w : ℕ) (u : List ℕ) → w < 16 ^ k → hex_digits k 0 (hex_form k w ++ u) ≡ got w u
unfolding hex_form and_then
digits_print zero w u h = let z : 0 ≡ w = omega arith in hex_done 0 u ∙ ap (λ (x : ℕ). got x u) z
digits_print (suc k) w u h =
    let front = digits_print k (w / 16) (hex_byte (w % 16) ∷ u) (omega arith) in
    let whole : w / 16 * 16 + w % 16 ≡ w = omega arith in
    rw append_assoc
    (hex_last k 0 _
    ∙ rw front (hex_byte_lem 0 (w / 16) (w % 16) u (omega arith) ∙ hex_done _ u ∙ ap (λ (x : ℕ). got x u) whole))

-- ---- a set

pub set_exact : SetExact
set_exact m t rest =
    (λ e. digits-sound set_digits t m rest e, λ r. ap hex_set r.0 ∙ digits_print set_digits m rest r.1)

pub set_within : (t : List ℕ) → Within t (hex_set t)
set_within t m u e = ends_print t (hex_form set_digits m) u (digits-sound set_digits t m u e).0

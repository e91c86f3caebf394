-- The cases of digits and numbers, on a list and at a place of a text.
use Prim.Native.Nat.{ℕ, ◌+◌, ◌*◌, ◌-◌, ◌≤◌, ◌<◌}
use native.Mathlib.Omega.{arith}
use mathlib.Core.Path.{◌≡◌, refl, sym, ap, ◌∙◌}
use mathlib.Core.Bool.{Bool, true, false, false≢true}
use mathlib.Core.List.{List, [], ◌∷◌}
use lib.ListN.{length, take, drop, get_or, length-drop, drop_of_length-le}
use lib.Dec.{leb}
use borrow.Author.Tests.{lt-ltb, le-ltb, le-leb, lt-leb, leb-true, eq-eqb, ne_eqb}
use Rattle.std.specs.Char.{is_ascii_digit}
use Rattle.std.proofs.lemmas.List.{get_or-take, get_or-drop, length-take}
use Rattle.text.specs.Reading.{byte}
use Rattle.text.specs.Reading.Read.{got, bad}
use Rattle.text.specs.Number.{digit, opens_digit, digits, number}
use Rattle.logic.proofs.BooleanLaws.{cases}
use Rattle.text.proofs.Readings.{drop-step, byte_other}
use Rattle.logic.specs.Booleans.{both}

-- which bytes are digits
module _ (c : ℕ) where
  pub digit_low : c < 48 → digit c ≡ false
  unfolding digit both
  digit_low h = rw (lt-leb 48 c h)

  pub digit_high : 57 < c → digit c ≡ false
  unfolding digit both
  digit_high h = cases (leb 48 c) (λ e. rw (e, lt-leb c 57 h)) (λ e. rw e)

  pub digit_in : 48 ≤ c → c ≤ 57 → digit c ≡ true
  unfolding digit both
  digit_in h k = rw (le-leb 48 c h, le-leb c 57 k)

  pub digit_range : digit c ≡ true → (48 ≤ c) × (c ≤ 57)
  unfolding digit both
  digit_range e =
      cases (leb 48 c)
      (λ h. (leb-true _ _ h, leb-true _ _ (rw h at e)))
      (λ h. let z : false ≡ true = rw h at e in absurd (false≢true z))

pub opens_none : opens_digit [] ≡ false
unfolding opens_digit
opens_none = refl

pub opens_byte : (c : ℕ) (t : List ℕ) → opens_digit (c ∷ t) ≡ digit c
unfolding opens_digit
opens_byte c t = refl

-- the cases of `digits`: the digits end, or the next passes the bound, or it is taken in
module _ (bound v : ℕ) where
  pub digits_end : (t : List ℕ) → opens_digit t ≡ false → digits bound v t ≡ got v t
  unfolding digits opens_digit
  digits_end [] h = refl
  digits_end (c ∷ t) h = rw h

  module _ (c : ℕ) (t : List ℕ) (d : digit c ≡ true) where
    pub digits_over : bound < v * 10 + (c - 48) → digits bound v (c ∷ t) ≡ bad
    unfolding digits
    digits_over o = rw (d, lt-ltb _ _ o)

    pub digits_on : v * 10 + (c - 48) ≤ bound → digits bound v (c ∷ t) ≡ digits bound (v * 10 + (c - 48)) t
    unfolding digits
    digits_on o = rw (d, le-ltb _ _ o)

-- the same at a place of a text
pub opens_at_end : (s : List ℕ) (i : ℕ) → length s ≤ i → opens_digit (drop i s) ≡ false
opens_at_end s i h = rw (drop_of_length-le s h) opens_none

module _ (s : List ℕ) (i : ℕ) (h : i < length s) where
  pub opens_at : opens_digit (drop i s) ≡ digit (get_or s i 0)
  opens_at = rw (drop-step s i h) (opens_byte _ _)

  module _ (bound v : ℕ) (d : digit (get_or s i 0) ≡ true) where
    pub digits_at_over : bound < v * 10 + (get_or s i 0 - 48) → digits bound v (drop i s) ≡ bad
    digits_at_over o = rw (drop-step s i h) (digits_over bound v (get_or s i 0) (drop (i + 1) s) d o)

    pub digits_at_on : v * 10 + (get_or s i 0 - 48) ≤ bound
        → digits bound v (drop i s) ≡ digits bound (v * 10 + (get_or s i 0 - 48)) (drop (i + 1) s)
    digits_at_on o = rw (drop-step s i h) (digits_on bound v (get_or s i 0) (drop (i + 1) s) d o)

-- the same as std tests it
pub digit-same : (c : ℕ) → is_ascii_digit c ≡ digit c
unfolding digit both
digit-same c = cases (leb 48 c) (λ e. rw e) (λ e. rw e)

-- where a loop over the bytes from `from` on comes to the one at i
module _ (s : List ℕ) (from i : ℕ) (h : i < length (take (length s - from) (drop from s))) where
  abbrev turn : ℕ
  turn = get_or (take (length s - from) (drop from s)) i 0

  pub turn_inside : from + i < length s
  turn_inside = omega (arith, length-take (length s - from) (drop from s), length-drop from s)

  turn_byte : turn ≡ get_or s (from + i) 0
  turn_byte =
      let l : i < length s - from = omega (arith, turn_inside) in
      get_or-take (length s - from) (drop from s) i 0 l ∙ get_or-drop from s i 0

  pub opens_turn : (d : Bool) → d ≡ is_ascii_digit turn → opens_digit (drop (from + i) s) ≡ d
  opens_turn d e =
      opens_at s (from + i) turn_inside ∙ sym (digit-same _) ∙ ap is_ascii_digit (sym turn_byte) ∙ sym e

  module _ (bound v : ℕ) (d : true ≡ is_ascii_digit turn) where
    turn_digit : digit (get_or s (from + i) 0) ≡ true
    turn_digit = sym (opens_at s (from + i) turn_inside) ∙ opens_turn true d

    pub digits_turn_over : bound < v * 10 + (turn - 48) → digits bound v (drop (from + i) s) ≡ bad
    digits_turn_over o =
        digits_at_over s (from + i) turn_inside bound v turn_digit (omega (arith, turn_byte))

    pub digits_turn_on : v * 10 + (turn - 48) ≤ bound
        → digits bound v (drop (from + i) s) ≡ digits bound (v * 10 + (turn - 48)) (drop (from + (i + 1)) s)
    digits_turn_on o =
        let next : from + (i + 1) ≡ from + i + 1 = omega arith in
        rw (turn_byte, next)
        (digits_at_on s (from + i) turn_inside bound v turn_digit (omega (arith, turn_byte)))

-- the cases of `number`: no digit, a zero before a digit, a zero, or other digits
module _ (bound : ℕ) where
  pub number_none : (t : List ℕ) → opens_digit t ≡ false → number bound t ≡ bad
  unfolding number opens_digit
  number_none [] h = refl
  number_none (c ∷ t) h = rw h

  module _ (c : ℕ) (t : List ℕ) where
    pub number-long : c ≡ 48 → opens_digit t ≡ true → number bound (c ∷ t) ≡ bad
    unfolding number
    number-long z o = rw (digit_in c (omega arith) (omega arith), eq-eqb c 48 z, o)

    pub number-zero : c ≡ 48 → opens_digit t ≡ false → number bound (c ∷ t) ≡ got 0 t
    unfolding number
    number-zero z o = rw (digit_in c (omega arith) (omega arith), eq-eqb c 48 z, o)

    pub number_on : digit c ≡ true → (c ≡ 48 → ⊥) → number bound (c ∷ t) ≡ digits bound 0 (c ∷ t)
    unfolding number
    number_on d z = rw (d, ne_eqb c 48 z)

  -- the same at a place of a text
  module _ (s : List ℕ) (i : ℕ) (h : i < length s) where
    pub number_at_long : get_or s i 0 ≡ 48 → opens_digit (drop (i + 1) s) ≡ true → number bound (drop i s) ≡ bad
    number_at_long z o = rw (drop-step s i h) (number-long (get_or s i 0) (drop (i + 1) s) z o)

    pub number_at_zero : get_or s i 0 ≡ 48 → opens_digit (drop (i + 1) s) ≡ false
        → number bound (drop i s) ≡ got 0 (drop (i + 1) s)
    number_at_zero z o = rw (drop-step s i h) (number-zero (get_or s i 0) (drop (i + 1) s) z o)

    pub number_at_on : opens_digit (drop i s) ≡ true → (get_or s i 0 ≡ 48 → ⊥)
        → number bound (drop i s) ≡ digits bound 0 (drop i s)
    number_at_on d z = rw (drop-step s i h) (number_on (get_or s i 0) (drop (i + 1) s) (sym (opens_at s i h) ∙ d) z)

-- where a digit stands, a byte that is none does not
pub byte-digit : (b : ℕ) (t : List ℕ) → digit b ≡ false → opens_digit t ≡ true → byte b t ≡ bad
byte-digit b [] d o = absurd (false≢true (sym opens_none ∙ o))
byte-digit b (c ∷ t) d o = byte_other b c t (λ e. false≢true (sym d ∙ sym (ap digit e) ∙ sym (opens_byte c t) ∙ o))

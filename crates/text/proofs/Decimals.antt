-- A number is read exactly where its decimal form stands.
use Prim.Native.Nat.{ℕ, zero, suc, ◌+◌, ◌*◌, ◌-◌, ◌/◌, ◌%◌, ◌≤◌, ◌<◌}
use native.Mathlib.Omega.{arith}
use mathlib.Core.Path.{◌≡◌, refl, sym, ap, ◌∙◌}
use mathlib.Core.Bool.{true, false, false≢true}
use mathlib.Core.List.{List, [], ◌∷◌, ◌++◌, append_assoc}
use lib.Dec.{ltb, eqb}
use borrow.Author.Tests.{lt-ltb, le-ltb, ltb-true, ltb-false, eqb-true, eqb-false}
use Rattle.text.specs.Reading.Read.{got}
use Rattle.text.specs.Number.{digit, opens_digit, digits, number, decimal_on, decimal}
use Rattle.text.specs.Theorems.{NumberExact}
use Rattle.logic.proofs.BooleanLaws.{cases, cond_split}
use Rattle.text.proofs.Readings.{ends_print, not_bad, got_same}
use Rattle.text.proofs.Places.{Within}
use Rattle.text.proofs.Numbers.{digit_in, digit_range, opens_none, opens_byte, digits_end, digits_over}
use Rattle.text.proofs.Numbers.{digits_on, number_none, number-zero, number_on}

decimal_on_low : (k n : ℕ) → n < 10 → decimal_on (suc k) n ≡ (48 + n) ∷ []
unfolding decimal_on
decimal_on_low k n h = rw (lt-ltb n 10 h)

decimal_on_more : (k n : ℕ) → 10 ≤ n → decimal_on (suc k) n ≡ decimal_on k (n / 10) ++ (48 + n % 10) ∷ []
unfolding decimal_on
decimal_on_more k n h = rw (le-ltb n 10 h)

-- how many digits are allowed makes no difference where there are enough
decimal_on_same : (k j n : ℕ) → n < k → n < j → decimal_on k n ≡ decimal_on j n
decimal_on_same zero j n h l = absurd (omega arith)
decimal_on_same (suc k) zero n h l = absurd (omega arith)
decimal_on_same (suc k) (suc j) n h l =
    cases (ltb n 10)
    (λ e. decimal_on_low k n (ltb-true _ _ e) ∙ sym (decimal_on_low j n (ltb-true _ _ e)))
    (λ e.
    let m : 10 ≤ n = ltb-false _ _ e in
    decimal_on_more k n m
    ∙ ap (λ (l : List ℕ). l ++ (48 + n % 10) ∷ []) (decimal_on_same k j (n / 10) (omega arith) (omega arith))
    ∙ sym (decimal_on_more j n m))

pub decimal_low : (n : ℕ) → n < 10 → decimal n ≡ (48 + n) ∷ []
unfolding decimal
decimal_low n h = decimal_on_low n n h

-- the last digit of a longer number
pub decimal_more : (n : ℕ) → 10 ≤ n → decimal n ≡ decimal (n / 10) ++ (48 + n % 10) ∷ []
unfolding decimal
decimal_more n h =
    decimal_on_more n n h
    ∙ ap (λ (l : List ℕ). l ++ (48 + n % 10) ∷ [])
    (decimal_on_same n (suc (n / 10)) (n / 10) (omega arith) (omega arith))

-- one digit more
pub decimal_step : (v d : ℕ) → 1 ≤ v → d < 10 → decimal (v * 10 + d) ≡ decimal v ++ (48 + d) ∷ []
decimal_step v d h l =
    let q : (v * 10 + d) / 10 ≡ v = omega arith in
    let r : (v * 10 + d) % 10 ≡ d = omega arith in
    decimal_more (v * 10 + d) (omega arith) ∙ rw (q, r)

-- a digit at the front was taken in
digits_split : (bound v c : ℕ) (t : List ℕ) (w : ℕ) (rest : List ℕ) → digit c ≡ true
    → digits bound v (c ∷ t) ≡ got w rest
    → (v * 10 + (c - 48) ≤ bound) × (digits bound (v * 10 + (c - 48)) t ≡ got w rest)
digits_split bound v c t w rest d e =
    cases (ltb bound (v * 10 + (c - 48)))
    (λ o. not_bad w rest (sym (digits_over bound v c t d (ltb-true _ _ o)) ∙ e))
    (λ o. (ltb-false _ _ o, sym (digits_on bound v c t d (ltb-false _ _ o)) ∙ e))

-- what is read stands there, printed
digits-sound : (bound : ℕ) (t : List ℕ) (v w : ℕ) (rest : List ℕ) → 1 ≤ v → v ≤ bound → digits bound v t ≡ got w rest
    → (decimal v ++ t ≡ decimal w ++ rest) × (w ≤ bound) × (opens_digit rest ≡ false)
digits-sound bound [] v w rest h l e =
    let z = got_same v w [] rest (sym (digits_end bound v [] opens_none) ∙ e) in
    let y : w ≡ v = sym z.0 in
    rw (← z.1, y) (refl, l, opens_none)
digits-sound bound (c ∷ t) v w rest h l e =
    cases (digit c)
    (λ p.
    let r = digit_range c p in
    let x = digits_split bound v c t w rest p e in
    let ih = digits-sound bound t (v * 10 + (c - 48)) w rest (omega arith) x.0 x.1 in
    let st : decimal (v * 10 + (c - 48)) ≡ decimal v ++ (48 + (c - 48)) ∷ [] =
    decimal_step v (c - 48) h (omega arith) in
    let byte : 48 + (c - 48) ≡ c = omega arith in
    (sym (append_assoc (decimal v) (c ∷ []) t) ∙ rw (← byte, ← st) ih.0, ih.1, ih.2))
    (λ p.
    let o : opens_digit (c ∷ t) ≡ false = opens_byte c t ∙ p in
    let z = got_same v w (c ∷ t) rest (sym (digits_end bound v (c ∷ t) o) ∙ e) in
    let y : w ≡ v = sym z.0 in
    rw (← z.1, y) (refl, l, o))

-- the same from the first digit on, which is no zero
digits_first : (bound c : ℕ) (t : List ℕ) (w : ℕ) (rest : List ℕ) → digit c ≡ true → (c ≡ 48 → ⊥)
    → digits bound 0 (c ∷ t) ≡ got w rest
    → (c ∷ t ≡ decimal w ++ rest) × (w ≤ bound) × (opens_digit rest ≡ false)
digits_first bound c t w rest p q e =
    let r = digit_range c p in
    let x = digits_split bound 0 c t w rest p e in
    let ih = digits-sound bound t (0 * 10 + (c - 48)) w rest (omega arith) x.0 x.1 in
    let byte : 48 + (0 * 10 + (c - 48)) ≡ c = omega arith in
    let st : decimal (0 * 10 + (c - 48)) ≡ c ∷ [] = decimal_low (0 * 10 + (c - 48)) (omega arith) ∙ rw byte in
    (rw st at ih.0, ih.1, ih.2)

pub number-sound : (bound : ℕ) (t : List ℕ) (w : ℕ) (rest : List ℕ) → number bound t ≡ got w rest
    → (t ≡ decimal w ++ rest) × (w ≤ bound) × (opens_digit rest ≡ false)
unfolding number
number-sound bound [] w rest e = not_bad w rest e
number-sound bound (c ∷ t) w rest e =
    cond_split (digit c) _ _ _
    (λ p. cond_split (eqb c 48) _ _ _
    (λ q. cond_split (opens_digit t) _ _ _ (λ o x. not_bad w rest x)
    (λ o x.
    let z = got_same 0 w t rest x in
    let y : c ≡ 48 = eqb-true _ _ q in
    let d : decimal 0 ≡ 48 ∷ [] = decimal_low 0 (omega arith) in
    let a : w ≡ 0 = sym z.0 in
    rw (← z.1, a, d, y) (refl, omega arith, o)))
    (λ q x. digits_first bound c t w rest p (eqb-false _ _ q) x))
    (λ p x. not_bad w rest x) e

-- what is printed is read
number_digits : (bound k n : ℕ) (t : List ℕ) → n < k → 1 ≤ n → n ≤ bound
    → number bound (decimal_on k n ++ t) ≡ digits bound n t
number_digits bound zero n t h l m = absurd (omega arith)
number_digits bound (suc k) n t h l m =
    cases (ltb n 10)
    (λ e.
    let lt : n < 10 = ltb-true _ _ e in
    let d : digit (48 + n) ≡ true = digit_in (48 + n) (omega arith) (omega arith) in
    let v : 0 * 10 + (48 + n - 48) ≡ n = omega arith in
    rw (decimal_on_low k n lt)
    (number_on bound (48 + n) t d (λ z. omega arith) ∙ digits_on bound 0 (48 + n) t d (omega arith) ∙ rw v))
    (λ e.
    let ge : 10 ≤ n = ltb-false _ _ e in
    let v : n / 10 * 10 + (48 + n % 10 - 48) ≡ n = omega arith in
    rw (decimal_on_more k n ge, append_assoc)
    (number_digits bound k (n / 10) ((48 + n % 10) ∷ t) (omega arith) (omega arith) (omega arith)
    ∙ digits_on bound (n / 10) (48 + n % 10) t (digit_in (48 + n % 10) (omega arith) (omega arith)) (omega arith)
    ∙ rw v))

number_positive : (bound n : ℕ) (t : List ℕ) → 1 ≤ n → n ≤ bound → number bound (decimal n ++ t) ≡ digits bound n t
unfolding decimal
number_positive bound n t h l = number_digits bound (suc n) n t (omega arith) h l

pub number_print : (bound n : ℕ) (t : List ℕ) → n ≤ bound → opens_digit t ≡ false
    → number bound (decimal n ++ t) ≡ got n t
number_print bound n t h o =
    cases (eqb n 0)
    (λ z.
    let y : n ≡ 0 = eqb-true _ _ z in
    rw (y, decimal_low 0 (omega arith)) (number-zero bound 48 t refl o))
    (λ z.
    let y : n ≡ 0 → ⊥ = eqb-false _ _ z in
    number_positive bound n t (omega arith) h ∙ digits_end bound n t o)

-- a number opens with a digit
opens_front : (xs t : List ℕ) → opens_digit (xs ++ []) ≡ true → opens_digit (xs ++ t) ≡ true
opens_front [] t e = absurd (false≢true (sym opens_none ∙ e))
opens_front (x ∷ xs) t e = opens_byte x (xs ++ t) ∙ sym (opens_byte x (xs ++ [])) ∙ e

pub opens_decimal : (n : ℕ) (t : List ℕ) → opens_digit (decimal n ++ t) ≡ true
opens_decimal n t =
    opens_front (decimal n) t
    (cases (opens_digit (decimal n ++ [])) (λ e. e)
    (λ e. not_bad n [] (sym (number_none n (decimal n ++ []) e) ∙ number_print n n [] (omega arith) opens_none)))

pub number_exact : NumberExact
number_exact bound v t rest =
    (λ e. number-sound bound t v rest e, λ r. ap (number bound) r.0 ∙ number_print bound v rest r.1 r.2)

pub number_within : (bound : ℕ) (t : List ℕ) → Within t (number bound t)
number_within bound t v u e = ends_print t (decimal v) u (number-sound bound t v u e).0

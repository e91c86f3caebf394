-- Words with the zeros at their end dropped, and put back.
use Prim.Native.Nat.{ℕ, zero, suc, ◌-◌, ◌≤◌}
use native.Mathlib.Omega.{arith}
use mathlib.Core.Path.{◌≡◌, refl, sym, ap, ◌∙◌}
use mathlib.Core.List.{List, [], ◌∷◌, ◌++◌}
use lib.ListN.{length, replicate, length-append}
use lib.Dec.{eqb}
use borrow.Author.Tests.{eq-eqb, ne_eqb, eqb-true, eqb-false}
use Rattle.logic.proofs.BooleanLaws.{cases}
use Rattle.memory_text.specs.Printing.{cons_trimmed, trim}
use Rattle.sheet.specs.Padding.{padded}
use Rattle.memory_text.specs.Theorems.{Words}

-- the cases of `cons_trimmed`
pub keep_zero : (w : ℕ) → w ≡ 0 → cons_trimmed w [] ≡ []
unfolding cons_trimmed
keep_zero w h = rw (eq-eqb w 0 h)

pub keep_last : (w : ℕ) → (w ≡ 0 → ⊥) → cons_trimmed w [] ≡ w ∷ []
unfolding cons_trimmed
keep_last w h = rw (ne_eqb w 0 h)

pub keep_more : (w v : ℕ) (vs : List ℕ) → cons_trimmed w (v ∷ vs) ≡ w ∷ v ∷ vs
unfolding cons_trimmed
keep_more w v vs = refl

-- `trim` leaves nothing, or a last word that is not zero: what is kept is kept again
pub trim-trim : (ws : List ℕ) → trim (trim ws) ≡ trim ws
unfolding trim
trim-trim [] = refl
trim-trim (w ∷ ws) = go (trim ws) (trim-trim ws)
  where
    go : (ts : List ℕ) → trim ts ≡ ts → trim (cons_trimmed w ts) ≡ cons_trimmed w ts
    go [] e =
        cases (eqb w 0)
        (λ z. let y : w ≡ 0 = eqb-true _ _ z in rw (keep_zero w y))
        (λ z. let y : w ≡ 0 → ⊥ = eqb-false _ _ z in rw (keep_last w y, keep_last w y))
    go (t ∷ ts) e = rw (keep_more w t ts) (ap (cons_trimmed w) e ∙ keep_more w t ts)

-- zeros at the end make no difference
pub trim-zeros : (ws : List ℕ) (n : ℕ) → trim (ws ++ replicate n 0) ≡ trim ws
unfolding trim
trim-zeros [] zero = refl
trim-zeros [] (suc n) = rw (trim-zeros [] n) (keep_zero 0 refl)
trim-zeros (w ∷ ws) n = ap (cons_trimmed w) (trim-zeros ws n)

-- putting the zeros back
pub trim_restore : (ws : List ℕ) → trim ws ++ replicate (length ws - length (trim ws)) 0 ≡ ws
unfolding trim
trim_restore [] = refl
trim_restore (w ∷ ws) = go (trim ws) (trim_restore ws)
  where
    go : (ts : List ℕ) → ts ++ replicate (length ws - length ts) 0 ≡ ws
        → cons_trimmed w ts ++ replicate (suc (length ws) - length (cons_trimmed w ts)) 0 ≡ w ∷ ws
    go [] e =
        cases (eqb w 0)
        (λ z.
        let y : w ≡ 0 = eqb-true _ _ z in
        let n : suc (length ws) - 0 ≡ suc (length ws - 0) = omega arith in
        rw (keep_zero w y, n, y) (ap (◌∷◌ 0) e))
        (λ z.
        let y : w ≡ 0 → ⊥ = eqb-false _ _ z in
        let n : suc (length ws) - 1 ≡ length ws - 0 = omega arith in
        rw (keep_last w y, n) (ap (◌∷◌ w) e))
    go (t ∷ ts) e =
        let n : suc (length ws) - suc (suc (length ts)) ≡ length ws - suc (length ts) = omega arith in
        rw (keep_more w t ts, n) (ap (◌∷◌ w) e)

pub padded-trim : (ws : List ℕ) (n : ℕ) → length ws ≡ n → padded n (trim ws) ≡ ws
unfolding padded
padded-trim ws n e = rw (← e) (trim_restore ws)

pub trim-padded : (n : ℕ) (ws : List ℕ) → trim (padded n ws) ≡ trim ws
unfolding padded
trim-padded n ws = trim-zeros ws (n - length ws)

pub length-trim : (ws : List ℕ) → length (trim ws) ≤ length ws
length-trim ws =
    omega (arith, ap length (trim_restore ws), length-append (trim ws) (replicate (length ws - length (trim ws)) 0))

-- where a longer list is kept, so is the list without its first word
pub trim_tail : (w v : ℕ) (vs : List ℕ) → trim (w ∷ v ∷ vs) ≡ w ∷ v ∷ vs → trim (v ∷ vs) ≡ v ∷ vs
trim_tail w v vs e = go (trim (v ∷ vs)) (unfold trim in e)
  where
    go : (ts : List ℕ) → cons_trimmed w ts ≡ w ∷ v ∷ vs → ts ≡ v ∷ vs
    go [] f =
        cases (eqb w 0)
        (λ z. let x : [] ≡ w ∷ v ∷ vs = sym (keep_zero w (eqb-true _ _ z)) ∙ f in
        let y : ◌≡◌ {A = ℕ} 0 1 = cc in
        absurd (omega arith))
        (λ z. let x : w ∷ [] ≡ w ∷ v ∷ vs = sym (keep_last w (eqb-false _ _ z)) ∙ f in
        let y : ◌≡◌ {A = ℕ} 0 1 = cc in
        absurd (omega arith))
    go (t ∷ ts) f = let x : w ∷ t ∷ ts ≡ w ∷ v ∷ vs = sym (keep_more w t ts) ∙ f in cc

-- a single word that is kept is not zero
pub trim_single : (w : ℕ) → trim (w ∷ []) ≡ w ∷ [] → w ≡ 0 → ⊥
unfolding trim
trim_single w e z = let x : [] ≡ w ∷ [] = sym (keep_zero w z) ∙ e in let y : ◌≡◌ {A = ℕ} 0 1 = cc in omega arith

-- words in range
pub words_append : (vs ws : List ℕ) → Words vs → Words ws → Words (vs ++ ws)
unfolding Words
words_append [] ws h k = k
words_append (v ∷ vs) ws h k = (h.0, words_append vs ws h.1 k)

pub words_left : (vs ws : List ℕ) → Words (vs ++ ws) → Words vs
unfolding Words
words_left [] ws h = tt
words_left (v ∷ vs) ws h = (h.0, words_left vs ws h.1)

pub words_right : (vs ws : List ℕ) → Words (vs ++ ws) → Words ws
unfolding Words
words_right [] ws h = h
words_right (v ∷ vs) ws h = words_right vs ws h.1

pub words_zeros : (n : ℕ) → Words (replicate n 0)
unfolding Words
words_zeros zero = tt
words_zeros (suc n) = (omega arith, words_zeros n)

pub words_padded : (n : ℕ) (ws : List ℕ) → Words ws → Words (padded n ws)
unfolding padded
words_padded n ws h = words_append ws (replicate (n - length ws) 0) h (words_zeros (n - length ws))

pub words_trim : (ws : List ℕ) → Words ws → Words (trim ws)
words_trim ws h = words_left (trim ws) (replicate (length ws - length (trim ws)) 0) (rw (trim_restore ws) h)

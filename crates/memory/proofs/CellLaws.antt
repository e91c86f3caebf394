-- Laws of a location's words: when they are exactly those of a value.
use mathlib.Core.Path.{◌≡◌, refl, sym, ap, ap₂, ◌∙◌}
use mathlib.Core.Bool.{Bool, true, false}
use mathlib.Core.List.{List, [], ◌∷◌}
use Prim.Native.Nat.{ℕ, zero, suc, ◌-◌}
use native.Mathlib.Omega.{arith}
use borrow.Author.Tests.{eq-eqb, eqb-true, ne_eqb}
use lib.Dec.{eqb}
use lib.ListN.{length, drop, length-drop}
use Rattle.logic.proofs.BooleanLaws.{absurd_false, both_left, both_off, both_on, both_right, both_true}
use Rattle.language.specs.Syntax.{Head, Value, int, err, inl, inr, pkg, pair, blank, size}
use Rattle.logic.specs.Booleans.{both}
use Rattle.std.specs.List.{list_all}
use lib.ListN.{take}
use lib.Seq.{take_all}
use Rattle.language.specs.World.{cell_words}
use Rattle.memory.specs.Words.{head_words, enc, zeros, cell, read_of, value_of}
use Rattle.memory.specs.Memory.{proper, equal_words, exactly, holds_by}
use Rattle.memory.specs.Internal.Post.{Walks}
use Rattle.memory.proofs.WordLaws.{length-enc, read_exact}

-- ---- equal words

pub equal_refl : (xs : List ℕ) → equal_words xs xs ≡ true
unfolding equal_words
equal_refl [] = refl
equal_refl (x ∷ xs) = both_true (eq-eqb x x refl) (equal_refl xs)

pub equal_means : (xs ys : List ℕ) → equal_words xs ys ≡ true → xs ≡ ys
unfolding equal_words
equal_means [] [] h = refl
equal_means [] (y ∷ ys) h = absurd (absurd_false h)
equal_means (x ∷ xs) [] h = absurd (absurd_false h)
equal_means (x ∷ xs) (y ∷ ys) h = ap₂ (λ (z : ℕ) (zs : List ℕ). z ∷ zs) (eqb-true x y (both_left _ _ h))
    (equal_means xs ys (both_right (eqb x y) _ h))

equal_cons : (x : ℕ) (xs ys : List ℕ) → equal_words (x ∷ xs) (x ∷ ys) ≡ equal_words xs ys
unfolding equal_words
equal_cons x xs ys = sym (both_on _ _ (eq-eqb x x refl))

equal_head : (h : Head) (xs ys : List ℕ) → equal_words (head_words h xs) (head_words h ys) ≡ equal_words xs ys
unfolding head_words
equal_head h xs ys = equal_cons h.label xs ys

equal_enc : (v : Value) (xs ys : List ℕ) → equal_words (enc v xs) (enc v ys) ≡ equal_words xs ys
unfolding enc
equal_enc (int n) xs ys = equal_cons 1 _ _ ∙ equal_cons n xs ys
equal_enc (err e) xs ys = equal_cons 2 _ _ ∙ equal_cons e xs ys
equal_enc (inl v) xs ys = equal_cons 3 _ _ ∙ equal_enc v xs ys
equal_enc (inr v) xs ys = equal_cons 4 _ _ ∙ equal_enc v xs ys
equal_enc (pkg h v) xs ys = equal_cons 5 _ _ ∙ equal_head h _ _ ∙ equal_enc v xs ys
equal_enc (pair v w) xs ys = equal_cons 6 _ _ ∙ equal_enc v _ _ ∙ equal_enc w xs ys
equal_enc blank xs ys = equal_cons 0 xs ys

-- ---- zeros from a place on

all_zero : (us : List ℕ) → list_all (λ u. eqb u 0) us ≡ equal_words (zeros (length us)) us
unfolding equal_words both
all_zero [] = refl
all_zero (zero ∷ us) = all_zero us
all_zero (suc u ∷ us) =
    let a : eqb (suc u) 0 ≡ false = ne_eqb (suc u) 0 (λ e. omega arith) in
    let b : eqb 0 (suc u) ≡ false = ne_eqb 0 (suc u) (λ e. omega arith) in
    rw (a, b) refl

module _ (ws : List ℕ) where
  abbrev Cleared : ℕ → Bool
  Cleared j = equal_words (zeros (length ws - j)) (drop j ws)

  -- a test of each word, in the part of a slice that starts there
  pub zero-from : {r : Bool} (i : ℕ) → r ≡ list_all (λ u. eqb u 0) (take (length ws - i) (drop i ws)) → r ≡ Cleared i
  zero-from i e =
      e ∙ ap (list_all (λ u. eqb u 0)) (take_all (length ws - i) (drop i ws) (omega (arith, length-drop i ws)))
      ∙ all_zero (drop i ws) ∙ ap (λ (n : ℕ). equal_words (zeros n) (drop i ws)) (length-drop i ws)

-- ---- a location's words, walked

module _ (labels : ℕ) (test : Value → Bool) (ws : List ℕ) {lab : ℕ} {ok : Bool} {next : ℕ} (e : lab ≡ labels)
    (w : Walks lab ws 0 (read_of ws) ok next) where
  proper_is : ok ≡ proper labels (value_of ws)
  proper_is = w.told ∙ ap (λ (n : ℕ). proper n (value_of ws)) e

  pub not_proper : ok ≡ false → false ≡ holds_by labels test ws
  unfolding exactly
  not_proper h = both_off _ _ (sym proper_is ∙ h)

  pub not_typed : ok ≡ true → test (value_of ws) ≡ false → false ≡ holds_by labels test ws
  unfolding exactly
  not_typed h k = both_off _ _ k ∙ both_on _ _ (sym proper_is ∙ h)

  rest_zero : length ws ≡ cell_words → ok ≡ true → Cleared ws next ≡ equal_words (cell (value_of ws)) ws
  unfolding cell
  rest_zero n h =
      let v = value_of ws in
      let x = read_exact labels ws (sym proper_is ∙ h) in
      let k : length ws - next ≡ cell_words - size v =
      omega (arith, length-drop next ws, ap length w.after, ap length x, length-enc v (read_of ws).1) in
      rw (k, w.after) (sym (equal_enc v _ _)) ∙ ap (equal_words (enc v (zeros (cell_words - size v)))) x

  pub is_cell : {r : Bool} → length ws ≡ cell_words → ok ≡ true → test (value_of ws) ≡ true → r ≡ Cleared ws next
      → r ≡ holds_by labels test ws
  unfolding exactly
  is_cell n h k z = z ∙ rest_zero n h ∙ both_on _ _ k ∙ both_on _ _ (sym proper_is ∙ h)

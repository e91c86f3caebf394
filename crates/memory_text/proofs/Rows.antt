-- A location's line as the code reads it: words into an array, and rows into a table.
use Prim.Native.Nat.{ℕ, suc, ◌+◌, ◌-◌, ◌≤◌, ◌<◌}
use native.Mathlib.Omega.{arith}
use native.Mathlib.Numerals.{add-one}
use mathlib.Core.Path.{◌≡◌, refl, sym, ap, ◌∙◌}
use mathlib.Core.List.{List, [], ◌∷◌}
use lib.ListN.{length, drop, set, get_or, replicate, drop_of_length-le}
use lib.Seq.{sets}
use Rattle.text.specs.Reading.{Read, and_then}
use Rattle.text.specs.Reading.Read.{got, bad}
use Rattle.text.specs.Number.{number, most}
use Rattle.text.proofs.Readings.{drop-step, and_then-got, and_then-bad}
use Rattle.text.proofs.Writings.{sets_zeros}
use Rattle.language.specs.World.{cell_words}
use Rattle.sheet.specs.Padding.{padded}
use Rattle.memory_text.specs.Reading.{following, words, filled_line}
use Rattle.memory_text.proofs.Lines as lines

-- words that are read go into the array from i on
abbrev stored : List ℕ → ℕ → List ℕ → List ℕ → Read (List ℕ)
stored array i vs u = got (sets array i vs) u

stored_cons : (array : List ℕ) (i v : ℕ) (x : Read (List ℕ))
    → and_then (and_then x (λ vs u. got (v ∷ vs) u)) (stored array i) ≡ and_then x (stored (set array i v) (i + 1))
unfolding and_then
stored_cons array i v (got vs u) = rw (add-one i)
stored_cons array i v bad = refl

-- what is still to be read of a line of which i words are in the array
unfoldable pub left : ℕ → List ℕ → List ℕ → Read (List ℕ)
left i array t = and_then (words (cell_words - i) t) (stored array i)

left_is_lem : (i : ℕ) (array t : List ℕ) → left i array t ≡ and_then (words (cell_words - i) t) (stored array i)
unfolding left
left_is_lem i array t = refl

pub left_start : (t : List ℕ) → left 0 (replicate cell_words 0) t ≡ filled_line t
unfolding left filled_line padded
left_start t = go (words cell_words t) refl
  where
    go : (x : Read (List ℕ)) → words cell_words t ≡ x
        → and_then x (stored (replicate cell_words 0) 0) ≡ and_then x (λ ws u. got (padded cell_words ws) u)
    go (got vs u) e =
        let l = lines.words_sound cell_words t vs u e in
        and_then-got _ _ vs u refl ∙ ap (λ (a : List ℕ). got a u) (sets_zeros cell_words vs l.few)
        ∙ sym (and_then-got _ _ vs u refl)
    go bad e = and_then-bad _ _ refl ∙ sym (and_then-bad _ _ refl)

pub left_full : (i : ℕ) (array t : List ℕ) → cell_words ≤ i → left i array t ≡ bad
unfolding left
left_full i array t h = let z : cell_words - i ≡ 0 = omega arith in rw z (and_then-bad _ _ (lines.words_none t))

module _ (i : ℕ) (array t : List ℕ) (h : i < cell_words) where
  pub left_bad : number most t ≡ bad → left i array t ≡ bad
  unfolding left
  left_bad e =
      let z : cell_words - i ≡ suc (cell_words - (i + 1)) = omega arith in
      rw z (and_then-bad _ _ (lines.words_bad (cell_words - (i + 1)) t e))

  -- a word is read and q is the place after it
  module _ (v : ℕ) (s : List ℕ) (q : ℕ) (e : number most t ≡ got v (drop q s)) where
    -- the rest, once it is known how the line goes on
    left_on : left i array t ≡ and_then (following v (drop q s) (λ w. words (cell_words - (i + 1)) w)) (stored array i)
    unfolding left
    left_on =
        let z : cell_words - i ≡ suc (cell_words - (i + 1)) = omega arith in
        rw z (ap (λ (x : Read (List ℕ)). and_then x (stored array i))
        (lines.words_on (cell_words - (i + 1)) t v (drop q s) e))

    pub left_end : length s ≤ q → left i array t ≡ bad
    left_end l = left_on ∙ and_then-bad _ _ (rw (drop_of_length-le s l) (lines.following_none v _))

    module _ (l : q < length s) where
      pub left-zero : get_or s q 0 ≡ 10 → v ≡ 0 → left i array t ≡ bad
      left-zero b z =
          left_on ∙ and_then-bad _ _
          (rw (drop-step s q l) (lines.following-zero v _ (get_or s q 0) (drop (q + 1) s) b z))

      pub left-last : get_or s q 0 ≡ 10 → (v ≡ 0 → ⊥) → left i array t ≡ got (set array i v) (drop (q + 1) s)
      left-last b z =
          left_on ∙ and_then-got _ _ (v ∷ []) (drop (q + 1) s)
          (rw (drop-step s q l) (lines.following_end v _ (get_or s q 0) (drop (q + 1) s) b z))

      pub left-more : get_or s q 0 ≡ 9 → left i array t ≡ left (i + 1) (set array i v) (drop (q + 1) s)
      left-more b =
          left_on
          ∙ ap (λ (x : Read (List ℕ)). and_then x (stored array i))
          (rw (drop-step s q l) (lines.following-tab v _ (get_or s q 0) (drop (q + 1) s) b))
          ∙ stored_cons array i v (words (cell_words - (i + 1)) (drop (q + 1) s))
          ∙ sym (left_is_lem (i + 1) (set array i v) (drop (q + 1) s))

      pub left_other : (get_or s q 0 ≡ 10 → ⊥) → (get_or s q 0 ≡ 9 → ⊥) → left i array t ≡ bad
      left_other b c =
          left_on ∙ and_then-bad _ _
          (rw (drop-step s q l) (lines.following_other v _ (get_or s q 0) (drop (q + 1) s) b c))

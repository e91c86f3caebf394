-- From an answer in a text back to the line that was read, and from a line to its answer.
use mathlib.Core.Path.{◌≡◌, refl, ap, ◌∙◌, fun_ext}
use mathlib.Core.List.{List, ◌∷◌}
use Prim.Native.Nat.{ℕ, ◌+◌, ◌≤◌, ◌<◌}
use native.Mathlib.Omega.{arith}
use lib.ListN.{length, drop, get_or, drop_of_length-le, length-drop}
use borrow.Author.Tests.{ne_eqb}
use Rattle.std.specs.Prelude.{Option, Some, None, option_and_then, option_map}
use Rattle.text.specs.Reading.{Read, and_then}
use Rattle.text.specs.Reading.Read.{got, bad}
use Rattle.text.proofs.Readings.{drop-step}
use Rattle.text.specs.Number.{most}
use Rattle.text.specs.Field.{number_field, set_field, line_end, last_number}
use Rattle.text.specs.Internal.Place.{placed, placed_end}
use Rattle.text.proofs.Places.{placed_at, placed-bad, placed_then, placed_last}
use Rattle.text.proofs.Fields.{number_field_within, set_field_within}
use Rattle.reader.specs.Internal.Moved.{moved}
use Rattle.text.proofs.Lines.{line_within, line_shorter}
use Rattle.sheet_text.specs.declared.line.SheetLine.{SheetLine}
use Rattle.sheet_text.specs.declared.line.SheetLine.TheVariants.{P, R, T, Q, L, O, X}
use Rattle.sheet_text.specs.Reading.{number_rest, numbers_rest, label_rest, policy_rest, line_of}
use Rattle.sheet_text.specs.Internal.Placed.{line_at}
use Rattle.sheet_text.proofs.LineLaws.{sheet-lines}

-- ---- answers

-- what a reading that makes something of another's value answers
placed_made : {A B : Type 0} (s : List ℕ) (x : Read A) (f : A → B)
    → placed s (and_then x (λ v u. got (f v) u)) ≡ option_map (λ r. (f r.0, r.1)) (placed s x)
unfolding placed and_then
placed_made s (got v t) f = refl
placed_made s bad f = refl

module _ (s : List ℕ) (i : ℕ) where
  pub placed-number_rest : (f : ℕ → SheetLine)
      → placed s (number_rest f (drop i s))
      ≡ option_map (λ r. (f r.0, r.1)) (placed s (last_number most (drop i s)))
  unfolding number_rest
  placed-number_rest f = placed_made s _ f

  pub placed-numbers_rest : (f : ℕ → ℕ → SheetLine)
      → placed s (numbers_rest f (drop i s))
      ≡ option_and_then (λ r. option_map (λ q. (f r.0 q.0, q.1)) (placed s (last_number most (drop r.1 s))))
      (placed s (number_field most (drop i s)))
  unfolding numbers_rest
  placed-numbers_rest f =
      placed_then s i _ _ (number_field_within most (drop i s))
      ∙ ap (λ g. option_and_then g (placed s (number_field most (drop i s))))
      (fun_ext (λ (r : ℕ × ℕ). placed_made s (last_number most (drop r.1 s)) (f r.0)))

  pub placed-label_rest :
      placed s (label_rest (drop i s)) ≡ option_map (λ p. (L, p)) (placed_end s (line_end (drop i s)))
  unfolding label_rest
  placed-label_rest = placed_last s i _ L

module _ (s : List ℕ) where
  placed-writers_rest : (i o r : ℕ)
      → placed s (and_then (set_field (drop i s)) (λ w x. and_then (line_end x) (λ _ y. got (O o r w) y)))
      ≡ option_and_then (λ w. option_map (λ p. (O o r w.0, p)) (placed_end s (line_end (drop w.1 s))))
      (placed s (set_field (drop i s)))
  placed-writers_rest i o r =
      placed_then s i _ _ (set_field_within (drop i s))
      ∙ ap (λ g. option_and_then g (placed s (set_field (drop i s))))
      (fun_ext (λ (w : ℕ × ℕ). placed_last s i (line_end (drop w.1 s)) (O o r w.0)))

  placed-readers_rest : (i o : ℕ)
      → placed s (and_then (set_field (drop i s)) (λ r v. and_then (set_field v)
      (λ w x. and_then (line_end x) (λ _ y. got (O o r w) y))))
      ≡ option_and_then (λ r. option_and_then
      (λ w. option_map (λ p. (O o r.0 w.0, p)) (placed_end s (line_end (drop w.1 s))))
      (placed s (set_field (drop r.1 s))))
      (placed s (set_field (drop i s)))
  placed-readers_rest i o =
      placed_then s i _ _ (set_field_within (drop i s))
      ∙ ap (λ g. option_and_then g (placed s (set_field (drop i s))))
      (fun_ext (λ (r : ℕ × ℕ). placed-writers_rest r.1 o r.0))

  pub placed-policy_rest : (i : ℕ)
      → placed s (policy_rest (drop i s))
      ≡ option_and_then (λ o. option_and_then (λ r. option_and_then
      (λ w. option_map (λ p. (O o.0 r.0 w.0, p)) (placed_end s (line_end (drop w.1 s))))
      (placed s (set_field (drop r.1 s))))
      (placed s (set_field (drop o.1 s))))
      (placed s (number_field most (drop i s)))
  unfolding policy_rest
  placed-policy_rest i =
      placed_then s i _ _ (number_field_within most (drop i s))
      ∙ ap (λ g. option_and_then g (placed s (number_field most (drop i s))))
      (fun_ext (λ (o : ℕ × ℕ). placed-readers_rest o.1 o.0))

-- what a reader finds tells the answer at the byte where it stood
module _ {A : Type 0} (i p : ℕ) where
  moved_some : (o : Option (A × ℕ)) (x : A) → (Some x, p) ≡ moved i o → Some (x, p) ≡ o
  moved_some None x e = let z : Some x ≡ None = ap (λ q. q.0) e in cc
  moved_some (Some y) x e =
      let z : Some x ≡ Some y.0 = ap (λ q. q.0) e in
      let v : x ≡ y.0 = cc in
      let w : p ≡ y.1 = ap (λ q. q.1) e in
      rw (v, w) refl

  moved_none : (o : Option (A × ℕ)) → (None, p) ≡ moved i o → None ≡ o
  moved_none None e = refl
  moved_none (Some y) e = let z : None ≡ Some y.0 = ap (λ q. q.0) e in cc

-- what a reader at byte i of s finds says of the line there
module _ (s t : List ℕ) (i p : ℕ) (same : t ≡ s) where
  pub line-found : (l : SheetLine) → (Some l, p) ≡ moved i (line_at t i)
      → (line_of (drop i s) ≡ got l (drop p s)) × (p ≤ length s)
  line-found l e =
      placed_at s i _ (line_within sheet-lines (drop i s)) l p (rw same at (moved_some i p (line_at t i) l e))

  pub line_missed : (None, p) ≡ moved i (line_at t i) → line_of (drop i s) ≡ bad
  line_missed e = placed-bad s i _ (rw same at (moved_none i p (line_at t i) e))

-- the place after a line is past the line's own
pub line-onward : (s : List ℕ) (i : ℕ) (l : SheetLine) (p : ℕ) → line_of (drop i s) ≡ got l (drop p s) → p ≤ length s
    → i < p
line-onward s i l p e h =
    omega (arith, line_shorter sheet-lines (drop i s) l (drop p s) e, length-drop i s, length-drop p s)

-- ---- the cases of a line, by its letter, at a place of a text

module _ (s : List ℕ) (i : ℕ) where
  pub line_past : length s ≤ i → line_of (drop i s) ≡ bad
  unfolding line_of
  line_past h = rw (drop_of_length-le s h)

  module _ (h : i < length s) where
    line-at_first : (b : ℕ) → get_or s i 0 ≡ b → line_of (drop i s) ≡ line_of (b ∷ drop (i + 1) s)
    line-at_first b e = ap line_of (drop-step s i h ∙ ap (λ (c : ℕ). c ∷ drop (i + 1) s) e)

    pub line-principals : get_or s i 0 ≡ 80 → line_of (drop i s) ≡ number_rest P (drop (i + 1) s)
    unfolding line_of
    line-principals e = line-at_first 80 e

    pub line-rule : get_or s i 0 ≡ 82 → line_of (drop i s) ≡ number_rest R (drop (i + 1) s)
    unfolding line_of
    line-rule e = line-at_first 82 e

    pub line-sum : get_or s i 0 ≡ 84 → line_of (drop i s) ≡ numbers_rest T (drop (i + 1) s)
    unfolding line_of
    line-sum e = line-at_first 84 e

    pub line-pair : get_or s i 0 ≡ 81 → line_of (drop i s) ≡ numbers_rest Q (drop (i + 1) s)
    unfolding line_of
    line-pair e = line-at_first 81 e

    pub line-label : get_or s i 0 ≡ 76 → line_of (drop i s) ≡ label_rest (drop (i + 1) s)
    unfolding line_of
    line-label e = line-at_first 76 e

    pub line-policy : get_or s i 0 ≡ 79 → line_of (drop i s) ≡ policy_rest (drop (i + 1) s)
    unfolding line_of
    line-policy e = line-at_first 79 e

    pub line-location : get_or s i 0 ≡ 88 → line_of (drop i s) ≡ numbers_rest X (drop (i + 1) s)
    unfolding line_of
    line-location e = line-at_first 88 e

    pub line_other : (get_or s i 0 ≡ 80 → ⊥) → (get_or s i 0 ≡ 82 → ⊥) → (get_or s i 0 ≡ 84 → ⊥)
        → (get_or s i 0 ≡ 81 → ⊥)
        → (get_or s i 0 ≡ 76 → ⊥) → (get_or s i 0 ≡ 79 → ⊥)
        → (get_or s i 0 ≡ 88 → ⊥) → line_of (drop i s) ≡ bad
    unfolding line_of
    line_other p r t q l o x =
        ap line_of (drop-step s i h)
        ∙ simp (
          ne_eqb (get_or s i 0) 80 p,
          ne_eqb (get_or s i 0) 82 r,
          ne_eqb (get_or s i 0) 84 t,
          ne_eqb (get_or s i 0) 81 q,
          ne_eqb (get_or s i 0) 76 l,
          ne_eqb (get_or s i 0) 79 o,
          ne_eqb (get_or s i 0) 88 x,
        )

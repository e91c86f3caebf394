-- A text of one field, as the code reads it.
use Prim.Native.Nat.{ℕ, ◌+◌, ◌-◌, ◌≤◌, ◌<◌}
use native.Mathlib.Omega.{arith}
use mathlib.Core.Path.{◌≡◌, sym, ◌∙◌}
use mathlib.Core.Bool.{true, false}
use mathlib.Core.List.{List}
use Rattle.std.specs.Prelude.{Some, None}
use lib.Dec.{eqb}
use lib.ListN.{length, drop, get_or, length-drop, drop_of_length-le}
use borrow.Author.Tests.{eq-eqb, ne_eqb, eqb-true, eqb-false}
use Rattle.text.specs.Reading.{Read}
use Rattle.text.specs.Reading.Read.{got, bad}
use Rattle.text.proofs.Readings.{drop-step}
use Rattle.logic.proofs.BooleanLaws.{cases}
use Rattle.desk.specs.Fields.{closed, only_field}
use Rattle.logic.specs.Booleans.{both}

-- the end of the line at a place of s
module _ (s : List ℕ) (p : ℕ) where
  pub closed_past : length s ≤ p → false ≡ closed (drop p s)
  unfolding closed both
  closed_past h = rw (drop_of_length-le s h)

  module _ (h : p < length s) where
    pub closed_other : (get_or s p 0 ≡ 10 → ⊥) → false ≡ closed (drop p s)
    unfolding closed both
    closed_other n = rw (drop-step s p h, ne_eqb (get_or s p 0) 10 n)

    pub closed_here : get_or s p 0 ≡ 10 → eqb (length s - p) 1 ≡ closed (drop p s)
    unfolding closed both
    closed_here e =
        rw (drop-step s p h, eq-eqb (get_or s p 0) 10 e)
        (cases (eqb (length s - p) 1)
        (λ q.
        let z : length s - p ≡ 1 = eqb-true _ _ q in
        q ∙ sym (eq-eqb (length (drop (p + 1) s)) 0 (omega (arith, length-drop (p + 1) s))))
        (λ q.
        q ∙ sym (ne_eqb (length (drop (p + 1) s)) 0
        (λ z. eqb-false (length s - p) 1 q (omega (arith, length-drop (p + 1) s))))))

-- whether a field is the whole of a text
module _ (field : Read ℕ) (s : List ℕ) (v p : ℕ) (e : field ≡ got v (drop p s)) where
  pub only_whole : closed (drop p s) ≡ true → only_field field ≡ Some v
  unfolding only_field
  only_whole h = rw (e, h)

  pub only_part : closed (drop p s) ≡ false → only_field field ≡ None
  unfolding only_field
  only_part h = rw (e, h)

pub only_none : (field : Read ℕ) → field ≡ bad → only_field field ≡ None
unfolding only_field
only_none field e = rw e

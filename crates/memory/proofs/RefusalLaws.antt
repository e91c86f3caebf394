-- Laws of refusals 7 and 8, by the table.
use mathlib.Core.Path.{◌≡◌, refl, sym, ◌∙◌}
use mathlib.Core.Bool.{Bool, true, false}
use mathlib.Core.List.{List}
use Prim.Native.Nat.{ℕ, ◌+◌, ◌*◌, ◌-◌, ◌<◌}
use native.Mathlib.Omega.{arith}
use borrow.Author.Tests.{eq-eqb, ne_eqb}
use lib.ListN.{length, take, drop}
use Rattle.sets.proofs.Walks.{every_true, every_false}
use Rattle.language.specs.World.{cell_words}
use Rattle.sheet.specs.Internal.Tables.{labels_in, locations_in, type_in}
use Rattle.sheet.specs.Internal.TypeTest.{has_no}
use Rattle.memory.specs.Memory.{cell_of, holds_by, formed_by, slice_refusal, refusal_by}
use Rattle.memory.specs.Internal.InTable.{as_declared_in, well_formed_in, refusal_in}

-- the part of a memory that is a location's
pub part_cell : (ws : List ℕ) (x : ℕ)
    → take (cell_words * x + cell_words - cell_words * x) (drop (cell_words * x) ws) ≡ cell_of ws x
unfolding cell_of
part_cell ws x =
    let n : cell_words * x + cell_words - cell_words * x ≡ cell_words = omega arith in
    rw n refl

module _ (t ws : List ℕ) where
  -- location x holds a value as declared
  abbrev pub Held : ℕ → Bool
  Held x = holds_by (labels_in t) (as_declared_in t x) (cell_of ws x)

  pub held : (x : ℕ) {ty : ℕ} {us : List ℕ} {r b : Bool} → us ≡ cell_of ws x → ty ≡ type_in t x
      → r ≡ holds_by (labels_in t) (λ v. has_no t v ty) us → r ≡ b → Held x ≡ b
  unfolding as_declared_in
  held x e k h z = sym (h ∙ rw (e, k) refl) ∙ z

  pub refused_7 : (length ws ≡ cell_words * locations_in t → ⊥) → 7 ≡ refusal_in t ws
  unfolding refusal_in refusal_by slice_refusal
  refused_7 h = simp (ne_eqb _ _ h)

  pub refused_8 : (x : ℕ) → length ws ≡ cell_words * locations_in t → x < locations_in t → Held x ≡ false
      → 8 ≡ refusal_in t ws
  unfolding refusal_in refusal_by slice_refusal well_formed_in formed_by
  refused_8 x h l e = simp (eq-eqb _ _ h, every_false (locations_in t) Held x l e)

  pub refused_0 : length ws ≡ cell_words * locations_in t → ((x : ℕ) → x < locations_in t → Held x ≡ true)
      → 0 ≡ refusal_in t ws
  unfolding refusal_in refusal_by slice_refusal well_formed_in formed_by
  refused_0 h k = simp (eq-eqb _ _ h, every_true (locations_in t) Held k)

-- A group is read exactly where its printed form is the text.
use Prim.Native.Nat.{ℕ, suc, ◌+◌, ◌≤◌}
use native.Mathlib.Omega.{arith}
use mathlib.Core.Path.{◌≡◌, refl, ap}
use mathlib.Core.Bool.{Bool, true, false, false≢true}
use mathlib.Core.List.{List, [], ◌∷◌}
use Rattle.std.specs.Prelude.{Some, None}
use lib.Dec.{eqb}
use lib.ListN.{length, length-append}
use borrow.Author.Tests.{eqb-true}
use Rattle.text.specs.Reading.{Read}
use Rattle.text.specs.Reading.Read.{got, bad}
use Rattle.text.specs.Set.{set_digits, hex_set, hex_form}
use Rattle.logic.proofs.BooleanLaws.{cond_split}
use Rattle.text.proofs.Sets.{set_exact, length-form}
use Rattle.desk.specs.Fields.{closed, only_field, group_of}
use Rattle.desk.specs.Theorems.{GroupExact}
use Rattle.logic.specs.Booleans.{both}

-- the end of a line and nothing more is one byte
closed-sound : (t : List ℕ) → closed t ≡ true → t ≡ 10 ∷ []
unfolding closed both
closed-sound [] e = absurd (false≢true e)
closed-sound (c ∷ t) e = go (eqb c 10) refl e
  where
    nothing : (u : List ℕ) → eqb (length u) 0 ≡ true → u ≡ []
    nothing [] q = refl
    nothing (d ∷ u) q = let z : suc (length u) ≡ 0 = eqb-true _ _ q in absurd (omega arith)

    go : (x : Bool) → eqb c 10 ≡ x → both x (eqb (length t) 0) ≡ true → c ∷ t ≡ 10 ∷ []
    go true p q = let y : c ≡ 10 = eqb-true _ _ p in rw (y, nothing t q)
    go false p q = absurd (false≢true q)

-- a field that is read alone
only_sound : (field : Read ℕ) (v : ℕ) → only_field field ≡ Some v → field ≡ got v (10 ∷ [])
unfolding only_field
only_sound (got w t) v e =
    cond_split (closed t) (Some w) None (Some v)
    (λ p q. let y : w ≡ v = cc in rw (y, closed-sound t p))
    (λ p q. let z : ◌≡◌ {A = ℕ} 0 1 = cc in absurd (omega arith)) e
only_sound bad v e = let z : ◌≡◌ {A = ℕ} 0 1 = cc in absurd (omega arith)

only_print : (field : Read ℕ) (v : ℕ) → field ≡ got v (10 ∷ []) → only_field field ≡ Some v
unfolding only_field closed both
only_print field v e = rw e

pub group_exact : GroupExact
unfolding group_of
group_exact t g = (
  λ e. (set_exact g t (10 ∷ [])).0 (only_sound (hex_set t) g e),
  λ h. only_print (hex_set t) g ((set_exact g t (10 ∷ [])).1 h),
)

-- how long such a text is
pub group_length : (t : List ℕ) (g : ℕ) → group_of t ≡ Some g → length t ≤ set_digits + 1
group_length t g e =
    omega (
      arith,
      ap length ((group_exact t g).0 e).0,
      length-append (hex_form set_digits g) (10 ∷ []),
      length-form set_digits g,
    )

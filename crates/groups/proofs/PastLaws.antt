-- The numbers from a group on that all hold it.
use mathlib.Core.Path.{◌≡◌, refl, sym, ap, ap₂, ◌∙◌}
use mathlib.Core.Bool.{true}
use Prim.Native.Nat.{ℕ, zero, suc, ◌+◌, ◌*◌, ◌-◌, ◌/◌, ◌%◌, ◌^◌, ◌≤◌, ◌<◌}
use native.Mathlib.Nat.{mod-lt, zero-lt-suc}
use native.Mathlib.Omega.{arith}
use lib.Arith.{bin_ind}
use lib.Bits.{bit_or, or_step, or_self, or_lt}
use Rattle.logic.proofs.BooleanLaws.{fails}
use Rattle.sets.specs.Sets.{member, within, union}
use Rattle.sets.proofs.SetLaws.{member_low, member_high, within_intro, within_elim, within_refl, within_le}
use Rattle.sets.proofs.SetLaws.{within_union_left}
use Rattle.groups.specs.Internal.Walk.{past_holders}

pub past_rises : (g : ℕ) → g < past_holders g
unfolding past_holders
past_rises g = omega (arith, within_le g (union g (g - 1)) (within_union_left g (g - 1)))

pub past_bound : (k g : ℕ) → 1 ≤ g → g < 2 ^ k → past_holders g ≤ 2 ^ k
unfolding past_holders union
past_bound k g p l = or_lt k g (g - 1) l (omega arith)

-- each of them holds it
pub past_holds : (g h : ℕ) → 1 ≤ g → g ≤ h → h < past_holders g → within g h ≡ true
unfolding past_holders union
past_holds = bin_ind (λ (g : ℕ). (h : ℕ) → 1 ≤ g → g ≤ h → h < suc (bit_or g (g - 1)) → within g h ≡ true)
    (λ h p. absurd (omega arith)) step
  where
    step : (g : ℕ) → ((h : ℕ) → 1 ≤ g / 2 → g / 2 ≤ h → h < suc (bit_or (g / 2) (g / 2 - 1)) → within (g / 2) h ≡ true)
        → (h : ℕ) → 1 ≤ g → g ≤ h → h < suc (bit_or g (g - 1)) → within g h ≡ true
    step g ih h p l u = by (g % 2) refl (mod-lt g (zero-lt-suc 1))
      where
        by : (d : ℕ) → g % 2 ≡ d → d < 2 → within g h ≡ true
        by zero e b =
            let s = or_step g (g - 1) in
            let x : (g - 1) / 2 ≡ g / 2 - 1 = omega arith in
            let y : (g - 1) % 2 ≡ 1 = omega arith in
            let z : bit_or g (g - 1) ≡ bit_or (g / 2) (g / 2 - 1) * 2 + 1 =
            s ∙ ap₂ (λ (a c : ℕ). bit_or (g / 2) a * 2 + c) x (rw (e, y) refl) in
            let w = ih (h / 2) (omega arith) (omega arith) (omega arith) in
            within_intro g h λ q m. on q m w e
          where
            on : (q : ℕ) → member q g ≡ true → within (g / 2) (h / 2) ≡ true → g % 2 ≡ 0 → member q h ≡ true
            on zero m w e = absurd (fails (member_low g ∙ rw e refl) m)
            on (suc q) m w e = member_high q h ∙ within_elim (g / 2) (h / 2) w q (sym (member_high q g) ∙ m)
        by (suc zero) e b =
            let x : (g - 1) / 2 ≡ g / 2 = omega arith in
            let y : (g - 1) % 2 ≡ 0 = omega arith in
            let z : bit_or g (g - 1) ≡ g / 2 * 2 + 1 = or_step g (g - 1)
            ∙ ap₂ (λ (a c : ℕ). a * 2 + c) (ap (bit_or (g / 2)) x ∙ or_self (g / 2)) (rw (e, y) refl) in
            let w : h ≡ g = omega arith in
            rw w (within_refl g)
        by (suc (suc d)) e b = absurd (omega arith)

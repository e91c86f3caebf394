-- Who reads a label by himself: a group reads alone exactly if it meets these.
use mathlib.Core.Path.{◌≡◌, refl, sym, ap, ◌∙◌}
use mathlib.Core.Bool.{Bool, true}
use Prim.Native.Nat.{ℕ, zero, suc, ◌+◌, ◌<◌}
use native.Mathlib.Omega.{arith}
use native.Mathlib.Numerals.{add-one}
use lib.Dec.{ltb}
use borrow.Author.Tests.{lt-ltb, ltb-true}
use Rattle.logic.specs.Booleans.{both}
use Rattle.logic.proofs.BooleanLaws.{bool_ext, both_left, both_right, both_true, both_assoc, both_no_right}
use Rattle.logic.proofs.BooleanLaws.{both_implied}
use Rattle.sets.specs.Sets.{width, member, intersection, meets, everyone, restrict, every}
use Rattle.sets.proofs.Walks.{every_true, every_at, every_false, every_last}
use Rattle.sets.proofs.SetLaws.{member-intersection, member-everyone, member_empty, member_ext, meets_intro, meets_elim}
use Rattle.sets.proofs.SetLaws.{restrict-everyone}
use Rattle.labels.specs.declared.Label.{Label}
use Rattle.labels.specs.Labels.{readers_of, reads_alone_of}
use Rattle.labels.specs.Internal.Sole.{common_of, sole_readers_of}
use Rattle.labels.proofs.ReadingLaws.{alone_member, member_alone}

-- what is in common is in each
pub member_common : (p n : ℕ) (f : ℕ → ℕ)
    → member p (common_of n f) ≡ both (ltb p width) (every n (λ (o : ℕ). member p (f o)))
unfolding common_of every
member_common p zero f = member-everyone p width ∙ sym (both_implied (ltb p width) true (λ h. refl))
member_common p (suc n) f =
    member-intersection p (common_of n f) (f n) ∙ ap (λ (b : Bool). both b (member p (f n))) (member_common p n f)
    ∙ sym (both_assoc (ltb p width) _ _) ∙ ap (both (ltb p width)) (sym (every_last n (λ (o : ℕ). member p (f o))))

-- with an empty set nothing is in common
pub common_none : (n : ℕ) (f : ℕ → ℕ) (o : ℕ) → o < n → f o ≡ 0 → common_of n f ≡ 0
common_none n f o l e =
    member_ext _ 0 (λ p.
    member_common p n f
    ∙ both_no_right (ltb p width) _ (every_false n (λ (o : ℕ). member p (f o)) o l (ap (member p) e ∙ member_empty p))
    ∙ sym (member_empty p))

-- ---- one set after another: at the start, and one more
pub common_start : (f : ℕ → ℕ) → restrict width (everyone width) ≡ common_of 0 f
unfolding common_of
common_start f = restrict-everyone width width (omega arith)

pub common_more : (o : ℕ) (f : ℕ → ℕ) {x y : ℕ} → x ≡ common_of o f → y ≡ f o → intersection x y ≡ common_of (o + 1) f
unfolding common_of
common_more o f p q = rw (p, q, add-one) refl

-- a group reads alone exactly if it meets the sole readers
pub meets_sole : (n g : ℕ) (a : Label) → meets g (sole_readers_of n a) ≡ reads_alone_of n g a
unfolding sole_readers_of
meets_sole n g a =
    bool_ext _ _
    (λ e.
    let (p, m, k) = meets_elim g (common_of n (readers_of a)) e in
    let h = sym (member_common p n (readers_of a)) ∙ k in
    member_alone n g a p (record {
      low = ltb-true _ _ (both_left _ _ h);
      among = m;
      each = every_at n _ (both_right (ltb p width) _ h);
    }))
    (λ r.
    let (p, k) = alone_member n g a r in
    meets_intro g (common_of n (readers_of a)) p k.among
    (member_common p n (readers_of a) ∙ both_true (lt-ltb _ _ k.low) (every_true n _ k.each)))

-- The labels of n principals are a security lattice, which is trivial for one principal only.
use mathlib.Core.Path.{◌≡◌, refl, sym, ap, ◌∙◌}
use mathlib.Core.Bool.{true, Bool-set}
use mathlib.Core.HLevel.{is_prop→PathP}
use Prim.Native.Nat.{ℕ, ◌<◌}
use native.Mathlib.Omega.{arith}
use borrow.Author.Tests.{lt-ltb}
use Rattle.sets.specs.Sets.{member, single, everyone, tab}
use Rattle.sets.proofs.SetLaws.{member_single, member-everyone}
use Rattle.labels.specs.declared.Label.{Label}
use Rattle.labels.specs.Labels.{owners, own, readers_of, open_at, below_of, join_of, confidentiality_of, integrity_of}
use Rattle.labels.specs.Labels.{bottom_of, closed_at, top_of, effective, EffectiveLabel}
use Rattle.labels.specs.Lattice.{SecurityLattices, NonTrivial, OneLabel}
use Rattle.labels.proofs.OrderLaws as order
use Rattle.labels.proofs.PartLaws as part
use Rattle.labels.proofs.ReadingLaws as reading
use Rattle.labels.proofs.EffectiveLaws as effect

-- ---- A = C(A) ⊔ I(A)
pub parts : (n : ℕ) (a : Label) → effective n a ≡ true
    → a ≡ join_of (confidentiality_of a) (integrity_of (everyone n) a)
unfolding confidentiality_of integrity_of
parts n a h =
    let all = everyone n in
    let j = join_of (confidentiality_of a) (integrity_of all a) in
    order.below_antisym a j (effect.effective_whole n a h)
    (order.join_whole (confidentiality_of a) (integrity_of all a))
    (part.below_of_parts all a j
    (part.c_mono (confidentiality_of a) j (order.join_left (confidentiality_of a) (integrity_of all a)))
    (part.i_mono all (integrity_of all a) j (order.join_right (confidentiality_of a) (integrity_of all a))))
    (order.join_least (confidentiality_of a) (integrity_of all a) a (effect.c_below n a h) (effect.i_below n a h))

-- ---- the paper's lemma 1
pub security_lattices : SecurityLattices
unfolding confidentiality_of integrity_of bottom_of
security_lattices n l =
    record {
      bottom_kept = effect.bottom_effective n;
      top_kept = effect.top_effective n;
      join_kept = effect.join_effective n;
      confidentiality_kept = effect.c_effective n;
      integrity_kept = effect.i_effective n;
      below_refl = order.below_refl;
      below_trans = order.below_trans;
      below_antisym = λ a b h k. order.below_antisym a b (effect.effective_whole n a h) (effect.effective_whole n b k);
      bottom_least = effect.bottom_least n;
      top_greatest = effect.top_greatest n;
      join_left = order.join_left;
      join_right = order.join_right;
      join_least = order.join_least;
      parts = parts n;
      c_of_i = λ a. refl;
      i_of_c = λ a. refl;
      c_idem = λ a. refl;
      i_idem = λ a. refl;
      below_parts = part.below_parts (everyone n);
      reads_down = reading.reads_down_c n l;
      writes_up = λ g. reading.writes_up_i n l g (everyone n);
    }

-- ---- top and bottom: of two principals or more the second reads for the first owner in bottom, and not in top
pub non_trivial : NonTrivial
non_trivial n h e =
    let l : 0 < owners = omega arith in
    let alone : everyone n ≡ single 0 =
    sym (effect.bottom_at (everyone n) 0 l).0 ∙ ap (λ (a : Label). readers_of a 0) (sym e) ∙ (effect.top_at n 0 l).0
    ∙ effect.closed_principal n 0 (omega arith) in
    let q : ◌≡◌ {A = ℕ} 1 0 =
    member_single 1 0 (ap (member 1) (sym alone) ∙ member-everyone 1 n ∙ lt-ltb 1 n (omega arith)) in
    omega arith

-- of one principal they are equal, and so is every label between them
top_bottom : top_of 1 ≡ bottom_of (everyone 1)
unfolding top_of bottom_of own closed_at open_at tab single everyone
top_bottom = refl

pub one_label : OneLabel
one_label a b h k =
    order.below_antisym a b (effect.effective_whole 1 a h) (effect.effective_whole 1 b k) (through a b h k)
    (through b a k h)
  where
    through : (a b : Label) → effective 1 a ≡ true → effective 1 b ≡ true → below_of a b ≡ true
    through a b h k =
        order.below_trans a (top_of 1) b (effect.top_greatest 1 a h) (rw top_bottom (effect.bottom_least 1 b k))

-- ---- labels with the fact that they are effective: equal if their labels are
pub effective_path : (n : ℕ) (a b : EffectiveLabel n) → a.raw ≡ b.raw → a ≡ b
effective_path n a b p =
    λ i. record {
      raw = p i;
      ok = is_prop→PathP (λ j. effective n (p j) ≡ true) (λ j. Bool-set (effective n (p j)) true) a.ok b.ok i;
    }

-- Who reads, by both rules, and who writes, along the order.
use mathlib.Core.Path.{◌≡◌, refl}
use mathlib.Core.Bool.{true, false}
use Prim.Native.Nat.{ℕ, zero, suc, ◌≤◌, ◌<◌}
use native.Mathlib.Nat.{lt_of_lt_of_le, not-suc-le-zero}
use Rattle.logic.specs.Booleans.{both}
use Rattle.logic.proofs.BooleanLaws.{bool_ext, both_left, both_right, both_true, fails, not_so}
use Rattle.sets.specs.Sets.{width, member, within, meets, single, every}
use Rattle.sets.proofs.Walks.{every_true, every_at, any_true, any_at}
use Rattle.sets.proofs.SetLaws.{member_empty, within_elim, meets_mono, meets_grows, meets_intro, meets_elim}
use Rattle.sets.proofs.SetLaws.{member_single, member_single_self}
use Rattle.labels.specs.declared.Label.{Label}
use Rattle.labels.specs.declared.Rule.{Rule}
use Rattle.labels.specs.declared.Rule.TheVariants.{Pooled, Alone}
use Rattle.labels.specs.Labels.{owners, readers_of, writers_of, below_of, confidentiality_of, integrity_of}
use Rattle.labels.specs.Labels.{reads_pooled_of, writes_of, reads_alone_of, reads_under}
use Rattle.labels.specs.Lattice.{EmptyGroups, ClosedBelow, ReadingDownward, ReadsBelow, TwoRules}
use Rattle.labels.proofs.OrderLaws.{below_at_lem}
use Rattle.labels.proofs.PartLaws.{c_mono}

-- who reads a label reads every label below it
pub reads_down : (n : ℕ) → n ≤ owners → (g : ℕ) (a b : Label) → below_of a b ≡ true → reads_pooled_of n g b ≡ true
    → reads_pooled_of n g a ≡ true
unfolding reads_pooled_of
reads_down n e g a b h r =
    every_true n _ (λ o l.
    meets_mono g (readers_of b o) (readers_of a o) (below_at_lem a b h o (lt_of_lt_of_le l e)).0 (every_at n _ r o l))

-- who writes a label writes every label above it
pub writes_up : (n : ℕ) → n ≤ owners → (g : ℕ) (a b : Label) → below_of a b ≡ true → writes_of n g a ≡ true
    → writes_of n g b ≡ true
unfolding writes_of
writes_up n e g a b h w =
    every_true n _ (λ o l.
    meets_mono g (writers_of a o) (writers_of b o) (below_at_lem a b h o (lt_of_lt_of_le l e)).1 (every_at n _ w o l))

-- reading depends on C alone, writing on I alone: who reads B reads A where C(A) ≤ C(B), and who writes A writes B
-- where I(A) ≤ I(B)
pub reads_down_c : (n : ℕ) → n ≤ owners → (g : ℕ) (a b : Label)
    → below_of (confidentiality_of a) (confidentiality_of b) ≡ true → reads_pooled_of n g b ≡ true
    → reads_pooled_of n g a ≡ true
unfolding reads_pooled_of confidentiality_of
reads_down_c n e g a b h r = reads_down n e g (confidentiality_of a) (confidentiality_of b) h r

pub writes_up_i : (n : ℕ) → n ≤ owners → (g all : ℕ) (a b : Label)
    → below_of (integrity_of all a) (integrity_of all b) ≡ true → writes_of n g a ≡ true → writes_of n g b ≡ true
unfolding writes_of integrity_of
writes_up_i n e g all a b h w = writes_up n e g (integrity_of all a) (integrity_of all b) h w

-- a group that reads still reads with more members
pub reads_grow : (n : ℕ) (a : Label) (g h : ℕ) → within g h ≡ true → reads_pooled_of n g a ≡ true
    → reads_pooled_of n h a ≡ true
unfolding reads_pooled_of
reads_grow n a g h w r = every_true n _ (λ o l. meets_grows g h (readers_of a o) w (every_at n _ r o l))

-- the empty group reads nothing and writes nothing
pub empty_groups : EmptyGroups
unfolding reads_pooled_of writes_of every meets both
empty_groups zero h a = absurd (not-suc-le-zero h)
empty_groups (suc n) h a = (refl, refl)

-- ---- reading alone: a member of the group is a reader for every owner

-- p is a member of the group, and a reader for every owner below n
pub record ReadsAlone (n g : ℕ) (a : Label) (p : ℕ) : Type 0 where
  pub low : p < width
  pub among : member p g ≡ true
  pub each : (o : ℕ) → o < n → member p (readers_of a o) ≡ true

pub alone_member : (n g : ℕ) (a : Label) → reads_alone_of n g a ≡ true → (p : ℕ) × ReadsAlone n g a p
unfolding reads_alone_of
alone_member n g a r =
    let (p, l, e) = any_at width _ r in
    (p, record { low = l; among = both_left _ _ e; each = every_at n _ (both_right _ _ e) })

pub member_alone : (n g : ℕ) (a : Label) (p : ℕ) → ReadsAlone n g a p → reads_alone_of n g a ≡ true
unfolding reads_alone_of
member_alone n g a p h = any_true width _ p h.low (both_true h.among (every_true n _ h.each))

alone_down : (n : ℕ) → n ≤ owners → (g : ℕ) (a b : Label) → below_of a b ≡ true → reads_alone_of n g b ≡ true
    → reads_alone_of n g a ≡ true
alone_down n e g a b h r =
    let (p, k) = alone_member n g b r in
    member_alone n g a p (record {
      low = k.low;
      among = k.among;
      each =
          λ o l. within_elim (readers_of b o) (readers_of a o) (below_at_lem a b h o (lt_of_lt_of_le l e)).0 p
          (k.each o l);
    })

alone_grow : (n : ℕ) (a : Label) (g h : ℕ) → within g h ≡ true → reads_alone_of n g a ≡ true
    → reads_alone_of n h a ≡ true
alone_grow n a g h w r =
    let (p, k) = alone_member n g a r in
    member_alone n h a p (record { low = k.low; among = within_elim g h w p k.among; each = k.each })

alone_down_c : (n : ℕ) → n ≤ owners → (g : ℕ) (a b : Label)
    → below_of (confidentiality_of a) (confidentiality_of b) ≡ true → reads_alone_of n g b ≡ true
    → reads_alone_of n g a ≡ true
unfolding reads_alone_of confidentiality_of
alone_down_c n e g a b h r = alone_down n e g (confidentiality_of a) (confidentiality_of b) h r

-- a member by himself
alone_one : (n g : ℕ) (a : Label) → reads_alone_of n g a ≡ true
    → (p : ℕ) × (p < width) × (member p g ≡ true) × (reads_pooled_of n (single p) a ≡ true)
unfolding reads_pooled_of
alone_one n g a r =
    let (p, k) = alone_member n g a r in (
      p,
      k.low,
      k.among,
      every_true n _ (λ o l. meets_intro (single p) (readers_of a o) p (member_single_self p) (k.each o l)),
    )

one_alone : (n g : ℕ) (a : Label) (p : ℕ) → p < width → member p g ≡ true → reads_pooled_of n (single p) a ≡ true
    → reads_alone_of n g a ≡ true
unfolding reads_pooled_of
one_alone n g a p l m r =
    member_alone n g a p (record {
      low = l;
      among = m;
      each = λ o k. let (q, i, j) = meets_elim (single p) (readers_of a o) (every_at n _ r o k) in
          rw (← member_single q p i) j;
    })

alone_pooled : (n g : ℕ) (a : Label) → reads_alone_of n g a ≡ true → reads_pooled_of n g a ≡ true
unfolding reads_pooled_of
alone_pooled n g a r =
    let (p, k) = alone_member n g a r in
    every_true n _ (λ o l. meets_intro g (readers_of a o) p k.among (k.each o l))

-- ---- both rules

pub closed_below : ClosedBelow
closed_below reads down a b h = down a b (c_mono a b h)

pub reading_downward : ReadingDownward
unfolding reads_under
reading_downward Pooled n e g a b h r = reads_down_c n e g a b h r
reading_downward Alone n e g a b h r = alone_down_c n e g a b h r

pub reads_below : ReadsBelow
reads_below rule n e g = closed_below (reads_under rule n g) (reading_downward rule n e g)

pub rule_grows : (rule : Rule) (n : ℕ) (a : Label) (g h : ℕ) → within g h ≡ true → reads_under rule n g a ≡ true
    → reads_under rule n h a ≡ true
unfolding reads_under
rule_grows Pooled n a g h w r = reads_grow n a g h w r
rule_grows Alone n a g h w r = alone_grow n a g h w r

empty_reads : (rule : Rule) (n : ℕ) → 1 ≤ n → (a : Label) → reads_under rule n 0 a ≡ false
unfolding reads_under
empty_reads Pooled n h a = (empty_groups n h a).0
empty_reads Alone n h a = not_so _ (λ r. let (p, k) = alone_member n 0 a r in fails (member_empty p) k.among)

pub two_rules : TwoRules
two_rules = record {
  one_reader = λ n g a. (alone_one n g a, λ (p, l, m, r). one_alone n g a p l m r);
  no_more = alone_pooled;
  of_one = λ n p l a. bool_ext _ _ (alone_pooled n (single p) a) (one_alone n (single p) a p l (member_single_self p));
  of_none = empty_reads;
}

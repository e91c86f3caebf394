-- Who reads a label, by the sheet's rule: that it grows with the group, that nobody is not enough, and that the table
-- tells the rule.
use mathlib.Core.Path.{◌≡◌, sym, ap, ◌∙◌}
use mathlib.Core.Bool.{true, false}
use Prim.Native.Nat.{ℕ, ◌<◌}
use native.Mathlib.Nat.{lt_of_lt_of_le}
use borrow.Author.Tests.{ltb-true}
use Rattle.sets.specs.Sets.{member, within, single, everyone}
use Rattle.sets.proofs.Walks.{every_true, every_at}
use Rattle.sets.proofs.SetLaws.{within_elim, meets_intro, meets_elim, member_single_self, member-everyone}
use Rattle.labels.specs.Labels.{readers_of, reads_pooled_of, reads_under}
use Rattle.labels.specs.declared.Rule.{Rule}
use Rattle.labels.specs.declared.Rule.TheVariants.{Alone}
use Rattle.labels.proofs.EffectiveLaws.{effective_fits}
use Rattle.labels.proofs.ReadingLaws.{rule_grows, two_rules, alone_member, member_alone}
use Rattle.sheet.specs.Sheet.{Sheet, label_no, formed}
use Rattle.sheet.specs.Meaning.{reads_no}
use Rattle.sheet.specs.Theorems.{ReadingOnSheets}
use Rattle.sheet.proofs.FormLaws.{formed_facts}
use Rattle.sheet.proofs.LabelLaws.{label_no-effective}

-- ---- the sheet's rule

pub reads_more : (s : Sheet) (l g h : ℕ) → within g h ≡ true → reads_no s g l ≡ true → reads_no s h l ≡ true
reads_more s l = rule_grows s.rule s.principals (label_no s l)

pub nobody_reads : (s : Sheet) → formed s ≡ true → (l : ℕ) → reads_no s 0 l ≡ false
nobody_reads s f l = two_rules.of_none s.rule s.principals (formed_facts s f).some_principal (label_no s l)

-- a reader for an owner is one of the principals
reader_low : (s : Sheet) → formed s ≡ true → (l o p : ℕ) → o < s.principals
    → member p (readers_of (label_no s l) o) ≡ true → p < s.principals
reader_low s f l o p h m =
    let z = formed_facts s f in
    let n = s.principals in
    let fit = effective_fits n (label_no s l) (label_no-effective s f l) o (lt_of_lt_of_le h z.few_principals) in
    ltb-true p n
    (sym (member-everyone p n) ∙ within_elim (readers_of (label_no s l) o) (everyone n) fit.readers_in_lem p m)

pub reading_on_sheets : ReadingOnSheets
unfolding reads_under reads_pooled_of
reading_on_sheets s f g l =
    let z = formed_facts s f in
    let n = s.principals in
    let a = label_no s l in
    record {
      pooled = λ e. (
        λ r o h. meets_elim g (readers_of a o) (every_at n _ (sym (by e) ∙ r) o h),
        λ h. by e ∙ every_true n _ (λ o k. let (p, i, j) = h o k in meets_intro g (readers_of a o) p i j),
      );
      alone = λ e. (
        λ r. let (p, k) = alone_member n g a (sym (by e) ∙ r) in (p, k.among, k.each),
        λ (p, i, h). by e ∙ member_alone n g a p (record {
          low = lt_of_lt_of_le (reader_low s f l 0 p z.some_principal (h 0 z.some_principal)) z.few_principals;
          among = i;
          each = h;
        }),
      );
    }
  where
    by : {rule : Rule} → s.rule ≡ rule → reads_no s g l ≡ reads_under rule s.principals g (label_no s l)
    by e = ap (λ (r : Rule). reads_under r s.principals g (label_no s l)) e

-- where one reads by himself, a group that reads has a member who reads
pub read_by_one : (s : Sheet) → formed s ≡ true → s.rule ≡ Alone → (l g : ℕ) → reads_no s g l ≡ true
    → (p : ℕ) × (member p g ≡ true) × (reads_no s (single p) l ≡ true)
read_by_one s f e l g r =
    let (p, m, h) = ((reading_on_sheets s f g l).alone e).0 r in
    (p, m, ((reading_on_sheets s f (single p) l).alone e).1 (p, member_single_self p, h))

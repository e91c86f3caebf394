-- Who reads a label, fetched once: by the rule that is found in a table, and as the sheet's rule has it.
use mathlib.Core.Path.{◌≡◌, ◌∙◌, subst}
use mathlib.Core.Bool.{true}
use mathlib.Core.List.{List}
use Prim.Native.Nat.{ℕ, ◌≤◌, ◌<◌}
use native.Mathlib.Nat.{lt_of_lt_of_le}
use native.Mathlib.Omega.{arith}
use lib.ListN.{get_or, replicate, get_or-replicate}
use Rattle.logic.proofs.BooleanLaws.{bool_ext}
use Rattle.sets.specs.Sets.{within, meets, everyone, every}
use Rattle.sets.proofs.Walks.{by_below, every_true, every_at}
use Rattle.sets.proofs.SetLaws.{within_trans, meets_mono, meets_grows}
use Rattle.labels.specs.Labels.{owners, readers_of, reads_pooled_of, reads_under, effective}
use Rattle.labels.specs.declared.Rule.{Rule}
use Rattle.labels.specs.declared.Rule.TheVariants.{Pooled, Alone}
use Rattle.labels.specs.Internal.Sole.{sole_readers_of}
use Rattle.labels.specs.declared.Label.{Label}
use Rattle.labels.proofs.EffectiveLaws.{closed_other, effective_fits}
use Rattle.labels.proofs.SoleLaws.{meets_sole}
use Rattle.sheet.specs.Sheet.{Sheet, label_no, formed}
use Rattle.sheet.specs.Meaning.{reads_no}
use Rattle.sheet.specs.Internal.Tables.{table_of, principals_in, rule_in, label_in}
use Rattle.sheet.proofs.FormLaws.{formed_facts}
use Rattle.sheet.proofs.TableLaws.{principals_in_lem, rule_in_lem}
use Rattle.sheet.proofs.LabelLaws.{label_no-effective, label_in_lem}
use Rattle.groups.specs.declared.readers.Readers.{Readers}
use Rattle.groups.specs.Internal.Readers.{reads_by, sets_to_meet, readers_in}

-- ---- out of a table, by the rule that is found in it

module _ (t : List ℕ) {rule : Rule} (found : rule ≡ rule_in t) (l : ℕ) where
  pub pooled_sets : rule ≡ Pooled → {a : Label} → a ≡ label_in t l → record { sets = a.readers } ≡ readers_in t l
  unfolding readers_in sets_to_meet
  pooled_sets is e = rw (← found, is, e)

  pub alone_sets : rule ≡ Alone → {sole : ℕ} → sole ≡ sole_readers_of (principals_in t) (label_in t l)
      → record { sets = replicate owners sole } ≡ readers_in t l
  unfolding readers_in sets_to_meet
  alone_sets is e = rw (← found, is, e)

-- ---- a label's readers

-- with more members a group still reads
pub readers_grow : (r : Readers) (g h : ℕ) → within g h ≡ true → reads_by r g ≡ true → reads_by r h ≡ true
unfolding reads_by
readers_grow r g h w e = every_true owners _ (λ o l. meets_grows g h (get_or r.sets o 0) w (every_at owners _ e o l))

-- a place that has no principal is met by each group that meets the readers of an owner
whole : (n : ℕ) (a : Label) → effective n a ≡ true → 1 ≤ n → n ≤ owners → (g : ℕ)
    → every owners (λ (o : ℕ). meets g (readers_of a o)) ≡ reads_pooled_of n g a
unfolding reads_pooled_of
whole n a e p f g = bool_ext _ _ (λ t. every_true n _ (λ o l. every_at owners _ t o (lt_of_lt_of_le l f)))
    (λ t. every_true owners _ (λ o l. at t o l))
  where
    at : every n (λ (o : ℕ). meets g (readers_of a o)) ≡ true → (o : ℕ) → o < owners → meets g (readers_of a o) ≡ true
    at t o l =
        by_below o n (λ b. every_at n _ t o b)
        (λ b.
        let all =
        subst (λ (x : ℕ). within x (readers_of a o) ≡ true) (closed_other n o b) (effective_fits n a e o l).closed_in in
        meets_mono g (readers_of a 0) (readers_of a o)
        (within_trans (readers_of a 0) (everyone n) (readers_of a o)
        (effective_fits n a e 0 (lt_of_lt_of_le p f)).readers_in_lem all)
        (every_at n _ t 0 p))

-- one set in every place
same_sets : (x g : ℕ) → every owners (λ (o : ℕ). meets g (get_or (replicate owners x) o 0)) ≡ meets g x
same_sets x g =
    let at : (o : ℕ) → o < owners → get_or (replicate owners x) o 0 ≡ x = λ o l. get_or-replicate owners o x 0 l in
    bool_ext _ _ (λ t. rw (at 0 (omega arith)) at (every_at owners _ t 0 (omega arith)))
    (λ t. every_true owners _ (λ o l. rw (at o l) t))

-- the sets that a group must meet, by either rule
meets_to_read : (rule : Rule) (n : ℕ) (a : Label) → effective n a ≡ true → 1 ≤ n → n ≤ owners → (g : ℕ)
    → every owners (λ (o : ℕ). meets g (get_or (sets_to_meet rule n a) o 0)) ≡ reads_under rule n g a
unfolding sets_to_meet reads_under
meets_to_read Pooled n a e p f g = whole n a e p f g
meets_to_read Alone n a e p f g = same_sets (sole_readers_of n a) g ∙ meets_sole n g a

-- they are the readers of the sheet's label
pub readers_of-label : (s : Sheet) → formed s ≡ true → (l g : ℕ)
    → reads_by (readers_in (table_of s) l) g ≡ reads_no s g l
unfolding reads_by readers_in
readers_of-label s f l g =
    let z = formed_facts s f in
    rw (rule_in_lem s f, principals_in_lem s f, label_in_lem s f l)
    (meets_to_read s.rule s.principals (label_no s l) (label_no-effective s f l) z.some_principal
    z.few_principals g)

-- The labels of n principals are a lattice as typing needs it, what a sheet declares are its labels, and its table says
-- the same of them; equal numbers and equal meaning agree.
use mathlib.Core.Path.{◌≡◌, refl, ap₂}
use mathlib.Core.Bool.{Bool, true, false}
use Prim.Native.Nat.{ℕ}
use Rattle.logic.proofs.BooleanLaws.{absurd_false}
use Rattle.labels.specs.Labels.{below_of, confidentiality_of, integrity_of, writes_of, whole_of, effective}
use Rattle.labels.specs.Labels.{EffectiveLabel}
use Rattle.labels.specs.declared.Label.{Label}
use Rattle.labels.proofs.OrderLaws as order
use Rattle.labels.proofs.PartLaws as part
use Rattle.labels.proofs.EffectiveLaws as effect
use Rattle.labels.proofs.LatticeLaws.{effective_path}
use Rattle.sheet.specs.Sheet.{Sheet, label_no, location_no, formed}
use Rattle.sheet.specs.Internal.Tables.{table_of, below_in, reads_in, writes_in}
use Rattle.sheet.specs.Meaning.{effective_if, effectively, declarations_of, below_no, reads_no, writes_no}
use Rattle.sheet.specs.Theorems.{LeastLabelLawsHold, SameLabelsOnSheets, NumbersAgreeOnSheets}
use Rattle.sheet.proofs.RepeatLaws.{label_once}
use Rattle.sheet.proofs.TypeLaws.{ty_once}
use Rattle.sheet.proofs.TableLaws.{principals_in_lem, rule_in_lem}
use Rattle.sheet.proofs.LabelLaws.{label_no-effective, label_in_lem}

pub least_label_laws : LeastLabelLawsHold
unfolding confidentiality_of integrity_of
least_label_laws n =
    let whole : (a : EffectiveLabel n) → whole_of a.raw ≡ true = λ a. effect.effective_whole n a.raw a.ok in
    record {
      leq_refl = λ a. order.below_refl a.raw;
      leq_trans = λ a b c. order.below_trans a.raw b.raw c.raw;
      leq_antisym = λ a b h k. effective_path n a b (order.below_antisym a.raw b.raw (whole a) (whole b) h k);
      bot_leq = λ a. effect.bottom_least n a.raw a.ok;
      leq_join_left = λ a b. order.join_left a.raw b.raw;
      leq_join_right = λ a b. order.join_right a.raw b.raw;
      join_leq = λ a b c. order.join_least a.raw b.raw c.raw;
      conf_mono = λ a b. part.c_mono a.raw b.raw;
      conf_idem = λ a. effective_path n _ _ refl;
      conf_join = λ a b. effective_path n _ _ (part.c_join a.raw b.raw);
      integ_leq = λ a. effect.i_below n a.raw a.ok;
      integ_idem = λ a. effective_path n _ _ refl;
    }

-- a label of n principals is taken as it is
effective_if_lem : (n : ℕ) (a : Label) (b : Bool) (e : effective n a ≡ b) → b ≡ true → (effective_if n a b e).raw ≡ a
unfolding effective_if
effective_if_lem n a true e h = refl
effective_if_lem n a false e h = absurd (absurd_false h)

pub effectively-raw : (n : ℕ) (a : Label) → effective n a ≡ true → (effectively n a).raw ≡ a
unfolding effectively
effectively-raw n a h = effective_if_lem n a (effective n a) refl h

module _ (s : Sheet) (fm : formed s ≡ true) where
  pub declared_label : (l : ℕ) → ((declarations_of s).label l).raw ≡ label_no s l
  declared_label l = effectively-raw s.principals (label_no s l) (label_no-effective s fm l)

  pub declared_home : (x : ℕ) → ((declarations_of s).home x).raw ≡ label_no s (location_no s x).label
  declared_home x = effectively-raw s.principals (label_no s (location_no s x).label)
      (label_no-effective s fm (location_no s x).label)

  pub below_in_lem : (l m : ℕ) → below_in (table_of s) l m ≡ below_no s l m
  unfolding below_in
  below_in_lem l m = ap₂ below_of (label_in_lem s fm l) (label_in_lem s fm m)

  pub reads_in_lem : (g l : ℕ) → reads_in (table_of s) g l ≡ reads_no s g l
  unfolding reads_in
  reads_in_lem g l = rw (rule_in_lem s fm, principals_in_lem s fm, label_in_lem s fm l)

  pub writes_in_lem : (g l : ℕ) → writes_in (table_of s) g l ≡ writes_no s g l
  unfolding writes_in
  writes_in_lem g l = ap₂ (λ (n : ℕ) (a : Label). writes_of n g a) (principals_in_lem s fm) (label_in_lem s fm l)

pub same_labels_on_sheets : SameLabelsOnSheets
same_labels_on_sheets s fm =
    record {
      are_effective = label_no-effective s fm;
      of_numbers = declared_label s fm;
      of_locations = declared_home s fm;
    }

pub numbers_agree_on_sheets : NumbersAgreeOnSheets
numbers_agree_on_sheets s fm once = record { of_types = ty_once s fm once; of_labels = label_once s once }

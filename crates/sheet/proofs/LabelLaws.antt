-- The labels of a sheet of the right form: each is one of its principals, and the table has it.
use mathlib.Core.Path.{◌≡◌, refl, sym, ap, ap₂, ◌∙◌}
use mathlib.Core.Bool.{true}
use mathlib.Core.List.{List, [], ◌∷◌, ◌++◌, append_assoc, map}
use Prim.Native.Nat.{ℕ, zero, suc, ◌+◌, ◌*◌, ◌-◌, ◌<◌}
use native.Mathlib.Omega.{arith}
use lib.ListN.{length, get_or, replicate, length-append, length-map, get_or-eq_default}
use borrow.Author.Tests.{ltb-true}
use Rattle.sets.specs.Sets.{everyone}
use Rattle.logic.proofs.BooleanLaws.{both_left, both_right, both_true}
use Rattle.sets.proofs.Walks.{by_below}
use Rattle.sets.proofs.SetLaws.{within_everyone}
use Rattle.labels.specs.Labels.{Policy, policy, policy_on, policies_on, label_of, bottom_of, whole_of, effective}
use Rattle.labels.specs.Internal.Tables.{label_size, label_words, label_at}
use Rattle.labels.specs.declared.Label.{Label}
use Rattle.labels.proofs.EffectiveLaws.{effective_whole, bottom_effective}
use Rattle.labels.proofs.PolicyLaws.{policies_effective}
use Rattle.labels.proofs.TableLaws.{length_words, label_read}
use Rattle.sheet.specs.Sheet.{Sheet, labels_of, label_no, label_count, rising, formed}
use Rattle.sheet.specs.Padding.{padded}
use Rattle.sheet.specs.Internal.Tables.{labels_room, labels_words, table_of, label_in}
use Rattle.sheet.proofs.Entries.{label_there, label_past}
use Rattle.sheet.proofs.FormLaws.{label-rising}
use Rattle.sheet.proofs.TableLaws.{labels_in_lem, everyone_in_lem, to_labels, from_labels, labels_start}

-- ---- policies of the right form are policies of the principals

rising_on : (n from : ℕ) (ps : List Policy) → rising n from ps ≡ true → policies_on n ps ≡ true
unfolding rising policies_on policy_on
rising_on n from [] h = refl
rising_on n from (policy o r w ∷ ps) h =
    let sets-and-rest = both_right _ _ h in
    let sets = both_left _ _ sets-and-rest in
    both_true
    (both_true (both_right _ _ (both_left _ _ h))
    (both_true (within_everyone n r (ltb-true _ _ (both_left _ _ sets)))
    (within_everyone n w (ltb-true _ _ (both_right _ _ sets)))))
    (rising_on n (suc o) ps (both_right _ _ sets-and-rest))

each_effective : (n : ℕ) (pss : List (List Policy)) → ((l : ℕ) → policies_on n (get_or pss l []) ≡ true) → (l : ℕ)
    → effective n (get_or (map (label_of n) pss) l (bottom_of (everyone n))) ≡ true
each_effective n [] on l = bottom_effective n
each_effective n (ps ∷ pss) on zero = policies_effective n ps (on 0)
each_effective n (ps ∷ pss) on (suc l) = each_effective n pss (λ k. on (suc k)) l

-- every number names a label of the sheet's principals
pub label_no-effective : (s : Sheet) → formed s ≡ true → (l : ℕ) → effective s.principals (label_no s l) ≡ true
unfolding label_no labels_of
label_no-effective s fm l = each_effective s.principals s.labels (λ k. rising_on _ 0 _ (label-rising s fm k)) l

-- ---- the words of labels

label-among : (before : List ℕ) (ls : List Label) (after : List ℕ) (d : Label)
    → ((l : ℕ) → l < length ls → whole_of (get_or ls l d) ≡ true)
    → (l : ℕ) → l < length ls
    → label_at (before ++ (labels_words ls ++ after)) (length before + label_size * l) ≡ get_or ls l d
unfolding labels_words
label-among before [] after d w l h = absurd (omega arith)
label-among before (a ∷ ls) after d w zero h =
    let e : before ++ ((label_words a ++ labels_words ls) ++ after)
    ≡ before ++ label_words a ++ (labels_words ls ++ after) = simp append_assoc in
    let start : length before + label_size * 0 ≡ length before = omega arith in
    ap₂ label_at e start ∙ label_read before (labels_words ls ++ after) a (w 0 h)
label-among before (a ∷ ls) after d w (suc l) h =
    let front = before ++ label_words a in
    let e : before ++ ((label_words a ++ labels_words ls) ++ after) ≡ front ++ (labels_words ls ++ after) =
    simp append_assoc in
    let start : length before + label_size * suc l ≡ length front + label_size * l =
    omega (arith, length-append before (label_words a), length_words a (w 0 (omega arith))) in
    ap₂ label_at e start ∙ label-among front ls after d (λ k r. w (suc k) (omega arith)) l (omega arith)

-- ---- the table has the sheet's labels

module _ (s : Sheet) (fm : formed s ≡ true) where
  whole : (l : ℕ) → whole_of (label_no s l) ≡ true
  whole l = effective_whole s.principals (label_no s l) (label_no-effective s fm l)

  labels-long : length (labels_of s) ≡ label_count s
  unfolding labels_of label_count
  labels-long = length-map s.labels (label_of s.principals)

  pub label_in_lem : (l : ℕ) → label_in (table_of s) l ≡ label_no s l
  unfolding label_no padded
  label_in_lem l =
      by_below l (label_count s)
      (λ h.
      let zeros : List ℕ = replicate (labels_room - length (labels_words (labels_of s))) 0 in
      label_there (table_of s) l (sym (labels_in_lem s fm)) h
      ∙ ap₂ label_at (from_labels s) (ap (λ (n : ℕ). n + label_size * l) (sym (labels_start s fm)))
      ∙ label-among (to_labels s) (labels_of s) zeros _ (λ l h. whole l) l (omega (arith, labels-long)))
      (λ h. label_past (table_of s) l (sym (labels_in_lem s fm)) (sym (everyone_in_lem s fm)) h
      ∙ sym (get_or-eq_default (labels_of s) _ {n = l} (omega (arith, labels-long))))

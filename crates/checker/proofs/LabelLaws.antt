-- Least labels over the table are the least labels over the sheet's declarations.
use mathlib.Core.Path.{◌≡◌, refl, sym, ap, ap₂, ◌∙◌}
use mathlib.Core.Bool.{true}
use mathlib.Core.List.{List, []}
use mathlib.Core.Option.{Option, none, some}
use Prim.Native.Nat.{ℕ, ◌≤◌}
use native.Mathlib.Omega.{arith}
use Rattle.sets.specs.Sets.{everyone}
use Rattle.labels.specs.declared.Label.{Label}
use Rattle.labels.specs.Labels.{below_of, confidentiality_of, integrity_of, bottom_of, effective}
use Rattle.labels.proofs.EffectiveLaws.{effective_whole, bottom_least, i_effective}
use Rattle.labels.proofs.PartLaws.{i_bottom}
use Rattle.language.specs.Syntax.{Script}
use Rattle.language.specs.Declarations.{start_of}
use Rattle.language.specs.Typing.{conditions, flow}
use Rattle.language.specs.Trust.{keeps, trust_keeping}
use Rattle.language.proofs.Images.{Image, flow_image}
use Rattle.language.proofs.Trust.{keeps_image}
use Rattle.sheet.specs.Sheet.{Sheet, formed, label_count, max_labels}
use Rattle.sheet.specs.Internal.Tables.{table_of, everyone_in, home_in, label_in}
use Rattle.sheet.specs.Internal.Starts.{start_no}
use Rattle.sheet.specs.Meaning.{labels_over, declarations_of, start_label}
use Rattle.sheet.proofs.FormLaws.{formed_facts}
use Rattle.sheet.proofs.Entries.{label_past}
use Rattle.sheet.proofs.TableLaws.{everyone_in_lem, home_in_lem, labels_in_lem}
use Rattle.sheet.proofs.LabelLaws.{label_in_lem, label_no-effective}
use Rattle.sheet.proofs.MeaningLaws.{declared_label, declared_home}
use Rattle.members.specs.Internal.Members.{label_member, integrity_member, join_in, whole_flows}
use Rattle.checker.specs.Internal.Numbers.{conditions_in, conditions_on, below_on}
use Rattle.members.proofs.MemberLaws.{join_none, join_union, join_label, join_integrity}

few_of : (s : Sheet) → formed s ≡ true → label_count s ≤ max_labels
unfolding label_count
few_of s fm = (formed_facts s fm).few_labels

module _ (s : Sheet) (fm : formed s ≡ true) where
  abbrev T : List ℕ
  T = table_of s

  label_is : (l : ℕ) → ((declarations_of s).label l).raw ≡ label_in T l
  label_is l = declared_label s fm l ∙ sym (label_in_lem s fm l)

  home_is : (x : ℕ) → ((declarations_of s).home x).raw ≡ label_in T (home_in T x)
  home_is x = declared_home s fm x ∙ sym (label_in_lem s fm _) ∙ ap (label_in T) (sym (home_in_lem s fm x))

  all_is : everyone s.principals ≡ everyone_in T
  all_is = sym (everyone_in_lem s fm)

  -- the conditions of the sheet and those of its table
  table_image : Image (conditions (labels_over s.principals) (declarations_of s)) (conditions_in T) (λ a. a.raw)
  table_image =
      record {
        home_is = home_is;
        bot_is = ap bottom_of all_is;
        join_is = λ a b. refl;
        pack_label_is = λ l a. ap₂ integrity_of all_is (label_is l);
        unpack_label_is = λ l a. label_is l;
        may_assign_is = λ x a. ap (below_of a.raw) (home_is x);
        may_pack_is = λ l a. ap (below_of a.raw) (label_is l);
        may_unpack_is =
            λ l a. ap (λ (b : Label). below_of (confidentiality_of a.raw) (confidentiality_of b)) (label_is l);
      }

  -- the labels of the table lie above bottom, and so do their integrity parts
  effective_in : (l : ℕ) → effective s.principals (label_in T l) ≡ true
  effective_in l = rw (label_in_lem s fm l) (label_no-effective s fm l)

  bottom_under : (a : Label) → effective s.principals a ≡ true → below_of (bottom_of (everyone_in T)) a ≡ true
  bottom_under a h = rw all_is at (bottom_least s.principals a h)

  past : (l : ℕ) → max_labels ≤ l → label_in T l ≡ bottom_of (everyone_in T)
  past l h =
      let few : label_count s ≤ max_labels = few_of s fm in label_past T l (sym (labels_in_lem s fm)) refl (omega arith)

  label-joined : (l : ℕ) → join_in T (label_member l) ≡ label_in T l
  label-joined l =
      join_label T past l (effective_whole _ _ (effective_in l)) (bottom_under (label_in T l) (effective_in l))

  -- the conditions over sets of members, and those over the labels that they stand for
  members_image : Image (conditions_on T) (conditions_in T) (join_in T)
  members_image =
      record {
        home_is = λ x. label-joined (home_in T x);
        bot_is = join_none T;
        join_is = join_union T;
        pack_label_is = λ l a. integrity-joined l;
        unpack_label_is = λ l a. label-joined l;
        may_assign_is = λ x a. refl;
        may_pack_is = λ l a. refl;
        may_unpack_is = λ l a. refl;
      }
    where
      integrity-joined : (l : ℕ) → join_in T (integrity_member l) ≡ integrity_of (everyone_in T) (label_in T l)
      integrity-joined l =
          let ok = rw all_is at (i_effective s.principals (label_in T l) (effective_in l)) in
          join_integrity T past l (i_bottom _) (effective_whole _ _ ok) (bottom_under _ ok)

  -- the label that a script starts at
  start_is : (x : Option ℕ) → (start_of (labels_over s.principals) (declarations_of s) x).raw ≡ label_in T (start_no x)
  unfolding start_of start_no
  start_is none = ap bottom_of all_is ∙ sym (past max_labels (omega arith))
  start_is (some l) = label_is l

  pub flow-table : (p : Script)
      → flow (conditions (labels_over s.principals) (declarations_of s)) (start_label s p) [] p.command
      ≡ flow (conditions_on T) (label_member (start_no p.opening.start)) [] p.command
  flow-table p =
      let c = p.command in
      let start = start_no p.opening.start in
      flow_image _ _ (λ a. a.raw) table_image (start_label s p) [] c
      ∙ ap (λ (a : Label). flow (conditions_in T) a [] c) (start_is p.opening.start ∙ sym (label-joined start))
      ∙ sym (flow_image _ _ (join_in T) members_image (label_member start) [] c)

  -- whether each unpack's operand is at or below the wanted label, over the table
  pub keeps_table : (p : Script) → trust_keeping (labels_over s.principals) (declarations_of s) p
      ≡ keeps (conditions_on T) (below_on T) [] p.command
  unfolding trust_keeping whole_flows
  keeps_table p =
      keeps_image _ _ (λ a. a.raw) table_image _ (λ l a. below_of a (label_in T l))
      (λ l a. ap (below_of a.raw) (label_is l)) [] p.command
      ∙ sym (keeps_image _ _ (join_in T) members_image (below_on T) _ (λ l a. refl) [] p.command)

-- Who sees the labels that a group of distrusted parties doesn't write is an observer of a sheet's labels:
-- noninterference for it, of accepted, trust-keeping scripts.
use mathlib.Core.Path.{◌≡◌, refl, ap, ◌∙◌, fun_ext}
use mathlib.Core.Bool.{Bool, true, not}
use mathlib.Core.List.{[]}
use Prim.Native.Nat.{ℕ, ◌≤◌}
use Rattle.logic.proofs.BooleanLaws.{both_true, not_down}
use Rattle.labels.specs.Labels.{owners, writes_of, EffectiveLabel}
use Rattle.labels.specs.declared.Label.{Label}
use Rattle.labels.proofs.ReadingLaws.{writes_up}
use Rattle.language.specs.Syntax.{Script}
use Rattle.language.specs.World.{Mem}
use Rattle.language.specs.View.{mask_mem}
use Rattle.language.specs.Transition.{done, iterate}
use Rattle.language.specs.Typing.{conditions, flow}
use Rattle.language.specs.Trust.{at_or_below, trust_keeping, trusting}
use Rattle.language.specs.Theorems.{Observer}
use Rattle.language.proofs.Exactness.{script_iff}
use Rattle.language.proofs.Observers.{law_joins, truster}
use Rattle.language.proofs.Trust.{stricter_flow}
use Rattle.sheet.specs.Sheet.{Sheet, formed}
use Rattle.sheet.specs.Meaning.{labels_over, declarations_of, start_label, world_of, world_for}
use Rattle.sheet.proofs.FormLaws.{formed_facts}
use Rattle.sheet.proofs.MeaningLaws.{least_label_laws, declared_label, declared_home}
use Rattle.memory.specs.View.{trusted_label_no, trusted_location_no}
use Rattle.simp.specs.Judgements.{Typable}
use Rattle.simp.specs.Trust.{TrustKeeping}
use Rattle.simp.proofs.Readers.{looks_kept}

module _ (s : Sheet) (fm : formed s ≡ true) (group : ℕ) where
  -- the labels that the group doesn't write
  abbrev trusts : Label → Bool
  trusts a = not (writes_of s.principals group a)

  abbrev vis : EffectiveLabel s.principals → Bool
  vis a = trusts a.raw

  few : s.principals ≤ owners
  few = (formed_facts s fm).few_principals

  -- by number
  labels_are : (λ l. vis ((declarations_of s).label l)) ≡ trusted_label_no s group
  unfolding trusted_label_no
  labels_are = fun_ext λ l. ap trusts (declared_label s fm l)

  locations_are : (λ x. vis ((declarations_of s).home x)) ≡ trusted_location_no s group
  unfolding trusted_location_no trusted_label_no
  locations_are = fun_ext λ x. ap trusts (declared_home s fm x)

  observer : (authority : ℕ) → Observer (trusting (labels_over s.principals) (declarations_of s))
      (world_of s authority) vis (λ l. vis ((declarations_of s).label l))
  observer authority =
      let 𝓛 = labels_over s.principals in
      truster 𝓛 (declarations_of s) (world_of s authority) vis (law_joins 𝓛 (least_label_laws s.principals))
      (λ a b h. not_down _ _ (writes_up s.principals few group a.raw b.raw h))
      (λ m l. rw (declared_label s fm m, declared_label s fm l) refl)

  -- an accepted, trust-keeping script passes the stricter conditions
  passes : (p : Script) → Typable s p → TrustKeeping s p
      → flow (trusting (labels_over s.principals) (declarations_of s)) (start_label s p) [] p.command ≡ true
  unfolding trust_keeping
  passes p t k =
      let 𝓛 = labels_over s.principals in
      let D = declarations_of s in
      stricter_flow _ (conditions 𝓛 D) (at_or_below 𝓛 D) (start_label s p) [] p.command
      ∙ both_true ((script_iff 𝓛 (least_label_laws s.principals) D p).1 t).1 k

  -- Two done runs of it, under one authority, from memories that are alike in what is left, leave such memories.
  pub left_kept : (p : Script) → Typable s p → TrustKeeping s p → (authority b b' l l' : ℕ) (M N M' N' : Mem)
      → ((x : ℕ) → mask_mem (trusted_location_no s group) (trusted_label_no s group) M x
      ≡ mask_mem (trusted_location_no s group) (trusted_label_no s group) N x)
      → iterate (world_for s authority p) b M p.command ≡ done M' l
      → iterate (world_for s authority p) b' N p.command ≡ done N' l'
      → (x : ℕ) → mask_mem (trusted_location_no s group) (trusted_label_no s group) M' x
      ≡ mask_mem (trusted_location_no s group) (trusted_label_no s group) N' x
  left_kept p t k authority =
      let 𝓛 = labels_over s.principals in
      let D = declarations_of s in
      looks_kept (trusting 𝓛 D) (world_for s authority p) vis D.label (observer authority) locations_are labels_are
      (start_label s p) p.command (passes p t k)

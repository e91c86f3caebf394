-- Who reads with a label every label below it by readers alone is an observer of a sheet's labels: noninterference and
-- confinement for him. A group is such a one, by both rules of reading.
use mathlib.Core.Path.{◌≡◌, refl, sym, ap, ◌∙◌, subst₂, fun_ext}
use mathlib.Core.Bool.{Bool, true, false}
use mathlib.Core.List.{[]}
use Prim.Native.Nat.{ℕ}
use Rattle.labels.specs.Labels.{reads_under, EffectiveLabel}
use Rattle.labels.specs.Lattice.{DownwardClosed}
use Rattle.labels.specs.declared.Label.{Label}
use Rattle.labels.proofs.ReadingLaws.{closed_below, reading_downward}
use Rattle.language.specs.Syntax.{Value, Cmd, Script}
use Rattle.language.specs.World.{World, Mem}
use Rattle.language.specs.View.{seen, mask, mask_mem}
use Rattle.language.specs.Figures.{Steps}
use Rattle.language.specs.Transition.{done, iterate}
use Rattle.language.specs.Typing.{Conditions, conditions, flow}
use Rattle.language.specs.Theorems.{Observer}
use Rattle.language.proofs.Exactness.{script_iff}
use Rattle.language.proofs.Noninterference.{noninterference}
use Rattle.language.proofs.Confinement.{confinement}
use Rattle.language.proofs.Observers.{law_joins, reader}
use Rattle.sheet.specs.Sheet.{Sheet, label_no, location_no, formed}
use Rattle.sheet.specs.Meaning.{labels_over, declarations_of, start_label, world_of, world_for, reads_no, reads_start}
use Rattle.sheet.proofs.FormLaws.{formed_facts}
use Rattle.sheet.proofs.MeaningLaws.{least_label_laws, declared_label, declared_home}
use Rattle.memory.specs.View.{sees_no}
use Rattle.simp.specs.Judgements.{Typable}

-- values that are the same where they are seen
same_seen : (b : Bool) (shows : ℕ → Bool) (v w : Value) → (b ≡ true → v ≡ w)
    → seen b (mask shows v) ≡ seen b (mask shows w)
unfolding seen
same_seen true shows v w h = ap (mask shows) (h refl)
same_seen false shows v w h = refl

-- Two memories look the same, where the locations `sees` are seen and the contents at the label numbers `shows`.
Alike : Mem → Mem → (ℕ → Bool) → (ℕ → Bool) → Type 0
Alike M N sees shows = (x : ℕ) → mask_mem sees shows M x ≡ mask_mem sees shows N x

-- Noninterference, of an observer of whom numbers tell what it sees.
module _ {L : Type 0} (K : Conditions L) (W : World) (vis : L → Bool) (label : ℕ → L)
    (observer : Observer K W vis (λ l. vis (label l)))
    {sees shows : ℕ → Bool} (sees_is : (λ x. vis (K.home x)) ≡ sees) (shows_is : (λ l. vis (label l)) ≡ shows) where
  pub looks_kept : (pc : L) (c : Cmd) → flow K pc [] c ≡ true → (b b' l l' : ℕ) (M N M' N' : Mem)
      → ((x : ℕ) → mask_mem sees shows M x ≡ mask_mem sees shows N x)
      → iterate W b M c ≡ done M' l → iterate W b' N c ≡ done N' l'
      → (x : ℕ) → mask_mem sees shows M' x ≡ mask_mem sees shows N' x
  unfolding Alike
  looks_kept pc c f b b' l l' M N M' N' h e e' =
      subst₂ (Alike M' N') sees_is shows_is
      (noninterference K W vis (λ k. vis (label k)) observer pc c f b b' l l' M N M' N'
      (subst₂ (Alike M N) (sym sees_is) (sym shows_is) h) e e')

-- the locations whose label is read, and the label numbers that are
abbrev pub sees_by : Sheet → (Label → Bool) → ℕ → Bool
sees_by s reads x = reads (label_no s (location_no s x).label)

abbrev pub shows_by : Sheet → (Label → Bool) → ℕ → Bool
shows_by s reads l = reads (label_no s l)

-- One who reads the labels `reads`. Nothing is asked of his reading but that it is closed downward.
module _ (s : Sheet) (fm : formed s ≡ true) (reads : Label → Bool) (down : DownwardClosed reads) where
  abbrev vis : EffectiveLabel s.principals → Bool
  vis a = reads a.raw

  -- by number
  shows_is : (λ l. vis ((declarations_of s).label l)) ≡ shows_by s reads
  shows_is = fun_ext λ l. ap reads (declared_label s fm l)

  sees_is : (λ x. vis ((declarations_of s).home x)) ≡ sees_by s reads
  sees_is = fun_ext λ x. ap reads (declared_home s fm x)

  observer : (authority : ℕ) → Observer (conditions (labels_over s.principals) (declarations_of s))
      (world_of s authority) vis (λ l. vis ((declarations_of s).label l))
  observer authority =
      let 𝓛 = labels_over s.principals in
      reader 𝓛 (declarations_of s) (world_of s authority) vis (law_joins 𝓛 (least_label_laws s.principals))
      (λ a b. closed_below reads down a.raw b.raw)
      (λ m l. rw (declared_label s fm m, declared_label s fm l) refl)
      (λ a b. down a.raw b.raw)

  -- Two done runs of an accepted script, under one authority, from memories that show him the same,
  -- leave such memories.
  pub kept_by : (p : Script) → Typable s p → (authority b b' l l' : ℕ) (M N M' N' : Mem)
      → ((x : ℕ) → mask_mem (sees_by s reads) (shows_by s reads) M x
      ≡ mask_mem (sees_by s reads) (shows_by s reads) N x)
      → iterate (world_for s authority p) b M p.command ≡ done M' l
      → iterate (world_for s authority p) b' N p.command ≡ done N' l'
      → (x : ℕ) → mask_mem (sees_by s reads) (shows_by s reads) M' x
      ≡ mask_mem (sees_by s reads) (shows_by s reads) N' x
  kept_by p t authority =
      let 𝓛 = labels_over s.principals in
      let D = declarations_of s in
      looks_kept (conditions 𝓛 D) (world_for s authority p) vis D.label (observer authority) sees_is shows_is
      (start_label s p) p.command
      ((script_iff 𝓛 (least_label_laws s.principals) D p).1 t).1

  -- A script whose starting label he doesn't read: however far a run of it goes, the memory shows him the same.
  pub confined_by : (p : Script) → Typable s p → ¬ (vis (start_label s p) ≡ true)
      → (authority k : ℕ) (M M' : Mem) (c' : Cmd)
      → Steps (world_for s authority p) k M p.command M' c'
      → (x : ℕ) → mask_mem (sees_by s reads) (shows_by s reads) M' x ≡ mask_mem (sees_by s reads) (shows_by s reads) M x
  unfolding mask_mem
  confined_by p t h authority k M M' c' run x =
      let 𝓛 = labels_over s.principals in
      let D = declarations_of s in
      same_seen (sees_by s reads x) (shows_by s reads) (M' x) (M x) (λ v.
      confinement (conditions 𝓛 D) (world_for s authority p) vis (λ k. vis (D.label k)) (observer authority)
      (start_label s p) p.command
      ((script_iff 𝓛 (least_label_laws s.principals) D p).1 t).1 h k M M' c' run x
      (ap (λ (f : ℕ → Bool). f x) sees_is ∙ v))

-- A group, by the sheet's rule.
module _ (s : Sheet) (fm : formed s ≡ true) (group : ℕ) where
  abbrev group_reads : Label → Bool
  group_reads = reads_under s.rule s.principals group

  group_downward : DownwardClosed group_reads
  group_downward = reading_downward s.rule s.principals (formed_facts s fm).few_principals group

  pub shown_kept : (p : Script) → Typable s p → (authority b b' l l' : ℕ) (M N M' N' : Mem)
      → ((x : ℕ) → mask_mem (sees_no s group) (reads_no s group) M x
      ≡ mask_mem (sees_no s group) (reads_no s group) N x)
      → iterate (world_for s authority p) b M p.command ≡ done M' l
      → iterate (world_for s authority p) b' N p.command ≡ done N' l'
      → (x : ℕ) → mask_mem (sees_no s group) (reads_no s group) M' x
      ≡ mask_mem (sees_no s group) (reads_no s group) N' x
  unfolding sees_no
  shown_kept = kept_by s fm group_reads group_downward

  pub shown_confined : (p : Script) → Typable s p → ¬ (reads_start s group p ≡ true)
      → (authority k : ℕ) (M M' : Mem) (c' : Cmd)
      → Steps (world_for s authority p) k M p.command M' c'
      → (x : ℕ) → mask_mem (sees_no s group) (reads_no s group) M' x ≡ mask_mem (sees_no s group) (reads_no s group) M x
  unfolding sees_no
  shown_confined = confined_by s fm group_reads group_downward

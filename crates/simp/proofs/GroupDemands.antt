-- Demand 2 of simp_groups, and what it lists.
use mathlib.Core.Logic.{◌⊎◌, inl, inr, ⊎_elim}
use mathlib.Core.Path.{◌≡◌, refl, sym, ap, ◌∙◌, subst}
use mathlib.Core.List.{List, [], ◌∷◌, ◌++◌}
use Prim.Native.Nat.{ℕ, ◌+◌, ◌-◌, ◌≤◌, ◌<◌}
use native.Mathlib.Omega.{arith}
use lib.ListN.{length, get_or, drop, length-append, length-drop, get_or-append}
use lib.Seq.{ext_get_or, get_or-append-add, get_or-drop}
use Rattle.logic.proofs.BooleanLaws.{fails}
use Rattle.sets.proofs.Walks.{by_below}
use Rattle.sheet.specs.Sheet.{Sheet, label_count}
use Rattle.sheet.specs.Meaning.{reads_no}
use Rattle.sheet.proofs.ReaderLaws.{nobody_reads}
use Rattle.stages.specs.Calls.{on_sheet}
use Rattle.groups.specs.Answers.{Grouped, refused_groups, grouped}
use Rattle.groups.specs.Calls.{groups_for, groups_on, groups_of}
use Rattle.groups.proofs.ListLaws.{groups_exact, readers_hold_one}
use Rattle.groups.proofs.RuleLaws.{reading_grows}
use Rattle.groups.proofs.StageLaws.{groups_by_lem, no_label, few-places, all_placed}
use Rattle.numbers.specs.Rows.{numbers, ◌when◌, First}
use Rattle.numbers.specs.Calls.{Demand2Of}
use Rattle.numbers.proofs.RowLaws.{by_rows, not_one, exactly}
use Rattle.simp.specs.Judgements.{OnSheet}
use Rattle.simp.specs.Groups.{SmallestOn, NoLabel, FewPlaces, groups_rows, Handed}
use Rattle.simp.specs.SmallestGroups.{SmallestGroups}
use Rattle.simp.specs.Demands.{groups_call}
use Rattle.simp.proofs.Judged.{read, its, past_2}

-- ---- the groups of a label

module _ (s : Sheet) (l : ℕ) where
  its_groups : SmallestOn s l (groups_for s l)
  unfolding groups_for
  its_groups = groups_exact.lists s.principals (λ (g : ℕ). reads_no s g l)

  no_others : (gs : List ℕ) → SmallestOn s l gs → gs ≡ groups_for s l
  unfolding groups_for
  no_others = groups_exact.no_other s.principals (λ (g : ℕ). reads_no s g l)

-- ---- in the places

module _ (places gs : List ℕ) where
  hands : length gs ≤ length places → Handed places gs (grouped places gs)
  hands l = record {
    not_refused = refl;
    its_count = refl;
    enough = l;
    as_many_places = omega (arith, length-append gs (drop (length gs) places), length-drop (length gs) places);
    first_places = λ i m. get_or-append gs (drop (length gs) places) 0 i m;
    rest_kept = λ i m.
        let j : ℕ = i - length gs in
        let e : length gs + j ≡ i = omega arith in
        subst (λ (k : ℕ). get_or (gs ++ drop (length gs) places) k 0 ≡ get_or places k 0) e
        (get_or-append-add gs (drop (length gs) places) j 0 ∙ get_or-drop (length gs) places j 0);
  }

  same_grouped : {r : Grouped} {k : ℕ} {ws : List ℕ} → r.answer ≡ 0 → r.count ≡ k → r.places ≡ ws
      → r ≡ record { answer = 0; count = k; places = ws }
  same_grouped a c p = rw (← a, ← c, ← p) refl

  handed_so : {r : Grouped} → Handed places gs r → r ≡ grouped places gs
  handed_so {r} h =
      let w = hands h.enough in
      same_grouped h.not_refused h.its_count
      (ext_get_or 0 r.places (grouped places gs).places (h.as_many_places ∙ sym w.as_many_places) (λ i m.
      by_below i (length gs) (λ b. h.first_places i b ∙ sym (w.first_places i b))
      (λ b. h.rest_kept i b ∙ sym (w.rest_kept i b))))

-- ---- the stages against the rows

-- none of 1, 2 and 12 applies
record Lists (sheet : List ℕ) (l : ℕ) (places : List ℕ) : Type 0 where
  its_sheet : Sheet
  on_sheet_lem : OnSheet sheet its_sheet
  there : l < label_count its_sheet
  enough : length (groups_for its_sheet l) ≤ length places

module _ (sheet : List ℕ) (l : ℕ) (places : List ℕ) where
  abbrev R : ℕ → Grouped
  R = refused_groups places

  abbrev E : Grouped → Type 0
  E _ = Lists sheet l places

  past_12 : (s : Sheet) → OnSheet sheet s
      → First R E (12 when (NoLabel sheet l ⊎ FewPlaces sheet l places) ∷ []) (groups_on s l places)
  unfolding First
  past_12 s h =
      by_below l (label_count s)
      (λ m.
      by_below (length places) (length (groups_for s l))
      (λ k. inl (
        inr (s, h.form, (groups_for s l, its_groups s l, k)),
        groups_by_lem s l places
            ∙ few-places _ l _ _ m k,
      ))
      (λ k. inr (
        ⊎_elim (λ o. let z = its (λ (s : Sheet). label_count s ≤ l) h.form o in omega arith)
            (λ o.
            let (gs, g, z) =
            its (λ (s : Sheet). (gs : List ℕ) × SmallestOn s l gs × (length places < length gs)) h.form o in
            omega (arith, ap length (no_others s l gs g))),
        record { its_sheet = s; on_sheet_lem = h; there = m; enough = k },
      )))
      (λ m. inl (inl (s, h.form, m), groups_by_lem s l places ∙ no_label _ l _ _ m))

  lists : First R E (groups_rows sheet l places) (groups_of sheet l places)
  unfolding groups_of
  lists = past_2 R E sheet _ _ past_12

  listed_so : (h : Lists sheet l places) → groups_of sheet l places ≡ grouped places (groups_for h.its_sheet l)
  unfolding groups_of on_sheet
  listed_so h =
      rw (read h.on_sheet_lem) (groups_by_lem h.its_sheet l places ∙ all_placed _ l _ _ h.there h.enough)

pub groups-exactly : (sheet : List ℕ) (l : ℕ) (places : List ℕ) → Demand2Of (groups_call sheet l places)
groups-exactly sheet l places =
    exactly (refused_groups places) _ _ (groups_of sheet l places) (groups_rows sheet l places)
    (λ n h r.
    let s : Sheet = h.its_sheet in
    let gs : List ℕ = groups_for s l in (
      λ e. (
        s,
        h.on_sheet_lem.form,
        (
          gs,
          its_groups s l,
          subst (Handed places gs) (sym (listed_so sheet l places h) ∙ e) (hands places gs h.enough),
        ),
      ),
      λ o.
          let (hs, g, z) =
          its (λ (s : Sheet). (gs : List ℕ) × SmallestOn s l gs × Handed places gs r) h.on_sheet_lem.form o in
          listed_so sheet l places h ∙ ap (grouped places) (sym (no_others s l hs g)) ∙ sym (handed_so places hs z),
    ))
    (lists sheet l places)

-- ---- what is listed

-- a call that isn't refused lists
listing : (sheet : List ℕ) (l : ℕ) (places : List ℕ) → (groups_of sheet l places).answer ≡ 0 → Lists sheet l places
unfolding numbers
listing sheet l places z =
    by_rows (refused_groups places) (λ _. Lists sheet l places) (λ r. r.answer ≡ 0 → Lists sheet l places)
    (groups_rows sheet l places)
    (λ k i g e. absurd (not_one 0 i refl e)) (λ r n h e. h) _ (lists sheet l places) z

pub smallest_groups : SmallestGroups
smallest_groups sheet l places z =
    let h = listing sheet l places z in
    let s : Sheet = h.its_sheet in
    let gs : List ℕ = groups_for s l in (
      s,
      h.on_sheet_lem,
      record {
        there = h.there;
        groups = gs;
        smallest = its_groups s l;
        handed = rw (listed_so sheet l places h) (hands places gs h.enough);
        not_empty =
            λ o. fails (nobody_reads s h.on_sheet_lem.form.is_formed l) (((its_groups s l).listed 0).0 o).1.itself;
        readers = readers_hold_one s.principals (λ (g : ℕ). reads_no s g l) (reading_grows s l) gs (its_groups s l);
      },
    )

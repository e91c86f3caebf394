-- The stage of simp_groups: what it gives by a table, and that this is what the sheet of a table has.
use mathlib.Core.Path.{◌≡◌, refl, sym, ap, ap₂, ◌∙◌, fun_ext}
use mathlib.Core.List.{List, ◌++◌}
use Prim.Native.Nat.{ℕ, ◌+◌, ◌^◌, ◌≤◌, ◌<◌}
use native.Mathlib.Omega.{arith}
use lib.Pow.{pow_pos}
use lib.ListN.{length, drop}
use borrow.Author.Tests.{lt-ltb, le-ltb, le-leb, lt-leb}
use Rattle.logic.specs.Booleans.{both}
use Rattle.sets.specs.Sets.{everyone}
use Rattle.sheet.specs.Sheet.{Sheet, label_count}
use Rattle.sheet.specs.Meaning.{reads_no}
use Rattle.sheet.specs.Internal.Tables.{everyone_in, labels_in}
use Rattle.sheet.proofs.TableLaws.{everyone_in_lem, labels_in_lem}
use Rattle.sheet.proofs.ReaderLaws.{nobody_reads}
use Rattle.stages.specs.Calls.{unless}
use Rattle.stages.specs.Internal.Stages.{TableOf}
use Rattle.groups.specs.declared.readers.Readers.{Readers}
use Rattle.groups.specs.Smallest.{AccessStructure}
use Rattle.groups.specs.Answers.{Grouped, refused_groups, grouped}
use Rattle.groups.specs.Calls.{groups_for, groups_refusal, groups_on}
use Rattle.groups.specs.Internal.Readers.{reads_by, readers_in}
use Rattle.groups.specs.Internal.Walk.{smallest_up_to}
use Rattle.groups.specs.Internal.Stages.{groups_by, groups_for_in, groups_in}
use Rattle.groups.proofs.ReaderLaws.{readers_of-label}
use Rattle.groups.proofs.WalkLaws.{from_one}

-- ---- groups in the places

module _ (labels l : ℕ) (gs places : List ℕ) where
  pub no_label : labels ≤ l → groups_by labels l gs places ≡ refused_groups places 12
  unfolding groups_by unless both
  no_label m = rw (le-ltb l labels m) refl

  pub few-places : l < labels → length places < length gs → groups_by labels l gs places ≡ refused_groups places 12
  unfolding groups_by unless both
  few-places m k = rw (lt-ltb l labels m, lt-leb (length gs) (length places) k) refl

  pub all_placed : l < labels → length gs ≤ length places → groups_by labels l gs places ≡ grouped places gs
  unfolding groups_by unless both
  all_placed m k = rw (lt-ltb l labels m, le-leb (length gs) (length places) k) refl

-- ---- on the table of a sheet

-- the groups of a sheet are placed so
pub groups_by_lem : (s : Sheet) (l : ℕ) (places : List ℕ)
    → groups_on s l places ≡ groups_by (label_count s) l (groups_for s l) places
unfolding groups_on groups_refusal groups_by
groups_by_lem s l places = refl

module _ {t : List ℕ} {s : Sheet} (T : TableOf t s) where
  labels_there : labels_in t ≡ label_count s
  labels_there = ap labels_in T.words ∙ labels_in_lem s T.form

  -- what the walk finds is what the sheet has
  walked : (l : ℕ) → groups_for_in t l ≡ groups_for s l
  unfolding groups_for groups_for_in everyone
  walked l =
      let n : ℕ = s.principals in
      let rule : reads_by (readers_in t l) ≡ (λ (g : ℕ). reads_no s g l) =
      ap (λ (x : List ℕ). reads_by (readers_in x l)) T.words ∙ fun_ext (readers_of-label s T.form l) in
      let last : everyone_in t ≡ everyone n = ap everyone_in T.words ∙ everyone_in_lem s T.form in
      let top : everyone_in t + 1 ≡ 2 ^ n = omega (arith, pow_pos n) in
      ap₂ (λ (reads : AccessStructure) (k : ℕ). smallest_up_to reads k 1) rule top
      ∙ sym (from_one (λ (g : ℕ). reads_no s g l) n (nobody_reads s T.form l))

-- so the list is that of simp_groups on the sheet
pub groups_in_lem : (t : List ℕ) (l : ℕ) (places : List ℕ) (r : Grouped) → r ≡ groups_in t l places
    → (s : Sheet) → TableOf t s → r ≡ groups_on s l places
unfolding groups_in
groups_in_lem t l places r e s T =
    e ∙ ap₂ (λ (labels : ℕ) (gs : List ℕ). groups_by labels l gs places) (labels_there T) (walked T l)
    ∙ sym (groups_by_lem s l places)

-- ---- what the stage gives

-- the label is there, its readers were fetched, and its k smallest groups below `end` counted
pub record Counted (t : List ℕ) (l : ℕ) (rd : Readers) (end k : ℕ) : Type 0 where
  pub there : l < labels_in t
  pub readers : rd ≡ readers_in t l
  pub ends : end ≡ everyone_in t + 1
  pub count : k ≡ length (smallest_up_to (reads_by rd) end 1)

module _ (t : List ℕ) (l : ℕ) (places : List ℕ) where
  pub lists_no_label : labels_in t ≤ l → refused_groups places 12 ≡ groups_in t l places
  unfolding groups_in
  lists_no_label m = sym (no_label (labels_in t) l (groups_for_in t l) places m)

  module _ {rd : Readers} {end k : ℕ} (c : Counted t l rd end k) where
    its_groups : smallest_up_to (reads_by rd) end 1 ≡ groups_for_in t l
    unfolding groups_for_in
    its_groups = rw (c.readers, c.ends) refl

    as_many : k ≡ length (groups_for_in t l)
    as_many = c.count ∙ ap length its_groups

    pub lists-few-places : length places < k → refused_groups places 12 ≡ groups_in t l places
    unfolding groups_in
    lists-few-places m =
        sym (few-places (labels_in t) l (groups_for_in t l) places c.there (omega (arith, as_many)))

    pub lists_all : (after : List ℕ) → k ≤ length places
        → after ≡ smallest_up_to (reads_by rd) end 1 ++ drop (length (smallest_up_to (reads_by rd) end 1)) places
        → record { answer = 0; count = k; places = after } ≡ groups_in t l places
    unfolding groups_in
    lists_all after m e =
        ap₂ (λ (j : ℕ) (ws : List ℕ). record { answer = 0; count = j; places = ws }) as_many
        (e ∙ ap (λ (gs : List ℕ). gs ++ drop (length gs) places) its_groups)
        ∙ sym (all_placed (labels_in t) l (groups_for_in t l) places c.there (omega (arith, as_many)))

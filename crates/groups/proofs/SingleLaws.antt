-- Where a group reads only through a member who reads by himself, the smallest groups are the single readers.
use mathlib.Core.Path.{◌≡◌, sym, ap, ◌∙◌}
use mathlib.Core.Bool.{true}
use mathlib.Core.List.{List}
use Prim.Native.Nat.{ℕ, ◌<◌}
use lib.Dec.{eqb}
use borrow.Author.Tests.{eqb-true, eqb-false, ltb-true}
use Rattle.logic.proofs.BooleanLaws.{cases, fails, not_so}
use Rattle.sets.specs.Sets.{member, single, everyone}
use Rattle.sets.proofs.SetLaws.{within_antisym, within_elim, single_within, single_within_everyone, member_single}
use Rattle.sets.proofs.SetLaws.{member_single_self, member-everyone}
use Rattle.sheet.specs.Meaning.{reads_no}
use Rattle.sheet.proofs.ReaderLaws.{read_by_one}
use Rattle.groups.specs.Smallest.{AccessStructure, Smallest, Listed, ListsSmallest}
use Rattle.groups.specs.Theorems.{SingleReaders}

-- a group that reads has a member who does
abbrev ThroughOne : AccessStructure → Type 0
ThroughOne reads = (g : ℕ) → reads g ≡ true → (p : ℕ) × (member p g ≡ true) × (reads (single p) ≡ true)

module _ (reads : AccessStructure) (through : ThroughOne reads) where
  smallest_single : (g : ℕ) → Smallest reads g → (p : ℕ) × (g ≡ single p) × (reads (single p) ≡ true)
  smallest_single g h =
      let (p, m, r) = through g h.itself in
      cases (eqb (single p) g) (λ e. (p, sym (eqb-true _ _ e), r))
      (λ e. absurd (fails (h.no_less (single p) (single_within p g ∙ m) (eqb-false _ _ e)) r))

  single_smallest : (p : ℕ) → reads (single p) ≡ true → Smallest reads (single p)
  single_smallest p r =
      record {
        itself = r;
        no_less = λ h w n. not_so (reads h) (λ e.
            let (q, m, _) = through h e in
            let same : q ≡ p = member_single q p (within_elim h (single p) w q m) in
            n (within_antisym h (single p) w (single_within p h ∙ rw (← same) m)));
      }

  listed_single : (n : ℕ) (gs : List ℕ) → ListsSmallest n reads gs → (g : ℕ) → Listed g gs
      → (p : ℕ) × (p < n) × (g ≡ single p) × (reads (single p) ≡ true)
  listed_single n gs ls g i =
      let (w, h) = (ls.listed g).0 i in
      let (p, e, r) = smallest_single g h in
      let m : member p g ≡ true = ap (member p) e ∙ member_single_self p in
      (p, ltb-true p n (sym (member-everyone p n) ∙ within_elim g (everyone n) w p m), e, r)

  single_listed : (n : ℕ) (gs : List ℕ) → ListsSmallest n reads gs → (g p : ℕ) → p < n → g ≡ single p
      → reads (single p) ≡ true → Listed g gs
  single_listed n gs ls g p l e r = rw e ((ls.listed (single p)).1 (single_within_everyone p n l, single_smallest p r))

pub single_readers : SingleReaders
single_readers s f alone l gs ls g =
    let reads : AccessStructure = λ (g : ℕ). reads_no s g l in
    let through = read_by_one s f alone l in (
      listed_single reads through s.principals gs ls g,
      λ (p, h, e, r). single_listed reads through s.principals gs ls g p h e r,
    )

-- Smallest groups of one access structure: the test against what it means, and the test by single members.
use mathlib.Core.Logic.{◌↔◌}
use mathlib.Core.Path.{◌≡◌, refl, sym, ap, ◌∙◌}
use mathlib.Core.Bool.{Bool, true, false, not}
use Prim.Native.Nat.{ℕ, ◌-◌, ◌^◌, ◌≤◌, ◌<◌}
use native.Mathlib.Nat.{lt_of_lt_of_le}
use native.Mathlib.Omega.{arith}
use lib.Pow.{pow_mono}
use borrow.Author.Tests.{not-true}
use Rattle.logic.specs.Booleans.{both}
use Rattle.logic.proofs.BooleanLaws.{absurd_false, bool_ext, fails, cases, not_so, both_true, both_left, both_right}
use Rattle.logic.proofs.BooleanLaws.{both_yes_left, both_no_left, both_no_right, both_on}
use Rattle.sets.specs.Sets.{width, member, within, meets, single, restrict}
use Rattle.sets.proofs.Walks.{every_true, every_at, every_false, by_below}
use Rattle.sets.proofs.SetLaws.{within_intro, within_elim, within_le, single_within, member_single, member_single_self}
use Rattle.sets.proofs.SetLaws.{member_beyond, member_difference, lacks_member, meets_single, restrict_single}
use Rattle.groups.specs.Smallest.{AccessStructure, Smallest, Grows}
use Rattle.groups.specs.Listing.{is_smallest}
use Rattle.groups.specs.Internal.Walk.{reads_without, needs_each}

-- one of two tests that don't both pass fails where the other passes
not_both : (a b : Bool) → not (both a b) ≡ true → a ≡ true → b ≡ false
not_both a b n e = not-true b (rw (both_yes_left a b e) at n)

yes_no : {b : Bool} → b ≡ false → not b ≡ true
yes_no e = rw e refl

no_yes : {b : Bool} → b ≡ true → not b ≡ false
no_yes e = rw e refl

-- a part of a set that isn't the whole is a lower number
part_below : (h g : ℕ) → within h g ≡ true → ¬ (h ≡ g) → h < g
part_below h g w n = by_below h g (λ l. l) (λ l. absurd (n (omega (arith, within_le h g w))))

module _ (reads : AccessStructure) where
  pub smallest_iff : (g : ℕ) → (is_smallest reads g ≡ true) ↔ Smallest reads g
  unfolding is_smallest
  smallest_iff g = (
    λ e. record {
      itself = both_left (reads g) _ e;
      no_less =
          λ h w n. not_both (within h g) (reads h) (every_at g _ (both_right (reads g) _ e) h (part_below h g w n)) w;
    },
    λ s. both_true s.itself (every_true g _ (λ h l.
        cases (within h g) (λ w. yes_no (both_no_right (within h g) (reads h) (s.no_less h w (λ z. omega arith))))
        (λ f. yes_no (both_no_left (within h g) (reads h) f)))),
  )

  -- a group that holds another one that reads isn't smallest
  pub holder_not : (g h : ℕ) → reads g ≡ true → within g h ≡ true → ¬ (g ≡ h) → is_smallest reads h ≡ false
  holder_not g h r w n = not_so (is_smallest reads h) (λ e. fails (((smallest_iff h).0 e).no_less g w n) r)

  -- nor is one that doesn't read
  pub silent_not : (g : ℕ) → reads g ≡ false → is_smallest reads g ≡ false
  silent_not g f = not_so (is_smallest reads g) (λ e. fails f ((smallest_iff g).0 e).itself)

  -- ---- by a rule that grows with the group, single members are enough

  module _ (grows : Grows reads) (g : ℕ) (few : g < 2 ^ width) where
    -- what a group holds without p, it holds within the rest
    rest_holds : (p h : ℕ) → member p g ≡ true → within h g ≡ true → member p h ≡ false → within h (g - single p) ≡ true
    rest_holds p h m w f =
        within_intro h (g - single p) (λ q k.
        member_difference q g (single p) (single_within p g ∙ m)
        ∙ both_true (within_elim h g w q k)
        (yes_no (not_so (member q (single p)) (λ z. fails f (rw (member_single q p z) at k)))))

    rest_less : (p : ℕ) → member p g ≡ true → (within (g - single p) g ≡ true) × (¬ (g - single p ≡ g))
    rest_less p m =
        let d : (q : ℕ) → member q (g - single p) ≡ both (member q g) (not (member q (single p))) =
        λ q. member_difference q g (single p) (single_within p g ∙ m) in (
          within_intro (g - single p) g (λ q k. both_left (member q g) _ (sym (d q) ∙ k)),
          λ z. absurd
              (absurd_false (sym (no_yes (member_single_self p)) ∙ both_right (member p g) _ (sym (d p) ∙ rw z m))),
        )

    pub one_less : is_smallest reads g ≡ both (reads g) (needs_each reads g)
    unfolding needs_each reads_without
    one_less = bool_ext (is_smallest reads g) (both (reads g) (needs_each reads g)) to from
      where
        to : is_smallest reads g ≡ true → both (reads g) (needs_each reads g) ≡ true
        to e =
            let s = (smallest_iff g).0 e in
            both_true s.itself (every_true width _ (λ p l.
            cases (member p g)
            (λ m. let r = rest_less p m in
            yes_no (both_no_right (member p g) _ (s.no_less (g - single p) r.0 r.1)))
            (λ f. yes_no (both_no_left (member p g) _ f))))

        from : both (reads g) (needs_each reads g) ≡ true → is_smallest reads g ≡ true
        from e = (smallest_iff g).1 (record {
          itself = both_left (reads g) _ e;
          no_less = λ h w n.
              let (p, m, f) = lacks_member h g w n in
              not_so (reads h) (λ r.
              let below : p < width =
              by_below p width (λ l. l) (λ l. absurd (fails (member_beyond p g (lt_of_lt_of_le few (pow_mono l))) m)) in
              let stays = grows h (g - single p) (rest_holds p h m w f) r in
              fails (not_both (member p g) (reads (g - single p))
              (every_at width _ (both_right (reads g) _ e) p below) m) stays);
        })

-- ---- a group without one of its members

module _ (reads : AccessStructure) (g p m : ℕ) (is : m ≡ restrict width (single p)) (l : p < width) (b : Bool)
    (met : b ≡ meets g m) where
  meets_member : b ≡ member p g
  meets_member = met ∙ ap (meets g) (is ∙ restrict_single width p l) ∙ meets_single g p

  pub no_member : b ≡ false → false ≡ reads_without reads g p
  unfolding reads_without
  no_member e = sym (both_no_left (member p g) (reads (g - single p)) (sym meets_member ∙ e))

  pub member_le : b ≡ true → m ≤ g
  member_le e = rw (is ∙ restrict_single width p l) (within_le (single p) g (single_within p g ∙ sym meets_member ∙ e))

  pub its_member : b ≡ true → reads (g - m) ≡ reads_without reads g p
  unfolding reads_without
  its_member e = ap (λ (x : ℕ). reads (g - x)) (is ∙ restrict_single width p l)
      ∙ both_on (member p g) (reads (g - single p)) (sym meets_member ∙ e)

-- ---- member by member

module _ (reads : AccessStructure) (g : ℕ) where
  pub needs_all : ((p : ℕ) → p < width → reads_without reads g p ≡ false) → true ≡ needs_each reads g
  unfolding needs_each
  needs_all f = sym (every_true width _ (λ p l. yes_no (f p l)))

  pub not_needs : (p : ℕ) → p < width → reads_without reads g p ≡ true → false ≡ needs_each reads g
  unfolding needs_each
  not_needs p l e = sym (every_false width _ p l (no_yes e))

-- The place in the order is the rank.
use Rattle.std.proofs.Common.{◌≡◌, ℕ, ◌+◌, suc, List, [], ◌∷◌, length, map, Bool, refl, sym, ◌∙◌, arith}
use lib.Dec.{eqb, ltb}
use mathlib.Core.Bool.{not}
use borrow.Author.Tests.{ltb-false}
use Rattle.std.specs.Option.{unwrap_or}
use Rattle.std.specs.List.{position, position_or_len}
use Rattle.std.proofs.lemmas.List.Recursion.{is_position_or_len}
use Rattle.std.proofs.lemmas.List.Sums.{prefix_len-le-length}
use Rattle.logic.proofs.BooleanLaws.{cases}
use Rattle.stages.specs.declared.refusal.Refusal.{Refusal}
use Rattle.stages.specs.declared.refusal.Refusal.TheVariants.{SheetMalformed, SheetRepeats, PrincipalUnknown, SliceSize}
use Rattle.stages.specs.declared.refusal.Refusal.TheVariants.{MemoryIllFormed}
use Rattle.stages.specs.Refusals.{refusal_number}
use Rattle.desk.specs.Numbers.{rank_of}
use Rattle.desk.proofs.rank.Goals as goal

placed : {A : Type 0} (p : A → Bool) (xs : List A) → unwrap_or (position p xs) (length xs) ≡ position_or_len p xs
placed p xs =
    let few = prefix_len-le-length (λ x. not (p x)) xs in
    cases (ltb (position_or_len p xs) (length xs))
    (λ e. rw e refl)
    (λ e. let l = ltb-false _ _ e in rw e (omega arith))

ranked : (rs : List Refusal) (k : ℕ)
    → rank_of (map refusal_number rs) k ≡ position_or_len (λ r. eqb k (refusal_number r)) rs
unfolding rank_of
ranked rs k =
    is_position_or_len (λ rs. rank_of (map refusal_number rs) k) (λ r. eqb k (refusal_number r)) refl
    (λ r rs. let n : suc (rank_of (map refusal_number rs) k) ≡ 1 + rank_of (map refusal_number rs) k = omega arith in
    rw n refl) rs

-- those of a view's table
abbrev judged : List Refusal
judged = SheetMalformed ∷ SheetRepeats ∷ PrincipalUnknown ∷ SliceSize ∷ MemoryIllFormed ∷ []

pub returns : goal.returns
returns c =
    c.unwrap_or.ensures
    ∙ rw c.place.ensures (placed (λ r. eqb c.args.k (refusal_number r)) judged ∙ sym (ranked judged c.args.k))

-- Labels made from policies: the sets of each owner, and that the labels are effective.
use mathlib.Core.Path.{◌≡◌, ◌∙◌}
use mathlib.Core.Bool.{true}
use mathlib.Core.List.{List, [], ◌∷◌}
use Prim.Native.Nat.{ℕ, ◌<◌}
use native.Mathlib.Decide.{ℕ_discrete}
use native.Mathlib.Omega.{arith}
use lib.ListN.{length-set, length-replicate, get_or-replicate}
use lib.Seq.{get_or-set_same, get_or-set_other}
use borrow.Author.Tests.{ltb-true}
use Rattle.logic.proofs.BooleanLaws.{both_left, both_right}
use Rattle.sets.specs.Sets.{union, within, single, everyone}
use Rattle.sets.proofs.Walks.{get_d_tab, length-tab}
use Rattle.sets.proofs.SetLaws.{within_refl, within_union_right, union_within, single_within_everyone}
use Rattle.labels.specs.declared.Label.{Label}
use Rattle.labels.specs.Labels.{owners, readers_of, writers_of, open_at, open_of, policy_of, Policy, policy}
use Rattle.labels.specs.Labels.{with_policies, label_of, policy_on, policies_on, whole_of, effective}
use Rattle.labels.specs.Lattice.{PoliciesEffective}
use Rattle.labels.proofs.OrderLaws.{whole_intro, whole_lengths}
use Rattle.labels.proofs.EffectiveLaws.{Fits, effective_whole, effective_fits, fits_effective, closed_principal}
use Rattle.labels.proofs.EffectiveLaws.{open_principal, closed_within, single_within_open}

-- an owner without a policy lets everyone read and write
pub open_effective : (n : ℕ) → effective n (open_of n (everyone n)) ≡ true
unfolding open_of
open_effective n =
    fits_effective n _ (whole_intro _ (length-replicate owners (everyone n)) (length-tab _ _))
    (λ o l. rw (get_or-replicate owners o (everyone n) 0 l, get_d_tab owners (open_at n (everyone n)) o 0 l)
    (record {
      closed_in = closed_within n o;
      readers_in_lem = within_refl (everyone n);
      owner_in = single_within_open n o;
      open_over = within_refl (open_at n (everyone n) o);
    }))

pub policy_whole : (a : Label) (o r w : ℕ) → whole_of a ≡ true → whole_of (policy_of a o r w) ≡ true
unfolding policy_of
policy_whole a o r w h =
    whole_intro (policy_of a o r w) (length-set a.readers o (union r (single o)) ∙ (whole_lengths a h).0)
    (length-set a.writers o (union w (single o)) ∙ (whole_lengths a h).1)

-- a policy of the n principals keeps a label effective
policy_fits_lem : (n o r w : ℕ) → o < n → within r (everyone n) ≡ true → within w (everyone n) ≡ true
    → Fits n o (union r (single o)) (union w (single o))
policy_fits_lem n o r w k hr hw =
    record {
      closed_in = rw (closed_principal n o k) (within_union_right r (single o));
      readers_in_lem = union_within r (single o) (everyone n) hr (single_within_everyone o n k);
      owner_in = within_union_right w (single o);
      open_over = rw (open_principal n (everyone n) o k)
          (union_within w (single o) (everyone n) hw (single_within_everyone o n k));
    }

pub policy-effective : (n : ℕ) (a : Label) (o r w : ℕ) → o < n → within r (everyone n) ≡ true
    → within w (everyone n) ≡ true
    → effective n a ≡ true → effective n (policy_of a o r w) ≡ true
unfolding policy_of
policy-effective n a o r w k hr hw h =
    fits_effective n (policy_of a o r w) (policy_whole a o r w (effective_whole n a h)) (λ i l. go i l (ℕ_discrete i o))
  where
    go : (i : ℕ) → i < owners → Dec (i ≡ o)
        → Fits n i (readers_of (policy_of a o r w) i) (writers_of (policy_of a o r w) i)
    go i l (yes e) =
        let (x, y) = whole_lengths a (effective_whole n a h) in
        let u = get_or-set_same a.readers o (union r (single o)) 0 (omega arith) in
        let v = get_or-set_same a.writers o (union w (single o)) 0 (omega arith) in
        rw (e, u, v) (policy_fits_lem n o r w k hr hw)
    go i l (no d) =
        let u = get_or-set_other a.readers o i (union r (single o)) 0 d in
        let v = get_or-set_other a.writers o i (union w (single o)) 0 d in
        rw (u, v) (effective_fits n a h i l)

policies_keep : (n : ℕ) (a : Label) (ps : List Policy) → policies_on n ps ≡ true → effective n a ≡ true
    → effective n (with_policies a ps) ≡ true
unfolding policies_on policy_on with_policies
policies_keep n a [] on h = h
policies_keep n a (policy o r w ∷ ps) on h =
    let p = both_left _ _ on in
    let q = both_right _ _ p in
    policies_keep n (policy_of a o r w) ps (both_right _ _ on)
    (policy-effective n a o r w (ltb-true o n (both_left _ _ p)) (both_left _ _ q) (both_right _ _ q) h)

-- the label of policies that name only the n principals is effective
pub policies_effective : PoliciesEffective
unfolding label_of
policies_effective n ps on = policies_keep n (open_of n (everyone n)) ps on (open_effective n)

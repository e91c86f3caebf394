-- The masks are sets of principals.
use Rattle.sets.specs.Meaning.{MasksAreSets}
use Rattle.sets.proofs.SetLaws.{member_ext, member_union, member-intersection, within_intro, within_elim}
use Rattle.sets.proofs.SetLaws.{meets_intro, meets_elim, member_single, member_single_self, member-everyone}
use Rattle.sets.proofs.SetLaws.{member-restrict}

pub masks_are_sets : MasksAreSets
masks_are_sets =
    record {
      same_members = member_ext;
      union_members = member_union;
      intersection_members = member-intersection;
      within_members = λ x y. (within_elim x y, within_intro x y);
      meets_members = λ x y. (meets_elim x y, λ r. meets_intro x y r.0 r.1 r.2);
      single_members = λ q p. (member_single q p, λ e. rw e (member_single_self p));
      everyone_members = member-everyone;
      restrict_members = member-restrict;
    }

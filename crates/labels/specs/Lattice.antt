-- What the labels of n principals satisfy: the paper's security lattice (section 2.2, lemma 1) with the scope's labels,
-- what the scope says of policies and of the empty group, and what is claimed of both rules of reading (request (g)).
-- The proofs are `security_lattices`, `non_trivial` and `one_label` (proofs/LatticeLaws.antt), `empty_groups`,
-- `closed_below`, `reading_downward`, `reads_below` and `two_rules` (proofs/ReadingLaws.antt) and `policies_effective`
-- (proofs/PolicyLaws.antt).
-- The scope differs from the paper in this: an owner's writers in bottom and in C(A) are {o}, since an owner is always
-- in its own effective sets; an owner without a policy lets everyone write, where the paper has no writers; reading
-- goes by readers and writing by writers, where the paper's text of the two names the other part; and with one
-- principal there is one label only.
use Rattle.std.specs.Prelude.{◌↔◌, ◌≡◌, Bool, true, false, List, ℕ, ◌≤◌, ◌<◌}
use Rattle.logic.specs.Booleans.{both}
use Rattle.sets.specs.Sets.{width, member, single, everyone}
use Rattle.labels.specs.declared.Label.{Label}
use Rattle.labels.specs.declared.Rule.{Rule}
use Rattle.labels.specs.Labels.{owners, Policy, label_of, policies_on, below_of, join_of, confidentiality_of}
use Rattle.labels.specs.Labels.{integrity_of, bottom_of, top_of, reads_pooled_of, writes_of, reads_alone_of}
use Rattle.labels.specs.Labels.{reads_under}
use Rattle.labels.specs.Labels.{effective}

pub record SecurityLattice (n : ℕ) : Type 0 where
  -- the operations keep labels effective
  pub bottom_kept : effective n (bottom_of (everyone n)) ≡ true
  pub top_kept : effective n (top_of n) ≡ true
  pub join_kept : (a b : Label) → effective n a ≡ true → effective n b ≡ true → effective n (join_of a b) ≡ true
  pub confidentiality_kept : (a : Label) → effective n a ≡ true → effective n (confidentiality_of a) ≡ true
  pub integrity_kept : (a : Label) → effective n a ≡ true → effective n (integrity_of (everyone n) a) ≡ true
  -- a bounded order with joins
  pub below_refl : (a : Label) → below_of a a ≡ true
  pub below_trans : (a b c : Label) → below_of a b ≡ true → below_of b c ≡ true → below_of a c ≡ true
  pub below_antisym : (a b : Label) → effective n a ≡ true → effective n b ≡ true → below_of a b ≡ true
      → below_of b a ≡ true → a ≡ b
  pub bottom_least : (a : Label) → effective n a ≡ true → below_of (bottom_of (everyone n)) a ≡ true
  pub top_greatest : (a : Label) → effective n a ≡ true → below_of a (top_of n) ≡ true
  pub join_left : (a b : Label) → below_of a (join_of a b) ≡ true
  pub join_right : (a b : Label) → below_of b (join_of a b) ≡ true
  pub join_least : (a b c : Label) → below_of a c ≡ true → below_of b c ≡ true → below_of (join_of a b) c ≡ true
  -- the six equations on C and I
  pub parts : (a : Label) → effective n a ≡ true → a ≡ join_of (confidentiality_of a) (integrity_of (everyone n) a)
  pub c_of_i : (a : Label) → confidentiality_of (integrity_of (everyone n) a) ≡ bottom_of (everyone n)
  pub i_of_c : (a : Label) → integrity_of (everyone n) (confidentiality_of a) ≡ bottom_of (everyone n)
  pub c_idem : (a : Label) → confidentiality_of (confidentiality_of a) ≡ confidentiality_of a
  pub i_idem : (a : Label) → integrity_of (everyone n) (integrity_of (everyone n) a) ≡ integrity_of (everyone n) a
  pub below_parts : (a b : Label)
      → below_of a b
      ≡ both (below_of (confidentiality_of a) (confidentiality_of b))
      (below_of (integrity_of (everyone n) a) (integrity_of (everyone n) b))
  -- reading by the scope's rule depends on C and goes down (by both rules: ReadingDownward); writing depends on I and
  -- goes up
  pub reads_down : (g : ℕ) (a b : Label) → below_of (confidentiality_of a) (confidentiality_of b) ≡ true
      → reads_pooled_of n g b ≡ true → reads_pooled_of n g a ≡ true
  pub writes_up : (g : ℕ) (a b : Label)
      → below_of (integrity_of (everyone n) a) (integrity_of (everyone n) b) ≡ true → writes_of n g a ≡ true
      → writes_of n g b ≡ true

-- the labels of up to 16 principals are a security lattice (meets, which a finite order with bottom and joins
-- has, are not stated)
abbrev pub SecurityLattices : Type 0
SecurityLattices = (n : ℕ) → n ≤ owners → SecurityLattice n

-- the lattice of two principals or more is not trivial: top is another label than bottom
abbrev pub NonTrivial : Type 0
NonTrivial = (n : ℕ) → 2 ≤ n → ¬ (top_of n ≡ bottom_of (everyone n))

-- one principal has one label
abbrev pub OneLabel : Type 0
OneLabel = (a b : Label) → effective 1 a ≡ true → effective 1 b ≡ true → a ≡ b

-- where there is a principal, the empty group reads nothing by the scope's rule (by both rules: TwoRules), and writes
-- nothing
abbrev pub EmptyGroups : Type 0
EmptyGroups = (n : ℕ) → 1 ≤ n → (a : Label) → (reads_pooled_of n 0 a ≡ false) × (writes_of n 0 a ≡ false)

-- ---- both rules of reading (request (g))

-- Who reads a label reads every label below it: `reads` tells of each label whether he does. Below by readers alone, as
-- C has it and the rule of unpack compares; a label that is below another is so by C.
abbrev pub DownwardClosed : (Label → Bool) → Type 0
DownwardClosed reads =
    (a b : Label) → below_of (confidentiality_of a) (confidentiality_of b) ≡ true → reads b ≡ true → reads a ≡ true

-- so of every label below it in the whole order
abbrev pub ClosedBelow : Type 0
ClosedBelow =
    (reads : Label → Bool) → DownwardClosed reads → (a b : Label) → below_of a b ≡ true → reads b ≡ true
    → reads a ≡ true

-- Every group reads so, by both rules. What the view promises rests on this and on nothing else about reading
-- (simp/ReadingRules).
abbrev pub ReadingDownward : Type 0
ReadingDownward = (rule : Rule) (n : ℕ) → n ≤ owners → (g : ℕ) → DownwardClosed (reads_under rule n g)

-- Request (g)'s own sentence: who reads a label reads every label below it, by both rules, of up to 16 principals.
abbrev pub ReadsBelow : Type 0
ReadsBelow = (rule : Rule) (n : ℕ) → n ≤ owners → (g : ℕ) (a b : Label)
    → below_of a b ≡ true → reads_under rule n g b ≡ true → reads_under rule n g a ≡ true

-- The rules compared.
pub record TwoRules : Type 0 where
  -- a group reads alone exactly if one of its members, as a group of one, reads by the scope's rule
  pub one_reader : (n g : ℕ) (a : Label)
      → (reads_alone_of n g a ≡ true)
      ↔ ((p : ℕ) × (p < width) × (member p g ≡ true) × (reads_pooled_of n (single p) a ≡ true))
  -- so it reads no more than by the scope's rule, and a group of one as much
  pub no_more : (n g : ℕ) (a : Label) → reads_alone_of n g a ≡ true → reads_pooled_of n g a ≡ true
  pub of_one : (n p : ℕ) → p < width → (a : Label) → reads_alone_of n (single p) a ≡ reads_pooled_of n (single p) a
  -- where there is a principal, the empty group reads nothing by either
  pub of_none : (rule : Rule) (n : ℕ) → 1 ≤ n → (a : Label) → reads_under rule n 0 a ≡ false

-- the label of policies that name only the n principals is effective
abbrev pub PoliciesEffective : Type 0
PoliciesEffective = (n : ℕ) (ps : List Policy) → policies_on n ps ≡ true → effective n (label_of n ps) ≡ true

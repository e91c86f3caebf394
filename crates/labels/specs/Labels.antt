-- Labels in effective form (the scope, "Principals and labels"; the paper, section 2.2): for each owner a set of
-- readers and a set of writers. Who reads them, by the scope's rule and by that of request (g).
use Rattle.std.specs.Prelude.{◌≡◌, Bool, true, cond, List, [], ◌∷◌, ℕ, eqb, ltb, length, get_or, replicate, set}
use Rattle.logic.specs.Booleans.{both}
use Rattle.sets.specs.Sets.{width, member, union, intersection, within, meets, single, everyone, every, any, tab}
use Rattle.labels.specs.declared.Label.{Label}
use Rattle.labels.specs.declared.Rule.{Rule}
use Rattle.labels.specs.declared.Rule.TheVariants.{Pooled, Alone}

-- the number of owners that a label has room for
abbrev pub owners : ℕ
owners = width

-- the effective readers and writers of a label for owner o
abbrev pub readers_of : Label → ℕ → ℕ
readers_of a o = get_or a.readers o 0

abbrev pub writers_of : Label → ℕ → ℕ
writers_of a o = get_or a.writers o 0

-- ---- a label from its policies

-- {o} for each owner o
unfoldable pub own : List ℕ
own = tab owners single

-- the writers of an owner without a policy: every principal. A place that has no principal holds {o}, as in bottom
unfoldable pub open_at : ℕ → ℕ → ℕ → ℕ
open_at n all o = cond (ltb o n) all (single o)

-- the label without policies, of n principals, all being the set of them: everyone reads and writes
unfoldable pub open_of : ℕ → ℕ → Label
open_of n all = record { readers = replicate owners all; writers = tab owners (open_at n all) }

-- a label with a policy of owner o: the effective readers are the listed ones and the owner, and the writers likewise
unfoldable pub policy_of : Label → ℕ → ℕ → ℕ → Label
policy_of a o r w =
    record {
      readers = set a.readers o (union r (single o));
      writers = set a.writers o (union w (single o));
    }

-- a policy: owner, listed readers, listed writers
pub data Policy : Type 0 where
  policy : ℕ → ℕ → ℕ → Policy

unfoldable pub with_policies : Label → List Policy → Label
with_policies a [] = a
with_policies a (policy o r w ∷ ps) = with_policies (policy_of a o r w) ps

-- the label of n principals with the given policies
unfoldable pub label_of : ℕ → List Policy → Label
label_of n ps = with_policies (open_of n (everyone n)) ps

-- the policy names only principals below n
unfoldable pub policy_on : ℕ → Policy → Bool
policy_on n (policy o r w) = both (ltb o n) (both (within r (everyone n)) (within w (everyone n)))

unfoldable pub policies_on : ℕ → List Policy → Bool
policies_on n [] = true
policies_on n (p ∷ ps) = both (policy_on n p) (policies_on n ps)

-- ---- the order

-- for owner o, A's readers contain B's, and A's writers lie within B's
unfoldable pub below_at : Label → Label → ℕ → Bool
below_at a b o = both (within (readers_of b o) (readers_of a o)) (within (writers_of a o) (writers_of b o))

-- A is at or below B
unfoldable pub below_of : Label → Label → Bool
below_of a b = every owners (below_at a b)

-- A and B have the same effective sets
unfoldable pub same_at : Label → Label → ℕ → Bool
same_at a b o = both (eqb (readers_of a o) (readers_of b o)) (eqb (writers_of a o) (writers_of b o))

unfoldable pub same_of : Label → Label → Bool
same_of a b = every owners (same_at a b)

-- ---- join, C, I and bottom

-- the join intersects readers and unites writers
unfoldable pub join_of : Label → Label → Label
join_of a b =
    record {
      readers = tab owners (λ (o : ℕ). intersection (readers_of a o) (readers_of b o));
      writers = tab owners (λ (o : ℕ). union (writers_of a o) (writers_of b o));
    }

-- C(A): A's readers, and for each owner o the writers {o}
unfoldable pub confidentiality_of : Label → Label
confidentiality_of a = record { readers = a.readers; writers = own }

-- I(A): A's writers, and all principals as readers
unfoldable pub integrity_of : ℕ → Label → Label
integrity_of all a = record { readers = replicate owners all; writers = a.writers }

-- bottom: all readers, and for each owner o the writers {o}
unfoldable pub bottom_of : ℕ → Label
bottom_of all = record { readers = replicate owners all; writers = own }

-- the readers of an owner that lets nobody else read. A place that has no principal holds everyone, as in bottom
unfoldable pub closed_at : ℕ → ℕ → ℕ
closed_at n o = cond (ltb o n) (single o) (everyone n)

-- top, the most restrictive label of n principals: each owner lets nobody else read, and everyone writes
unfoldable pub top_of : ℕ → Label
top_of n = record { readers = tab owners (closed_at n); writers = tab owners (open_at n (everyone n)) }

-- ---- reading and writing

-- a group reads A by the pooled rule, the scope's: for every owner below n it holds at least one effective reader
unfoldable pub reads_pooled_of : ℕ → ℕ → Label → Bool
reads_pooled_of n g a = every n (λ (o : ℕ). meets g (readers_of a o))

-- a group writes A: likewise over writers
unfoldable pub writes_of : ℕ → ℕ → Label → Bool
writes_of n g a = every n (λ (o : ℕ). meets g (writers_of a o))

-- ---- the rule of reading (request (g)), the enum `Rule` in src/lib.rt: `Pooled`, as above, or `Alone`

-- a group reads A alone: one of its members is by himself an effective reader for every owner below n
unfoldable pub reads_alone_of : ℕ → ℕ → Label → Bool
reads_alone_of n g a = any width (λ (p : ℕ). both (member p g) (every n (λ (o : ℕ). member p (readers_of a o))))

-- a group reads A, by the rule
unfoldable pub reads_under : Rule → ℕ → ℕ → Label → Bool
reads_under Pooled n g a = reads_pooled_of n g a
reads_under Alone n g a = reads_alone_of n g a

-- ---- effective labels

-- a place for each owner and no more
unfoldable pub whole_of : Label → Bool
whole_of a = both (eqb (length a.readers) owners) (eqb (length a.writers) owners)

-- what a label of n principals satisfies: between bottom and top, so that each of the n owners is in its own sets, and
-- only the n principals are; a place that has no principal is as in bottom
unfoldable pub effective : ℕ → Label → Bool
effective n a = both (whole_of a) (both (below_of (bottom_of (everyone n)) a) (below_of a (top_of n)))

-- a label, with the fact that it is effective for n principals
pub record EffectiveLabel (n : ℕ) : Type 0 where
  pub raw : Label
  pub ok : effective n raw ≡ true

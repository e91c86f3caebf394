-- A sheet (the scope, "The three texts", and requests (f) and (g)): its lines, what the numbers on it name, and what it
-- must satisfy.
use Rattle.std.specs.Prelude.{Bool, true, false, List, [], ◌∷◌, ◌++◌, map, ℕ, suc, ◌+◌, ◌^◌, eqb, leb, ltb, length}
use Rattle.std.specs.Prelude.{get_or}
use Rattle.logic.specs.Booleans.{both, either}
use Rattle.sets.specs.Sets.{everyone}
use Rattle.labels.specs.Labels.{Policy, policy, label_of, bottom_of, same_of}
use Rattle.labels.specs.declared.Label.{Label}
use Rattle.labels.specs.declared.Rule.{Rule}
use Rattle.sheet.specs.declared.Kind.{Kind}
use Rattle.sheet.specs.declared.Kind.TheVariants.{Sum, Pair}
use Rattle.language.specs.Syntax.{Ty, t_int, t_err, t_pkg, t_sum, t_pair}

-- A compound type: a line `T a b`, the sum of the types a and b, or a line `Q a b`, the pair with a for its first part
-- and b for its second. `kind` is `Sum` or `Pair`, of the enum `Kind` in src/lib.rt.
pub record Compound : Type 0 where
  pub kind : Kind
  pub left : ℕ
  pub right : ℕ

-- A line `X type label`: a location.
pub record Location : Type 0 where
  pub type : ℕ
  pub label : ℕ

-- `P n`, the rule of reading, which is `Alone` with the line `R 1` and `Pooled` without it, the `T` and `Q` lines, the
-- labels as `L` with the policies of its `O` lines, the `X` lines.
pub record Sheet : Type 0 where
  pub principals : ℕ
  pub rule : Rule
  pub compounds : List Compound
  pub labels : List (List Policy)
  pub locations : List Location

-- ---- types: 0 to 4 are given, int, error, pkg, int+int, pkg+error; `T` and `Q` make the sum and the pair of two
-- earlier types, numbered together from 5 on in the order of the lines

unfoldable pub given_types : List Ty
given_types = t_int ∷ t_err ∷ t_pkg ∷ t_sum t_int t_int ∷ t_sum t_pkg t_err ∷ []

-- the sum or the pair of two types
unfoldable pub compound_of : Kind → Ty → Ty → Ty
compound_of Sum a b = t_sum a b
compound_of Pair a b = t_pair a b

-- the types after further sums and pairs, each of two earlier ones
unfoldable pub types_from : List Ty → List Compound → List Ty
types_from ts [] = ts
types_from ts (c ∷ cs) =
    types_from (ts ++ (compound_of c.kind (get_or ts c.left t_int) (get_or ts c.right t_int) ∷ [])) cs

-- the type that a number names; int for a number that names none
unfoldable pub ty_of : Sheet → ℕ → Ty
ty_of s t = get_or (types_from given_types s.compounds) t t_int

-- the given types, and the sums and pairs
unfoldable pub type_count : Sheet → ℕ
type_count s = 5 + length s.compounds

-- ---- labels and locations count from 0

-- the sheet's labels in effective form
unfoldable pub labels_of : Sheet → List Label
labels_of s = map (label_of s.principals) s.labels

-- the label that a number names; bottom for a number that names none
unfoldable pub label_no : Sheet → ℕ → Label
label_no s l = get_or (labels_of s) l (bottom_of (everyone s.principals))

unfoldable pub label_count : Sheet → ℕ
label_count s = length s.labels

unfoldable pub location_no : Sheet → ℕ → Location
location_no s x = get_or s.locations x (record { type = 0; label = 0 })

unfoldable pub location_count : Sheet → ℕ
location_count s = length s.locations

-- ---- the form (refusal 1): bounds, and names that are there

-- each sum and each pair is of types before it, the first being number k
unfoldable pub earlier_types : ℕ → List Compound → Bool
earlier_types k [] = true
earlier_types k (c ∷ cs) = both (both (ltb c.left k) (ltb c.right k)) (earlier_types (suc k) cs)

-- owners rise from `from` and are among n principals, as the sets are
unfoldable pub rising : ℕ → ℕ → List Policy → Bool
rising n from [] = true
rising n from (policy o r w ∷ ps) =
    both (both (leb from o) (ltb o n)) (both (both (ltb r (2 ^ n)) (ltb w (2 ^ n))) (rising n (suc o) ps))

unfoldable pub each_rising : ℕ → List (List Policy) → Bool
each_rising n [] = true
each_rising n (ps ∷ pss) = both (rising n 0 ps) (each_rising n pss)

-- each location's type and label are there
unfoldable pub each_named : ℕ → ℕ → List Location → Bool
each_named types labels [] = true
each_named types labels (x ∷ xs) = both (both (ltb x.type types) (ltb x.label labels)) (each_named types labels xs)

abbrev pub max_principals : ℕ
max_principals = 16

-- sums and pairs together
abbrev pub max_compounds : ℕ
max_compounds = 27

abbrev pub max_labels : ℕ
max_labels = 32

abbrev pub max_locations : ℕ
max_locations = 64

unfoldable pub formed : Sheet → Bool
formed s =
    both (both (leb 1 s.principals) (leb s.principals max_principals))
    (both (both (leb (length s.compounds) max_compounds) (earlier_types 5 s.compounds))
    (both (both (leb (length s.labels) max_labels) (each_rising s.principals s.labels))
    (both (leb (length s.locations) max_locations) (each_named (type_count s) (label_count s) s.locations))))

-- ---- repeats (refusal 2)

-- x is among the list's elements, by the test same
unfoldable pub among : {A : Type 0} → (A → A → Bool) → A → List A → Bool
among same x [] = false
among same x (y ∷ ys) = either (same x y) (among same x ys)

-- an element comes again later in the list
unfoldable pub repeated : {A : Type 0} → (A → A → Bool) → List A → Bool
repeated same [] = false
repeated same (x ∷ xs) = either (among same x xs) (repeated same xs)

unfoldable pub same_kind : Kind → Kind → Bool
same_kind Sum Sum = true
same_kind Sum Pair = false
same_kind Pair Sum = false
same_kind Pair Pair = true

-- of one kind, with the same parts
unfoldable pub same_compound : Compound → Compound → Bool
same_compound a b = both (same_kind a.kind b.kind) (both (eqb a.left b.left) (eqb a.right b.right))

-- the given sums, types 3 and 4; no pair is given
abbrev pub given_sums : List Compound
given_sums = record { kind = Sum; left = 0; right = 0 } ∷ record { kind = Sum; left = 2; right = 1 } ∷ []

-- two types of one kind with the same parts, or two labels with the same effective sets
unfoldable pub repeats : Sheet → Bool
repeats s = either (repeated same_compound (given_sums ++ s.compounds)) (repeated same_of (labels_of s))

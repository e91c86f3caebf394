-- Typing by the numbers of types and with the labels that a table holds: what the code computes.
use Rattle.std.specs.Prelude.{Bool, true, false, List, ◌∷◌, ℕ, eqb}
use Rattle.std.proofs.Math.Option.{Option, none, some}
use Rattle.labels.specs.declared.Label.{Label}
use Rattle.labels.specs.Labels.{below_of, join_of, confidentiality_of, integrity_of, bottom_of}
use Rattle.logic.specs.Booleans.{both}
use Rattle.language.specs.Syntax.{Part, pick, Expr, val, loc, var, plus, left, right, pack, unpack, pairing, proj, Cmd}
use Rattle.language.specs.Syntax.{skip, seq, assign, while, case}
use Rattle.language.specs.Declarations.{nth}
use Rattle.language.specs.Typing.{Conditions}
use Rattle.sheet.specs.Internal.TypeTest.{is_sum, is_pair}
use Rattle.sheet.specs.Internal.Tables.{everyone_in, left_in, right_in, type_in, home_in, label_in}
use Rattle.sets.specs.Sets.{union}
use Rattle.members.specs.Internal.Members.{label_member, integrity_member, join_in, whole_flows}

-- o is the type number n
unfoldable pub is_no : ℕ → Option ℕ → Bool
is_no n none = false
is_no n (some m) = eqb n m

-- o is some type number
unfoldable pub some_no : Option ℕ → Bool
some_no none = false
some_no (some m) = true

-- n is a sum with the type o on its left
unfoldable pub left_is_no : List ℕ → ℕ → Option ℕ → Bool
left_is_no t n o = both (is_sum t n) (is_no (left_in t n) o)

-- n is a sum with the type o on its right
unfoldable pub right_is_no : List ℕ → ℕ → Option ℕ → Bool
right_is_no t n o = both (is_sum t n) (is_no (right_in t n) o)

-- o is a sum, and its parts pass the test k
unfoldable pub on_sum_no : List ℕ → Option ℕ → (ℕ → ℕ → Bool) → Bool
on_sum_no t none k = false
on_sum_no t (some n) k = both (is_sum t n) (k (left_in t n) (right_in t n))

-- n, if the test passes
unfoldable pub given_no : Bool → ℕ → Option ℕ
given_no true n = some n
given_no false n = none

-- n is the pair of the types o₁ and o₂
unfoldable pub pair_is_no : List ℕ → ℕ → Option ℕ → Option ℕ → Bool
pair_is_no t n o₁ o₂ = both (is_pair t n) (both (is_no (left_in t n) o₁) (is_no (right_in t n) o₂))

-- the type of a part, if o is a pair
unfoldable pub part_no : List ℕ → Part → Option ℕ → Option ℕ
part_no t p none = none
part_no t p (some n) = given_no (is_pair t n) (pick p (left_in t n) (right_in t n))

-- The number of an expression's type, if it has one; Γ holds the numbers of the types that enclosing cases bind,
-- innermost first. A script's only literals are integers.
unfoldable pub type_no : List ℕ → List ℕ → Expr → Option ℕ
type_no t Γ (val v) = some 0
type_no t Γ (loc x) = some (type_in t x)
type_no t Γ (var d) = nth Γ d
type_no t Γ (plus a b) = given_no (both (is_no 0 (type_no t Γ a)) (is_no 0 (type_no t Γ b))) 0
type_no t Γ (left n a) = given_no (left_is_no t n (type_no t Γ a)) n
type_no t Γ (right n a) = given_no (right_is_no t n (type_no t Γ a)) n
type_no t Γ (pack l a) = given_no (some_no (type_no t Γ a)) 4
type_no t Γ (unpack n l a) = given_no (both (is_no 2 (type_no t Γ a)) (right_is_no t n (some 1))) n
type_no t Γ (pairing n a b) = given_no (pair_is_no t n (type_no t Γ a) (type_no t Γ b)) n
type_no t Γ (proj p a) = part_no t p (type_no t Γ a)

-- Whether a command passes with every label condition struck out.
unfoldable pub shape_no : List ℕ → List ℕ → Cmd → Bool
shape_no t Γ skip = true
shape_no t Γ (seq a b) = both (shape_no t Γ a) (shape_no t Γ b)
shape_no t Γ (assign x e) = is_no (type_in t x) (type_no t Γ e)
shape_no t Γ (while e c) = both (is_no 3 (type_no t Γ e)) (shape_no t Γ c)
shape_no t Γ (case e a b) = on_sum_no t (type_no t Γ e) (λ m n. both (shape_no t (m ∷ Γ) a) (shape_no t (n ∷ Γ) b))

-- The scope's label conditions over the labels of a table.
abbrev pub conditions_in : List ℕ → Conditions Label
conditions_in t = record {
  home = λ x. label_in t (home_in t x);
  bot = bottom_of (everyone_in t);
  join = join_of;
  may_assign = λ x a. below_of a (label_in t (home_in t x));
  pack_label = λ A a. integrity_of (everyone_in t) (label_in t A);
  may_pack = λ A a. below_of a (label_in t A);
  unpack_label = λ A a. label_in t A;
  may_unpack = λ A a. below_of (confidentiality_of a) (confidentiality_of (label_in t A));
}

-- The same over sets of members: least labels are sets, and a test goes by the label that a set stands for.
abbrev pub conditions_on : List ℕ → Conditions ℕ
conditions_on t = record {
  home = λ x. label_member (home_in t x);
  bot = 0;
  join = union;
  may_assign = λ x a. below_of (join_in t a) (label_in t (home_in t x));
  pack_label = λ A a. integrity_member A;
  may_pack = λ A a. below_of (join_in t a) (label_in t A);
  unpack_label = λ A a. label_member A;
  may_unpack = λ A a. below_of (confidentiality_of (join_in t a)) (confidentiality_of (label_in t A));
}

-- The join of the members is at or below label l: what trust-keeping asks of an unpack.
abbrev pub below_on : List ℕ → ℕ → ℕ → Bool
below_on t l a = whole_flows t a l

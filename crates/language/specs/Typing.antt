-- The scope's section "Typing", with pairs (request (f)): types and least labels as functions.
use Rattle.std.specs.Prelude.{Bool, true, false, cond, List, [], ◌∷◌, ℕ}
use Rattle.std.proofs.Math.Option.{Option, none, some}
use Rattle.logic.specs.Booleans.{both}
use Rattle.language.specs.Syntax.{Ty, t_int, t_err, t_pkg, t_sum, t_pair, Ty-discrete, Value, int, err, inl, inr}
use Rattle.language.specs.Syntax.{pkg, pair, blank, Part, pick, Expr, val, loc, var, plus, left, right, pack}
use Rattle.language.specs.Syntax.{unpack, pairing, proj, Cmd, skip, seq, assign, while, case, Script}
use Rattle.language.specs.Labels.{Labels}
use Rattle.language.specs.Declarations.{Shapes, Declarations, start_of, nth}

unfoldable pub or_else : {L : Type 0} → L → Option L → L
or_else b none = b
or_else b (some a) = a

-- Types

unfoldable pub is_yes : {P : Type 0} → Dec P → Bool
is_yes (yes p) = true
is_yes (no n) = false

unfoldable pub same_ty : Ty → Ty → Bool
same_ty a b = is_yes (Ty-discrete a b)

-- o is the type t
unfoldable pub is_ty : Ty → Option Ty → Bool
is_ty t none = false
is_ty t (some s) = same_ty t s

-- o is some type
unfoldable pub has_ty : Option Ty → Bool
has_ty none = false
has_ty (some s) = true

-- t is a sum with the type o on its left
unfoldable pub left_is : Ty → Option Ty → Bool
left_is t_int o = false
left_is t_err o = false
left_is t_pkg o = false
left_is (t_sum a b) o = is_ty a o
left_is (t_pair a b) o = false

-- t is a sum with the type o on its right
unfoldable pub right_is : Ty → Option Ty → Bool
right_is t_int o = false
right_is t_err o = false
right_is t_pkg o = false
right_is (t_sum a b) o = is_ty b o
right_is (t_pair a b) o = false

-- o is a sum, and its parts pass the test k
unfoldable pub on_sum : Option Ty → (Ty → Ty → Bool) → Bool
on_sum none k = false
on_sum (some t_int) k = false
on_sum (some t_err) k = false
on_sum (some t_pkg) k = false
on_sum (some (t_sum a b)) k = k a b
on_sum (some (t_pair a b)) k = false

-- t is the pair of the types o₁ and o₂
unfoldable pub pair_is : Ty → Option Ty → Option Ty → Bool
pair_is t_int o₁ o₂ = false
pair_is t_err o₁ o₂ = false
pair_is t_pkg o₁ o₂ = false
pair_is (t_sum a b) o₁ o₂ = false
pair_is (t_pair a b) o₁ o₂ = both (is_ty a o₁) (is_ty b o₂)

-- the type of a part, if o is a pair
unfoldable pub part_ty : Part → Option Ty → Option Ty
part_ty p none = none
part_ty p (some t_int) = none
part_ty p (some t_err) = none
part_ty p (some t_pkg) = none
part_ty p (some (t_sum a b)) = none
part_ty p (some (t_pair a b)) = some (pick p a b)

-- t, if the test passes
unfoldable pub given : Bool → Ty → Option Ty
given true t = some t
given false t = none

-- a script's literals are integers; a package or another value has no type as a literal
unfoldable pub type_of_value : Value → Option Ty
type_of_value (int n) = some t_int
type_of_value (err e) = none
type_of_value (inl v) = none
type_of_value (inr v) = none
type_of_value (pkg h v) = none
type_of_value (pair v w) = none
type_of_value blank = none

-- The type of an expression, if it has one; Γ holds the types that enclosing cases bind, innermost first.
unfoldable pub type_of : Shapes → List Ty → Expr → Option Ty
type_of S Γ (val v) = type_of_value v
type_of S Γ (loc x) = some (S.loc_ty x)
type_of S Γ (var d) = nth Γ d
type_of S Γ (plus a b) = given (both (is_ty t_int (type_of S Γ a)) (is_ty t_int (type_of S Γ b))) t_int
type_of S Γ (left t a) = given (left_is (S.ty t) (type_of S Γ a)) (S.ty t)
type_of S Γ (right t a) = given (right_is (S.ty t) (type_of S Γ a)) (S.ty t)
type_of S Γ (pack l a) = given (has_ty (type_of S Γ a)) (t_sum t_pkg t_err)
type_of S Γ (unpack t l a) = given (both (is_ty t_pkg (type_of S Γ a)) (right_is (S.ty t) (some t_err))) (S.ty t)
type_of S Γ (pairing t a b) = given (pair_is (S.ty t) (type_of S Γ a) (type_of S Γ b)) (S.ty t)
type_of S Γ (proj p a) = part_ty p (type_of S Γ a)

-- Whether a command passes with every label condition struck out: the scope's number 5 if not. A guard is int+int.
unfoldable pub shape : Shapes → List Ty → Cmd → Bool
shape S Γ skip = true
shape S Γ (seq a b) = both (shape S Γ a) (shape S Γ b)
shape S Γ (assign x e) = is_ty (S.loc_ty x) (type_of S Γ e)
shape S Γ (while e c) = both (is_ty (t_sum t_int t_int) (type_of S Γ e)) (shape S Γ c)
shape S Γ (case e a b) = on_sum (type_of S Γ e) (λ s t. both (shape S (s ∷ Γ) a) (shape S (t ∷ Γ) b))

-- Labels

-- What the label conditions rest on: a location's label; bottom and the join; whether a label allows an assignment to a
-- location; for a pack and an unpack at a label number, the label that it has from its operand's, and whether the
-- operand's allows it.
pub record Conditions (L : Type 0) : Type 0 where
  pub home : ℕ → L
  pub bot : L
  pub join : L → L → L
  pub may_assign : ℕ → L → Bool
  pub pack_label : ℕ → L → L
  pub may_pack : ℕ → L → Bool
  pub unpack_label : ℕ → L → L
  pub may_unpack : ℕ → L → Bool

-- The least label of an expression; Γ holds the labels of the enclosing cases' expressions, innermost first.
unfoldable pub least : {L : Type 0} → Conditions L → List L → Expr → L
least K Γ (val v) = K.bot
least K Γ (loc x) = K.home x
least K Γ (var d) = or_else K.bot (nth Γ d)
least K Γ (plus a b) = K.join (least K Γ a) (least K Γ b)
least K Γ (left t a) = least K Γ a
least K Γ (right t a) = least K Γ a
least K Γ (pack l a) = K.pack_label l (least K Γ a)
least K Γ (unpack t l a) = K.unpack_label l (least K Γ a)
least K Γ (pairing t a b) = K.join (least K Γ a) (least K Γ b)
least K Γ (proj p a) = least K Γ a

-- Whether the label conditions in an expression hold.
unfoldable pub flow_e : {L : Type 0} → Conditions L → List L → Expr → Bool
flow_e K Γ (val v) = true
flow_e K Γ (loc x) = true
flow_e K Γ (var d) = true
flow_e K Γ (plus a b) = both (flow_e K Γ a) (flow_e K Γ b)
flow_e K Γ (left t a) = flow_e K Γ a
flow_e K Γ (right t a) = flow_e K Γ a
flow_e K Γ (pack l a) = both (flow_e K Γ a) (K.may_pack l (least K Γ a))
flow_e K Γ (unpack t l a) = both (flow_e K Γ a) (K.may_unpack l (least K Γ a))
flow_e K Γ (pairing t a b) = both (flow_e K Γ a) (flow_e K Γ b)
flow_e K Γ (proj p a) = flow_e K Γ a

-- Whether the label conditions in a command hold below the surrounding label pc, which is joined with the guard's label
-- in the body of a loop and in the branches of a case.
unfoldable pub flow : {L : Type 0} → Conditions L → L → List L → Cmd → Bool
flow K pc Γ skip = true
flow K pc Γ (seq a b) = both (flow K pc Γ a) (flow K pc Γ b)
flow K pc Γ (assign x e) = both (flow_e K Γ e) (both (K.may_assign x (least K Γ e)) (K.may_assign x pc))
flow K pc Γ (while e c) = both (flow_e K Γ e) (flow K (K.join pc (least K Γ e)) Γ c)
flow K pc Γ (case e a b) =
    let l = least K Γ e in
    both (flow_e K Γ e) (both (flow K (K.join pc l) (l ∷ Γ) a) (flow K (K.join pc l) (l ∷ Γ) b))

-- The scope's label conditions: `k A` needs its operand at or below A and has I(A); `u t A` needs C(operand) at or
-- below C(A) and has A.
abbrev pub conditions : {L : Type 0} → Labels L → Declarations L → Conditions L
conditions 𝓛 D = record {
  home = D.home;
  bot = 𝓛.bot;
  join = 𝓛.join;
  may_assign = λ x a. 𝓛.leq a (D.home x);
  pack_label = λ A a. 𝓛.integ (D.label A);
  may_pack = λ A a. 𝓛.leq a (D.label A);
  unpack_label = λ A a. D.label A;
  may_unpack = λ A a. 𝓛.leq (𝓛.conf a) (𝓛.conf (D.label A));
}

-- The scope's number for a script whose form is right, with its starting label for the surrounding one: 0, 5 or 6.
unfoldable pub refusal : {L : Type 0} → Labels L → Declarations L → Script → ℕ
refusal 𝓛 D p =
    let c = p.command in
    cond (shape D.shapes [] c) (cond (flow (conditions 𝓛 D) (start_of 𝓛 D p.opening.start) [] c) 0 6) 5

-- Laws of the truth values: their cases, when two are equal, `both` and `either`.
use mathlib.Core.Path.{◌≡◌, refl, sym, ap, ◌∙◌, subst}
use mathlib.Core.Bool.{Bool, true, false, not, cond}
use lib.Dec.{T}
use Rattle.logic.specs.Booleans.{both, either}

pub absurd_false : false ≡ true → ⊥
absurd_false p = subst T (sym p) tt

pub T_of : {b : Bool} → b ≡ true → T b
T_of e = rw e tt

-- two truth values that imply each other are equal
pub bool_ext : (x y : Bool) → (x ≡ true → y ≡ true) → (y ≡ true → x ≡ true) → x ≡ y
bool_ext true y f g = sym (f refl)
bool_ext false true f g = g refl
bool_ext false false f g = refl

-- what is not true is false
pub not_so : (x : Bool) → (x ≡ true → ⊥) → x ≡ false
not_so true h = absurd (h refl)
not_so false h = refl

-- where x implies y, what isn't y isn't x
pub not_down : (x y : Bool) → (x ≡ true → y ≡ true) → not y ≡ true → not x ≡ true
not_down true y h n = absurd (absurd_false (sym (ap not (h refl)) ∙ n))
not_down false y h n = refl

-- what is false is not true
pub fails : {x : Bool} → x ≡ false → ¬ (x ≡ true)
fails f t = absurd_false (sym f ∙ t)

-- the two cases of a test
pub cases : {P : Type 0} (c : Bool) → (c ≡ true → P) → (c ≡ false → P) → P
cases true f g = f refl
cases false f g = g refl

-- the two cases of a choice that is x
pub cond_split : {A P : Type 0} (c : Bool) (a b x : A) → (c ≡ true → a ≡ x → P) → (c ≡ false → b ≡ x → P)
    → cond c a b ≡ x → P
cond_split true a b x f g e = f refl e
cond_split false a b x f g e = g refl e

-- ---- both
pub both_true : {a b : Bool} → a ≡ true → b ≡ true → both a b ≡ true
unfolding both
both_true {a} {b} p q = rw (p, q) refl

pub both_left : (a b : Bool) → both a b ≡ true → a ≡ true
unfolding both
both_left true b p = refl
both_left false b p = p

pub both_right : (a b : Bool) → both a b ≡ true → b ≡ true
unfolding both
both_right true b p = p
both_right false b p = absurd (absurd_false p)

pub both_no_left : (a b : Bool) → a ≡ false → both a b ≡ false
unfolding both
both_no_left a b p = rw p

pub both_yes_left : (a b : Bool) → a ≡ true → both a b ≡ b
unfolding both
both_yes_left a b p = rw p

-- a first test that passes leaves the second; one that fails settles both
pub both_on : (a b : Bool) → a ≡ true → b ≡ both a b
both_on a b e = sym (both_yes_left a b e)

pub both_off : (a b : Bool) → a ≡ false → false ≡ both a b
both_off a b e = sym (both_no_left a b e)

both_false_right : (a : Bool) → both a false ≡ false
unfolding both
both_false_right true = refl
both_false_right false = refl

pub both_no_right : (a b : Bool) → b ≡ false → both a b ≡ false
both_no_right a b p = rw p (both_false_right a)

-- a test that the first implies adds nothing
pub both_implied : (a b : Bool) → (a ≡ true → b ≡ true) → both a b ≡ a
unfolding both
both_implied true b h = h refl
both_implied false b h = refl

pub both_assoc : (a b c : Bool) → both a (both b c) ≡ both (both a b) c
unfolding both
both_assoc true b c = refl
both_assoc false b c = refl

-- the second test and the third in the other order
pub both_last : (a b c : Bool) → both (both a b) c ≡ both (both a c) b
unfolding both
both_last true true c = sym (both_implied c true (λ h. refl))
both_last true false c = sym (both_false_right c)
both_last false b c = refl

-- two pairs of tests: the first of each, then the second of each
pub both_exchange : (a b c d : Bool) → both (both a b) (both c d) ≡ both (both a c) (both b d)
unfolding both
both_exchange true true c d = refl
both_exchange true false c d = sym (both_false_right c)
both_exchange false b c d = refl

-- ---- either
pub either_left : (a b : Bool) → a ≡ true → either a b ≡ true
unfolding either
either_left a b e = rw e

pub either_right : (a b : Bool) → b ≡ true → either a b ≡ true
unfolding either
either_right true b e = refl
either_right false b e = e

pub either_case : (a b c : Bool) → (a ≡ true → c ≡ true) → (b ≡ true → c ≡ true) → either a b ≡ true → c ≡ true
unfolding either
either_case true b c f g e = f refl
either_case false b c f g e = g e

-- The results of evaluation by cases: a value that is made is kept if it is not too long; sums, opened packages, parts
-- and branches.
use mathlib.Core.Path.{◌≡◌, refl}
use mathlib.Core.Bool.{Bool, true, false, not, false≢true}
use Prim.Native.Nat.{ℕ, ◌+◌, ◌%◌, ◌^◌, ◌≤◌, ◌<◌}
use native.Mathlib.Omega.{arith}
use lib.Dec.{leb, leb→le, nleb→lt, T}
use Rattle.logic.specs.Booleans.{both}
use Rattle.language.specs.Syntax.{Ty, t_int, t_pkg, t_sum, t_pair, Head, Value, int, err, inl, inr, pkg, pair}
use Rattle.language.specs.Syntax.{blank, Part, pick, size, has}
use Rattle.language.specs.World.{World, cell_words, wanted}
use Rattle.language.specs.Evaluation.{Res, ok, long, stuck, bind, fit_if, fit, add, add_to, opened, unpacked}
use Rattle.language.specs.Evaluation.{part_of}
use Rattle.language.specs.Transition.{branch, branch_v}
use Rattle.logic.proofs.BooleanLaws.{T_of}

T_not : {b : Bool} → b ≡ false → T (not b)
T_not e = rw e tt

-- what holds of a value that fits and of too long holds of `fit`
pub by_fit : (P : Res → Type 0) (v : Value) → (size v ≤ cell_words → P (ok v))
    → (cell_words < size v → P long) → P (fit v)
unfolding fit fit_if
by_fit P v f g = on (leb (size v) cell_words) refl
  where
    on : (b : Bool) → leb (size v) cell_words ≡ b → P (fit_if b v)
    on true e = f (leb→le (size v) cell_words (T_of e))
    on false e = g (nleb→lt (size v) cell_words (T_not e))

-- P holds of the value, if there is one; X, if no rule applies
abbrev pub ResultHolds : (Value → Type 0) → Type 0 → Res → Type 0
ResultHolds P X (ok v) = P v
ResultHolds P X long = Unit {0}
ResultHolds P X stuck = X

pub holds_bind : (P Q : Value → Type 0) (X : Type 0) (r : Res) (f : Value → Res) → ResultHolds P X r
    → ((v : Value) → P v → ResultHolds Q X (f v))
    → ResultHolds Q X (bind r f)
unfolding bind
holds_bind P Q X (ok v) f h k = k v h
holds_bind P Q X long f h k = tt
holds_bind P Q X stuck f h k = h

-- where a bind has a value, both parts have
pub bind_ok : (r : Res) (f : Value → Res) (w : Value) → bind r f ≡ ok w → (v : Value) × (r ≡ ok v) × (f v ≡ ok w)
unfolding bind
bind_ok (ok v) f w h = (v, refl, h)
bind_ok long f w h = absurd (let z : ◌≡◌ {A = ℕ} 0 1 = cc in omega arith)
bind_ok stuck f w h = absurd (let z : ◌≡◌ {A = ℕ} 0 1 = cc in omega arith)

-- the result is a value of the type t, or too long
abbrev pub Good : Ty → Res → Type 0
Good t r = ResultHolds (λ v. has v t ≡ true) ⊥ r

-- integers have a sum, other values have none
pub by_add : (P : Value → Value → Res → Type 0) → ((m n : ℕ) → P (int m) (int n) (fit (int ((m + n) % 2 ^ 32))))
    → ((v w : Value) → both (has v t_int) (has w t_int) ≡ false → P v w stuck) → (v w : Value) → P v w (add v w)
unfolding add add_to has both
by_add P f g (int m) (int n) = f m n
by_add P f g (int m) (err n) = g _ _ refl
by_add P f g (int m) (inl v) = g _ _ refl
by_add P f g (int m) (inr v) = g _ _ refl
by_add P f g (int m) (pkg h v) = g _ _ refl
by_add P f g (int m) (pair v w) = g _ _ refl
by_add P f g (int m) blank = g _ _ refl
by_add P f g (err m) w = g _ _ refl
by_add P f g (inl v) w = g _ _ refl
by_add P f g (inr v) w = g _ _ refl
by_add P f g (pkg h v) w = g _ _ refl
by_add P f g (pair u v) w = g _ _ refl
by_add P f g blank w = g _ _ refl

-- packages are opened, other values are not
pub by_unpacked : (P : Value → Res → Type 0) (W : World) (t l : ℕ)
    → ((h : Head) (v : Value) → P (pkg h v) (opened (W.reads l) (W.below h.label l) (has v (wanted (W.ty t))) v))
    → ((v : Value) → has v t_pkg ≡ false → P v stuck) → (v : Value) → P v (unpacked W t l v)
unfolding unpacked has
by_unpacked P W t l f g (int n) = g _ refl
by_unpacked P W t l f g (err n) = g _ refl
by_unpacked P W t l f g (inl v) = g _ refl
by_unpacked P W t l f g (inr v) = g _ refl
by_unpacked P W t l f g (pkg h v) = f h v
by_unpacked P W t l f g (pair v w) = g _ refl
by_unpacked P W t l f g blank = g _ refl

-- pairs have parts, other values have none
pub by_part : (P : Value → Res → Type 0) (p : Part) → ((v w : Value) → P (pair v w) (ok (pick p v w)))
    → ((v : Value) → ((a b : Ty) → has v (t_pair a b) ≡ false) → P v stuck) → (v : Value) → P v (part_of p v)
unfolding part_of has
by_part P p f g (int n) = g _ (λ a b. refl)
by_part P p f g (err n) = g _ (λ a b. refl)
by_part P p f g (inl v) = g _ (λ a b. refl)
by_part P p f g (inr v) = g _ (λ a b. refl)
by_part P p f g (pkg h v) = g _ (λ a b. refl)
by_part P p f g (pair v w) = f v w
by_part P p f g blank = g _ (λ a b. refl)

-- left and right go their ways, too long its own, and what is no value of a sum type the last
pub by_branch : {A : Type 0} (P : Res → A → Type 0) {l r : Value → A} {o n : A} → ((v : Value) → P (ok (inl v)) (l v))
    → ((v : Value) → P (ok (inr v)) (r v)) → P long o
    → ((s : Res) → ((a b : Ty) → ¬ Good (t_sum a b) s)
    → ((B : Type 0) (f g : Value → B) (p q : B) → branch f g p q s ≡ q) → P s n)
    → (s : Res) → P s (branch l r o n s)
unfolding branch branch_v has
by_branch P f g h k (ok (int i)) = k _ (λ a b e. false≢true e) λ B f g p q. refl
by_branch P f g h k (ok (err i)) = k _ (λ a b e. false≢true e) λ B f g p q. refl
by_branch P f g h k (ok (inl v)) = f v
by_branch P f g h k (ok (inr v)) = g v
by_branch P f g h k (ok (pkg i v)) = k _ (λ a b e. false≢true e) λ B f g p q. refl
by_branch P f g h k (ok (pair v w)) = k _ (λ a b e. false≢true e) λ B f g p q. refl
by_branch P f g h k (ok blank) = k _ (λ a b e. false≢true e) λ B f g p q. refl
by_branch P f g h k long = h
by_branch P f g h k stuck = k _ (λ a b e. e) λ B f g p q. refl

-- Masks against sets of principals: what union, intersection, containment, {p} and the first n principals have as
-- members. No law names a width.
use mathlib.Core.Path.{◌≡◌, refl, sym, ap, ap₂, ◌∙◌, subst}
use mathlib.Core.Bool.{Bool, true, false, not, cond}
use Prim.Native.Nat.{ℕ, zero, suc, ◌+◌, ◌*◌, ◌/◌, ◌%◌, ◌^◌, ◌<◌, ◌≤◌, ◌-◌, min, max}
use native.Mathlib.Nat.{div-eq_of_lt, one-mul, zero-div, mod-lt, mod-eq_of_lt, zero-lt-suc, div-add-mod', div-one}
use native.Mathlib.Nat.{lt_of_lt_of_le, le_of_suc-le-suc, not-suc-le-zero}
use native.Mathlib.Omega.{arith}
use native.Mathlib.Numerals.{one-add, add-one}
use lib.Arith.{bin_ind, half_le, digits_mod}
use lib.Bits.{bit_and, bit_or, bit_xor, differ, and_step, or_step, xor_step, and_shr, or_shr, xor_shr, and_mask}
use lib.Bits.{and_le_r}
use lib.Bits.{and_comm, xor_add_and, block_odd, block_half}
use lib.Pow.{shr-shr, shl_exact, high, split, ones_split, ones_lt, pow-lt, pow_mono, pow_pos}
use lib.Dec.{eqb, ltb, lit<}
use borrow.Author.Tests.{eqb-true, eqb-false, eq-eqb, ne_eqb, not-true, lt-ltb, le-ltb, ltb-true}
use Rattle.logic.specs.Booleans.{both, either}
use Rattle.logic.proofs.BooleanLaws.{absurd_false, bool_ext, fails, both_implied, both_left, both_right, both_true}
use Rattle.logic.proofs.BooleanLaws.{either_case, either_left, either_right, not_so}
use Rattle.sets.proofs.Walks.{by_below}
use Rattle.sets.specs.Sets.{member, union, intersection, within, meets, single, everyone, restrict}

-- ---- digits
abbrev bit : ℕ → Bool
bit x = eqb x 1

-- a digit is 0 or 1
module _ (P : ℕ → Type 0) (zero-digit : P 0) (one-digit : P 1) where
  digit : (x : ℕ) → x < 2 → P x
  digit zero l = zero-digit
  digit (suc zero) l = one-digit
  digit (suc (suc x)) l = absurd (omega arith)

  by_digit : (a : ℕ) → P (a % 2)
  by_digit a = digit (a % 2) (mod-lt a (zero-lt-suc 1))

bit_inj : (a b : ℕ) → bit (a % 2) ≡ bit (b % 2) → a % 2 ≡ b % 2
bit_inj a b =
    by_digit (λ (x : ℕ). bit x ≡ bit (b % 2) → x ≡ b % 2)
    (by_digit (λ (y : ℕ). bit 0 ≡ bit y → 0 ≡ y) (λ e. refl) (λ e. absurd (absurd_false e)) b)
    (by_digit (λ (y : ℕ). bit 1 ≡ bit y → 1 ≡ y) (λ e. absurd (absurd_false (sym e))) (λ e. refl) b) a

-- an operation on numbers that works digit by digit, and what it does to two digits
module _ (op : ℕ → ℕ → ℕ) (f : ℕ → ℕ → ℕ) (g : Bool → Bool → Bool)
    (shr : (a b p : ℕ) → op a b / 2 ^ p ≡ op (a / 2 ^ p) (b / 2 ^ p))
    (step : (a b : ℕ) → op a b ≡ op (a / 2) (b / 2) * 2 + f (a % 2) (b % 2)) (small : (a b : ℕ) → f (a % 2) (b % 2) < 2)
  where
    abbrev Digits : ℕ → ℕ → Type 0
    Digits x y = bit (f x y) ≡ g (bit x) (bit y)

    member_op : Digits 0 0 → Digits 0 1 → Digits 1 0 → Digits 1 1 → (p a b : ℕ)
        → member p (op a b) ≡ g (member p a) (member p b)
    unfolding member
    member_op oo oi io ii p a b =
        let x = a / 2 ^ p in
        let y = b / 2 ^ p in
        ap (λ (z : ℕ). bit (z % 2)) (shr a b p ∙ step x y) ∙ ap bit (digits_mod (op (x / 2) (y / 2)) (small x y))
        ∙ by_digit (λ (d : ℕ). Digits d (y % 2)) (by_digit (Digits 0) oo oi y) (by_digit (Digits 1) io ii y) x

pub member_low : (a : ℕ) → member 0 a ≡ bit (a % 2)
unfolding member
member_low a = ap (λ (x : ℕ). bit (x % 2)) (div-one a)

pub member_high : (p a : ℕ) → member (suc p) a ≡ member p (a / 2)
unfolding member
member_high p a = ap (λ (x : ℕ). bit (x % 2)) (ap (λ (k : ℕ). a / 2 ^ k) (sym (one-add p)) ∙ sym (shr-shr a 1 p))

-- ---- membership

-- p is in the intersection exactly if it is in both
pub member-intersection : (p a b : ℕ) → member p (intersection a b) ≡ both (member p a) (member p b)
unfolding intersection both
member-intersection = member_op bit_and min both and_shr and_step (λ a b. omega arith) refl refl refl refl

-- p is in the union exactly if it is in either
pub member_union : (p a b : ℕ) → member p (union a b) ≡ either (member p a) (member p b)
unfolding union either
member_union = member_op bit_or max either or_shr or_step (λ a b. omega arith) refl refl refl refl

-- two sets with the same members are equal
pub member_ext : (a b : ℕ) → ((p : ℕ) → member p a ≡ member p b) → a ≡ b
member_ext a b e = go (a + b) a b (omega arith) (omega arith) e
  where
    go : (f a b : ℕ) → a ≤ f → b ≤ f → ((p : ℕ) → member p a ≡ member p b) → a ≡ b
    go zero a b ha hb e = omega arith
    go (suc f) a b ha hb e =
        sym (div-add-mod' a 2)
        ∙ ap₂ (λ (x y : ℕ). x * 2 + y)
        (go f (a / 2) (b / 2) (half_le ha) (half_le hb) (λ p. sym (member_high p a) ∙ e (suc p) ∙ member_high p b))
        (bit_inj a b (sym (member_low a) ∙ e 0 ∙ member_low b))
        ∙ div-add-mod' b 2

pub member_empty : (p : ℕ) → member p 0 ≡ false
unfolding member
member_empty p = ap (λ (x : ℕ). bit (x % 2)) (zero-div (2 ^ p))

-- a set of less than p bits does not have p
pub member_beyond : (p m : ℕ) → m < 2 ^ p → member p m ≡ false
unfolding member
member_beyond p m l = ap (λ (x : ℕ). bit (x % 2)) (div-eq_of_lt l)

-- what lies at k and above has no part in the bits below k
pub member_above : (p k a r : ℕ) → p < k → member p (a * 2 ^ k + r) ≡ member p r
member_above p zero a r l = absurd (not-suc-le-zero l)
member_above zero (suc k) a r l = member_low (a * 2 ^ suc k + r) ∙ ap bit (block_odd a k r) ∙ sym (member_low r)
member_above (suc p) (suc k) a r l =
    member_high p (a * 2 ^ suc k + r) ∙ ap (member p) (block_half a k r)
    ∙ member_above p k a (r / 2) (le_of_suc-le-suc l) ∙ sym (member_high p r)

-- a set that is not empty has a member
pub some_member : (n : ℕ) → (n ≡ 0 → ⊥) → (p : ℕ) × (member p n ≡ true)
some_member =
    bin_ind (λ (n : ℕ). (n ≡ 0 → ⊥) → (p : ℕ) × (member p n ≡ true)) (λ h. absurd (h refl))
    (λ n ih h. by_digit (λ (d : ℕ). n % 2 ≡ d → (p : ℕ) × (member p n ≡ true))
    (λ e. let r = ih (λ z. h (omega arith)) in (suc r.0, member_high r.0 n ∙ r.1))
    (λ e. (0, member_low n ∙ ap bit e)) n refl)

-- ---- containment: x is within y exactly if every member of x is one of y
pub within_intro : (x y : ℕ) → ((p : ℕ) → member p x ≡ true → member p y ≡ true) → within x y ≡ true
unfolding within intersection
within_intro x y h =
    eq-eqb (bit_and x y) x
    (member_ext (bit_and x y) x (λ p. member-intersection p x y ∙ both_implied (member p x) (member p y) (h p)))

pub within_elim : (x y : ℕ) → within x y ≡ true → (p : ℕ) → member p x ≡ true → member p y ≡ true
unfolding within intersection
within_elim x y e p m =
    both_right (member p x) (member p y)
    (sym (member-intersection p x y) ∙ ap (member p) (eqb-true (bit_and x y) x e) ∙ m)

pub within_refl : (x : ℕ) → within x x ≡ true
within_refl x = within_intro x x (λ p m. m)

pub within_trans : (x y z : ℕ) → within x y ≡ true → within y z ≡ true → within x z ≡ true
within_trans x y z h k = within_intro x z (λ p m. within_elim y z k p (within_elim x y h p m))

pub within_antisym : (x y : ℕ) → within x y ≡ true → within y x ≡ true → x ≡ y
within_antisym x y h k =
    member_ext x y (λ p. bool_ext (member p x) (member p y) (within_elim x y h p) (within_elim y x k p))

-- ---- the intersection is the largest set within both
pub intersection_within_left : (x y : ℕ) → within (intersection x y) x ≡ true
intersection_within_left x y =
    within_intro (intersection x y) x (λ p m. both_left (member p x) (member p y) (sym (member-intersection p x y) ∙ m))

pub intersection_within_right : (x y : ℕ) → within (intersection x y) y ≡ true
intersection_within_right x y =
    within_intro (intersection x y) y
    (λ p m. both_right (member p x) (member p y) (sym (member-intersection p x y) ∙ m))

pub within_intersection : (z x y : ℕ) → within z x ≡ true → within z y ≡ true → within z (intersection x y) ≡ true
within_intersection z x y h k =
    within_intro z (intersection x y)
    (λ p m. member-intersection p x y ∙ both_true (within_elim z x h p m) (within_elim z y k p m))

-- ---- the union is the smallest set that both are within
pub within_union_left : (x y : ℕ) → within x (union x y) ≡ true
within_union_left x y = within_intro x (union x y) (λ p m. member_union p x y ∙ either_left (member p x) (member p y) m)

pub within_union_right : (x y : ℕ) → within y (union x y) ≡ true
within_union_right x y =
    within_intro y (union x y) (λ p m. member_union p x y ∙ either_right (member p x) (member p y) m)

pub union_within : (x y z : ℕ) → within x z ≡ true → within y z ≡ true → within (union x y) z ≡ true
union_within x y z h k =
    within_intro (union x y) z
    (λ p m. either_case (member p x) (member p y) (member p z) (within_elim x z h p) (within_elim y z k p)
    (sym (member_union p x y) ∙ m))

-- ---- a member in common: x meets y exactly if some p is in both
pub meets_intro : (x y p : ℕ) → member p x ≡ true → member p y ≡ true → meets x y ≡ true
unfolding meets intersection
meets_intro x y p h k =
    ap not
    (ne_eqb (bit_and x y) 0
    (λ e. absurd_false (sym (member_empty p) ∙ ap (member p) (sym e) ∙ member-intersection p x y ∙ both_true h k)))

pub meets_elim : (x y : ℕ) → meets x y ≡ true → (p : ℕ) × (member p x ≡ true) × (member p y ≡ true)
unfolding meets intersection
meets_elim x y e =
    let r = some_member (bit_and x y) (eqb-false (bit_and x y) 0 (not-true (eqb (bit_and x y) 0) e)) in
    let m = sym (member-intersection r.0 x y) ∙ r.1 in
    (r.0, both_left (member r.0 x) (member r.0 y) m, both_right (member r.0 x) (member r.0 y) m)

pub meets_mono : (g x y : ℕ) → within x y ≡ true → meets g x ≡ true → meets g y ≡ true
meets_mono g x y h e = let r = meets_elim g x e in meets_intro g y r.0 r.1 (within_elim x y h r.0 r.2)

pub meets_grows : (g h x : ℕ) → within g h ≡ true → meets g x ≡ true → meets h x ≡ true
meets_grows g h x w e = let (p, m, k) = meets_elim g x e in meets_intro h x p (within_elim g h w p m) k

pub meets_empty : (g : ℕ) → meets g 0 ≡ false
meets_empty g = not_so (meets g 0) (λ e. let r = meets_elim g 0 e in absurd_false (sym (member_empty r.0) ∙ r.2))

-- ---- {p} has the one member p
alone : (p : ℕ) → 1 * 2 ^ p + 0 ≡ 2 ^ p
alone p = omega arith

pub member_single_self : (p : ℕ) → member p (single p) ≡ true
unfolding member single
member_single_self p = ap (member p) (sym (alone p)) ∙ ap (λ (x : ℕ). bit (x % 2)) (high 1 p (pow_pos p))

pub member_single : (q p : ℕ) → member q (single p) ≡ true → q ≡ p
unfolding single
member_single q p e =
    by_below q p (λ l. absurd (fails (ap (member q) (sym (alone p)) ∙ member_above q p 1 0 l ∙ member_empty q) e))
    (λ l. by_below p q (λ m. absurd (fails (member_beyond q (2 ^ p) (pow-lt m)) e)) (λ m. omega arith))

-- {p} is within the sets that have p
pub single_within : (p m : ℕ) → within (single p) m ≡ member p m
single_within p m =
    bool_ext (within (single p) m) (member p m)
    (λ e. within_elim (single p) m e p (member_single_self p))
    (λ e. within_intro (single p) m (λ q h. rw (member_single q p h) e))

-- and what meets it is a set that has p
pub meets_single : (g p : ℕ) → meets g (single p) ≡ member p g
meets_single g p =
    bool_ext (meets g (single p)) (member p g)
    (λ e. let (q, m, k) = meets_elim g (single p) e in rw (← member_single q p k) m)
    (λ m. meets_intro g (single p) p m (member_single_self p))

-- ---- the first n principals: those below n
ones_odd : (k : ℕ) → (2 ^ suc k - 1) % 2 ≡ 1
ones_odd k =
    ap (λ (j : ℕ). (2 ^ j - 1) % 2) (sym (add-one k)) ∙ ap (λ (x : ℕ). x % 2) (ones_split k 1)
    ∙ digits_mod (2 ^ k - 1) (lit< tt)

pub member-everyone : (p n : ℕ) → member p (everyone n) ≡ ltb p n
unfolding everyone member
member-everyone p n =
    by_below p n
    (λ l.
    let k = n - suc p in
    let e : suc k + p ≡ n = omega arith in
    ap (λ (j : ℕ). member p (2 ^ j - 1)) (sym e) ∙ ap (member p) (ones_split (suc k) p)
    ∙ ap (λ (x : ℕ). bit (x % 2)) (high (2 ^ suc k - 1) p (ones_lt p)) ∙ ap bit (ones_odd k) ∙ sym (lt-ltb p n l))
    (λ l. member_beyond p (2 ^ n - 1) (lt_of_lt_of_le (ones_lt n) (pow_mono l)) ∙ sym (le-ltb p n l))

-- a set lies within the first n principals exactly if it is a number below 2 ^ n
pub within_everyone : (n g : ℕ) → g < 2 ^ n → within g (everyone n) ≡ true
unfolding within everyone
within_everyone n g l = eq-eqb (bit_and g (2 ^ n - 1)) g (and_mask g n ∙ mod-eq_of_lt l)

pub single_within_everyone : (p n : ℕ) → p < n → within (single p) (everyone n) ≡ true
single_within_everyone p n l = single_within p (everyone n) ∙ member-everyone p n ∙ lt-ltb p n l

-- ---- a set restricted to its members below k
pub member-restrict : (p k m : ℕ) → member p (restrict k m) ≡ both (ltb p k) (member p m)
unfolding restrict both
member-restrict p k m =
    by_below p k
    (λ l. rw (lt-ltb p k l) (sym (ap (member p) (sym (split m k)) ∙ member_above p k (m / 2 ^ k) (m % 2 ^ k) l)))
    (λ l. rw (le-ltb p k l) (member_beyond p (m % 2 ^ k) (lt_of_lt_of_le (mod-lt m (pow_pos k)) (pow_mono l))))

pub restrict_id : (k m : ℕ) → m < 2 ^ k → restrict k m ≡ m
unfolding restrict
restrict_id k m l = mod-eq_of_lt l

pub restrict_single : (k p : ℕ) → p < k → restrict k (single p) ≡ single p
unfolding single
restrict_single k p l = restrict_id k (2 ^ p) (pow-lt l)

-- nothing of {p} is left at or below p
pub restrict_single_out : (k p : ℕ) → k ≤ p → restrict k (single p) ≡ 0
restrict_single_out k p l =
    member_ext (restrict k (single p)) 0
    (λ q. not_so (member q (restrict k (single p)))
    (λ e.
    let h = sym (member-restrict q k (single p)) ∙ e in
    let a : q < k = ltb-true q k (both_left (ltb q k) (member q (single p)) h) in
    let b : q ≡ p = member_single q p (both_right (ltb q k) (member q (single p)) h) in
    omega arith)
    ∙ sym (member_empty q))

pub restrict-everyone : (k n : ℕ) → n ≤ k → restrict k (everyone n) ≡ everyone n
unfolding everyone
restrict-everyone k n l = restrict_id k (2 ^ n - 1) (lt_of_lt_of_le (ones_lt n) (pow_mono l))

pub restrict-everyone_full : (k n : ℕ) → k ≤ n → restrict k (everyone n) ≡ everyone k
restrict-everyone_full k n l =
    member_ext (restrict k (everyone n)) (everyone k)
    (λ p. member-restrict p k (everyone n)
    ∙ both_implied (ltb p k) (member p (everyone n))
    (λ e. member-everyone p n ∙ lt-ltb p n (lt_of_lt_of_le (ltb-true p k e) l))
    ∙ sym (member-everyone p k))

-- `1 << p` at a width of k bits is {p}
pub shl_one : (k p : ℕ) → p < k → (1 * 2 ^ p) % 2 ^ k ≡ single p
unfolding single
shl_one k p l = shl_exact 1 p k (lit< tt) (subst (λ (m : ℕ). m ≤ k) (sym (one-add p)) l) ∙ one-mul (2 ^ p)

-- ---- the algebra of union and intersection
pub union_of_within : (x y : ℕ) → within x y ≡ true → union x y ≡ y
union_of_within x y h =
    within_antisym (union x y) y (union_within x y y h (within_refl y)) (within_union_right x y)

-- ---- what is taken out of a set
pub within_le : (x y : ℕ) → within x y ≡ true → x ≤ y
unfolding within
within_le x y h = subst (λ (z : ℕ). z ≤ y) (eqb-true (bit_and x y) x h) (and_le_r x y)

abbrev exclusive : Bool → Bool → Bool
exclusive x y = cond x (not y) y

member-exclusive : (p x y : ℕ) → member p (bit_xor x y) ≡ exclusive (member p x) (member p y)
member-exclusive = member_op bit_xor differ exclusive xor_shr xor_step small refl refl refl refl
  where
    small : (a b : ℕ) → differ (a % 2) (b % 2) < 2
    small a b =
        by_digit (λ (x : ℕ). differ x (b % 2) < 2) (by_digit (λ (y : ℕ). differ 0 y < 2) (lit< tt) (lit< tt) b)
        (by_digit (λ (y : ℕ). differ 1 y < 2) (lit< tt) (lit< tt) b) a

-- a set without those of its members that are in y: where y lies within it, the difference of the numbers
pub member_difference : (p x y : ℕ) → within y x ≡ true → member p (x - y) ≡ both (member p x) (not (member p y))
unfolding within both
member_difference p x y h =
    ap (member p) is ∙ member-exclusive p x y ∙ on (member p x) (member p y) (within_elim y x h p)
  where
    is : x - y ≡ bit_xor x y
    is =
        let a : bit_and x y ≡ y = and_comm x y ∙ eqb-true (bit_and y x) y h in
        let b : bit_xor x y + bit_and x y * 2 ≡ x + y = xor_add_and x y in
        omega arith

    on : (a b : Bool) → (b ≡ true → a ≡ true) → exclusive a b ≡ both a (not b)
    on true b i = refl
    on false true i = absurd (absurd_false (i refl))
    on false false i = refl

-- a part of a set that isn't the whole lacks a member
pub lacks_member : (x y : ℕ) → within x y ≡ true → ¬ (x ≡ y) → (p : ℕ) × (member p y ≡ true) × (member p x ≡ false)
lacks_member x y h n = of (some_member (y - x) (λ z. n (omega (arith, within_le x y h))))
  where
    of : ((p : ℕ) × (member p (y - x) ≡ true)) → (p : ℕ) × (member p y ≡ true) × (member p x ≡ false)
    of (p, m) =
        let e : both (member p y) (not (member p x)) ≡ true = sym (member_difference p y x h) ∙ m in (
          p,
          both_left (member p y) (not (member p x)) e,
          not-true (member p x) (both_right (member p y) (not (member p x)) e),
        )

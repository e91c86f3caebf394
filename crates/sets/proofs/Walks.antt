-- Laws of `every`, `any` and `tab`, for what tests one place after another or fills them; and of stores, one run after
-- another.
use mathlib.Core.Path.{◌≡◌, refl, sym, ap, ap₂, ◌∙◌}
use mathlib.Core.Bool.{Bool, true, false}
use mathlib.Core.List.{List, [], ◌∷◌, ◌++◌}
use Prim.Native.Nat.{ℕ, zero, suc, ◌+◌, ◌<◌, ◌≤◌, suc-le-suc}
use native.Mathlib.Nat.{not-suc-le-zero, le_of_suc-le-suc, zero-lt-suc, add-suc, suc-add, add-zero}
use native.Mathlib.Omega.{arith}
use native.Mathlib.Numerals.{add-one}
use lib.ListN.{length, get_or, set}
use lib.Seq.{sets}
use lib.Dec.{ltb}
use borrow.Author.Tests.{ltb-true, ltb-false}
use Rattle.logic.specs.Booleans.{both, either}
use Rattle.logic.proofs.BooleanLaws.{absurd_false, bool_ext, both_left, both_no_left, both_no_right, both_right}
use Rattle.logic.proofs.BooleanLaws.{both_true, both_yes_left, cases, either_left, either_right}
use Rattle.sets.specs.Sets.{every, any, tab}

-- by whether m is below n
pub by_below : {P : Type 0} (m n : ℕ) → (m < n → P) → (n ≤ m → P) → P
by_below m n f g = cases (ltb m n) (λ e. f (ltb-true m n e)) (λ e. g (ltb-false m n e))

-- ---- every
pub every_true : (n : ℕ) (f : ℕ → Bool) → ((i : ℕ) → i < n → f i ≡ true) → every n f ≡ true
unfolding every
every_true zero f h = refl
every_true (suc n) f h =
    both_true (h 0 (zero-lt-suc n)) (every_true n (λ (i : ℕ). f (suc i)) (λ i l. h (suc i) (suc-le-suc l)))

pub every_at : (n : ℕ) (f : ℕ → Bool) → every n f ≡ true → (i : ℕ) → i < n → f i ≡ true
unfolding every
every_at zero f e i l = absurd (not-suc-le-zero l)
every_at (suc n) f e zero l = both_left (f 0) (every n (λ (i : ℕ). f (suc i))) e
every_at (suc n) f e (suc i) l =
    every_at n (λ (i : ℕ). f (suc i)) (both_right (f 0) (every n (λ (i : ℕ). f (suc i))) e) i (le_of_suc-le-suc l)

pub every_false : (n : ℕ) (f : ℕ → Bool) (i : ℕ) → i < n → f i ≡ false → every n f ≡ false
unfolding every
every_false zero f i l e = absurd (not-suc-le-zero l)
every_false (suc n) f zero l e = both_no_left (f 0) _ e
every_false (suc n) f (suc i) l e =
    both_no_right (f 0) _ (every_false n (λ (k : ℕ). f (suc k)) i (le_of_suc-le-suc l) e)

-- tests that agree at each number below n
pub every_ext : (n : ℕ) (f g : ℕ → Bool) → ((i : ℕ) → i < n → f i ≡ g i) → every n f ≡ every n g
unfolding every
every_ext zero f g h = refl
every_ext (suc n) f g h =
    ap₂ both (h 0 (zero-lt-suc n))
    (every_ext n (λ (i : ℕ). f (suc i)) (λ (i : ℕ). g (suc i)) (λ i l. h (suc i) (suc-le-suc l)))

-- a test that doesn't pass everywhere fails somewhere
pub every_fails : (n : ℕ) (f : ℕ → Bool) → every n f ≡ false → (i : ℕ) × (i < n) × (f i ≡ false)
unfolding every
every_fails zero f e = absurd (absurd_false (sym e))
every_fails (suc n) f e =
    cases (f 0)
    (λ t. let (i, l, z) = every_fails n (λ (i : ℕ). f (suc i)) (sym (both_yes_left (f 0) _ t) ∙ e) in
    (suc i, suc-le-suc l, z))
    (λ z. (0, zero-lt-suc n, z))

-- one place more
pub every_last : (n : ℕ) (f : ℕ → Bool) → every (suc n) f ≡ both (every n f) (f n)
every_last n f =
    bool_ext (every (suc n) f) (both (every n f) (f n))
    (λ h. both_true (every_true n f (λ i l. every_at (suc n) f h i (omega arith)))
    (every_at (suc n) f h n (omega arith)))
    (λ h. every_true (suc n) f (λ i l. by_below i n (every_at n f (both_left _ (f n) h) i)
    (λ k. let e : n ≡ i = omega arith in rw e at (both_right (every n f) _ h))))

-- one turn more of a loop that joins its tests
pub every_more : (n : ℕ) (f : ℕ → Bool) {a b : Bool} → a ≡ every n f → b ≡ f n → both a b ≡ every (n + 1) f
every_more n f p q = ap₂ both p q ∙ sym (every_last n f) ∙ ap (λ (k : ℕ). every k f) (sym (add-one n))

-- two tests at each place are two walks of one test
pub every_both : (n : ℕ) (f g : ℕ → Bool) → every n (λ (i : ℕ). both (f i) (g i)) ≡ both (every n f) (every n g)
every_both n f g =
    bool_ext (every n (λ (i : ℕ). both (f i) (g i))) (both (every n f) (every n g))
    (λ h. both_true (every_true n f (λ i l. both_left (f i) (g i) (every_at n _ h i l)))
    (every_true n g (λ i l. both_right (f i) (g i) (every_at n _ h i l))))
    (λ h. every_true n _
    (λ i l. both_true (every_at n f (both_left _ (every n g) h) i l) (every_at n g (both_right (every n f) _ h) i l)))

-- ---- any
pub any_true : (n : ℕ) (f : ℕ → Bool) (i : ℕ) → i < n → f i ≡ true → any n f ≡ true
unfolding any
any_true zero f i l e = absurd (not-suc-le-zero l)
any_true (suc n) f zero l e = either_left (f 0) _ e
any_true (suc n) f (suc i) l e = either_right (f 0) _ (any_true n (λ (k : ℕ). f (suc k)) i (le_of_suc-le-suc l) e)

pub any_at : (n : ℕ) (f : ℕ → Bool) → any n f ≡ true → (i : ℕ) × (i < n) × (f i ≡ true)
unfolding any either
any_at zero f e = absurd (absurd_false e)
any_at (suc n) f e =
    cases (f 0) (λ t. (0, zero-lt-suc n, t))
    (λ z. let (i, l, t) = any_at n (λ (i : ℕ). f (suc i)) (rw z at e) in (suc i, suc-le-suc l, t))

-- ---- tab
pub length-tab : (n : ℕ) (f : ℕ → ℕ) → length (tab n f) ≡ n
unfolding tab
length-tab zero f = refl
length-tab (suc n) f = ap suc (length-tab n (λ (i : ℕ). f (suc i)))

pub get_d_tab : (n : ℕ) (f : ℕ → ℕ) (i d : ℕ) → i < n → get_or (tab n f) i d ≡ f i
unfolding tab
get_d_tab zero f i d l = absurd (not-suc-le-zero l)
get_d_tab (suc n) f zero d l = refl
get_d_tab (suc n) f (suc i) d l = get_d_tab n (λ (k : ℕ). f (suc k)) i d (le_of_suc-le-suc l)

pub tab_ext : (n : ℕ) (f g : ℕ → ℕ) → ((i : ℕ) → i < n → f i ≡ g i) → tab n f ≡ tab n g
unfolding tab
tab_ext zero f g e = refl
tab_ext (suc n) f g e =
    ap₂ (λ (x : ℕ) (t : List ℕ). x ∷ t) (e 0 (zero-lt-suc n))
    (tab_ext n (λ (i : ℕ). f (suc i)) (λ (i : ℕ). g (suc i)) (λ i l. e (suc i) (suc-le-suc l)))

-- a list is the table of its own places
pub tab_get_d : (xs : List ℕ) (d : ℕ) → tab (length xs) (λ (i : ℕ). get_or xs i d) ≡ xs
unfolding tab
tab_get_d [] d = refl
tab_get_d (x ∷ xs) d = ap (λ (t : List ℕ). x ∷ t) (tab_get_d xs d)

-- ---- one run of stores after another
pub sets_append : (l : List ℕ) (i : ℕ) (xs ys : List ℕ) → sets l i (xs ++ ys) ≡ sets (sets l i xs) (i + length xs) ys
sets_append l i [] ys = rw add-zero
sets_append l i (x ∷ xs) ys =
    sets_append (set l i x) (suc i) xs ys
    ∙ ap (λ (k : ℕ). sets (sets (set l i x) (suc i) xs) k ys) (suc-add i (length xs) ∙ sym (add-suc i (length xs)))

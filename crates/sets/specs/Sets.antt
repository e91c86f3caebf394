-- Sets of principals as masks: bit p of a set is principal p, the lowest bit being p = 0 (the scope, "Principals and
-- labels"). Only `width` names a width.
use Rattle.std.specs.Prelude.{Bool, true, false, not, List, [], ◌∷◌, ℕ, zero, suc, ◌/◌, ◌%◌, ◌^◌, ◌-◌, eqb}
use Rattle.std.specs.Int.Bits.{bit_and, bit_or}
use Rattle.logic.specs.Booleans.{both, either}

-- the number of bits of a set in the code
abbrev pub width : ℕ
width = 16

-- ---- sets

-- principal p is in the set m
unfoldable pub member : ℕ → ℕ → Bool
member p m = eqb (m / 2 ^ p % 2) 1

-- the members of x and those of y
unfoldable pub union : ℕ → ℕ → ℕ
union x y = bit_or x y

-- the members that x and y have in common
unfoldable pub intersection : ℕ → ℕ → ℕ
intersection x y = bit_and x y

-- every member of x is one of y
unfoldable pub within : ℕ → ℕ → Bool
within x y = eqb (bit_and x y) x

-- x and y have a member in common
unfoldable pub meets : ℕ → ℕ → Bool
meets x y = not (eqb (bit_and x y) 0)

-- {p}
unfoldable pub single : ℕ → ℕ
single p = 2 ^ p

-- all of n principals: 0 to n - 1
unfoldable pub everyone : ℕ → ℕ
everyone n = 2 ^ n - 1

-- the members of m that are below k
unfoldable pub restrict : ℕ → ℕ → ℕ
restrict k m = m % 2 ^ k

-- ---- one test or one number for each number below n

-- the test f passes at each number below n
unfoldable pub every : ℕ → (ℕ → Bool) → Bool
every zero f = true
every (suc n) f = both (f 0) (every n (λ (i : ℕ). f (suc i)))

-- the test f passes at some number below n
unfoldable pub any : ℕ → (ℕ → Bool) → Bool
any zero f = false
any (suc n) f = either (f 0) (any n (λ (i : ℕ). f (suc i)))

-- f 0, f 1, .. : n of them
unfoldable pub tab : ℕ → (ℕ → ℕ) → List ℕ
tab zero f = []
tab (suc n) f = f 0 ∷ tab n (λ (i : ℕ). f (suc i))

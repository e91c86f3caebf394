-- Numbers are decimal without needless zeros ("The three texts").
use Rattle.std.specs.Prelude.{ℕ, zero, suc, ◌+◌, ◌*◌, ◌-◌, ◌/◌, ◌%◌, Bool, false, cond, List, [], ◌∷◌, ◌++◌, leb, ltb}
use Rattle.std.specs.Prelude.{eqb}
use Rattle.text.specs.Reading.{Read}
use Rattle.text.specs.Reading.Read.{got, bad}
use Rattle.logic.specs.Booleans.{both}

-- the largest number of 32 bits
abbrev pub most : ℕ
most = 4294967295

-- bytes 48 to 57
unfoldable pub digit : ℕ → Bool
digit c = both (leb 48 c) (leb c 57)

-- a digit stands at the front
unfoldable pub opens_digit : List ℕ → Bool
opens_digit [] = false
opens_digit (c ∷ t) = digit c

-- v with the digits at the front after it, refused where that passes the bound
unfoldable pub digits : ℕ → ℕ → List ℕ → Read ℕ
digits bound v [] = got v []
digits bound v (c ∷ t) =
    let more = digits bound (v * 10 + (c - 48)) t in
    cond (digit c) (cond (ltb bound (v * 10 + (c - 48))) bad more) (got v (c ∷ t))

-- a number up to the bound, as far as its digits go; after a zero no digit follows
unfoldable pub number : ℕ → List ℕ → Read ℕ
number bound [] = bad
number bound (c ∷ t) =
    cond (digit c) (cond (eqb c 48) (cond (opens_digit t) bad (got 0 t)) (digits bound 0 (c ∷ t))) bad

-- the digits of n, at most k of them
unfoldable pub decimal_on : ℕ → ℕ → List ℕ
decimal_on zero n = []
decimal_on (suc k) n =
    let front = decimal_on k (n / 10) ++ (48 + n % 10) ∷ [] in
    cond (ltb n 10) ((48 + n) ∷ []) front

-- n in decimal
unfoldable pub decimal : ℕ → List ℕ
decimal n = decimal_on (suc n) n

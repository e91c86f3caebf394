-- A call's refusals as rows: its numbers, each with when it applies, in the order judged. The first that applies is
-- given. A number has its rank among the rows and no size: nothing here compares two numbers but for being equal.
use Rattle.std.specs.Prelude.{◌⊎◌, ◌≡◌, List, [], ◌∷◌, ◌++◌, ℕ}

-- a number, and when it applies
infix 68 ◌when◌
pub data Row : Type 1 where
  ◌when◌ : ℕ → Type 0 → Row

-- the numbers of the rows, in their order
unfoldable pub numbers : List Row → List ℕ
numbers [] = []
numbers ((k when P) ∷ rows) = k ∷ numbers rows

-- none of the rows applies
unfoldable pub None : List Row → Type 0
None [] = Unit {0}
None ((k when P) ∷ rows) = (¬ P) × None rows

-- r is the answer by these rows: what the first row that applies refuses with; where none applies, an answer
-- as `Else` has it.
unfoldable pub First : {A : Type 0} → (ℕ → A) → (A → Type 0) → List Row → A → Type 0
First refuse Else [] r = Else r
First refuse Else ((k when P) ∷ rows) r = (P × (r ≡ refuse k)) ⊎ ((¬ P) × First refuse Else rows r)

-- x is one of the list
pub data Among {A : Type 0} : List A → A → Type 0 where
  here : {x : A} {xs : List A} → Among (x ∷ xs) x
  later : {x y : A} {xs : List A} → Among xs x → Among (y ∷ xs) x

-- The number k applies, and none that comes before it in the order does.
pub record FirstToApply (rows : List Row) (k : ℕ) : Type 1 where
  pub before : List Row
  pub Condition : Type 0
  pub after : List Row
  pub order : rows ≡ before ++ ((k when Condition) ∷ after)
  pub applies : Condition
  pub none_before : None before

-- n is as the rows have it: one of their numbers, which applies while none that comes before it in the order does; or
-- none of them, and none applies.
pub record GivenInOrder (rows : List Row) (n : ℕ) : Type 1 where
  pub refused : Among (numbers rows) n → FirstToApply rows n
  pub not_refused : ¬ Among (numbers rows) n → None rows

-- What is claimed of every table and of every call, as types; each call is an instance. The proofs stand in
-- proofs/RowLaws.antt.
use Rattle.std.specs.Prelude.{◌↔◌, ◌⊎◌, ◌≡◌, List, [], ◌∷◌, ℕ, get_or}
use Rattle.numbers.specs.Rows.{Row, ◌when◌, numbers, None, Among, FirstToApply, GivenInOrder}
use Rattle.numbers.specs.Calls.{Table, AnswerBy, Call, Demand1Of}

-- A refusal has the number that it is by; an answer where no row applies has none of the table's numbers.
pub record Numbered {A : Type 0} (T : Table A) (number : A → ℕ) : Type 0 where
  pub of_refusal : (k : ℕ) → number (T.refuse k) ≡ k
  pub not_of_table : (r : A) → T.Else r → ¬ Among (numbers T.rows) (number r)

-- The number given applies, and none that comes before it in the order does; where none is given, none applies.
abbrev pub FirstThatAppliesIsGiven : Type 1
FirstThatAppliesIsGiven = (A : Type 0) (T : Table A) (number : A → ℕ) → Numbered T number
    → (r : A) → AnswerBy T r → GivenInOrder T.rows (number r)

-- The answer refuses with the first number that applies, or none applies and it is right where none does.
pub data InOrder {A : Type 0} (T : Table A) : A → Type 1 where
  refuses : {k : ℕ} → FirstToApply T.rows k → InOrder T (T.refuse k)
  none_applies : {r : A} → None T.rows → T.Else r → InOrder T r

-- The same of whole answers: `AnswerBy` is neither more nor less.
abbrev pub AnswersInOrder : Type 1
AnswersInOrder = (A : Type 0) (T : Table A) (r : A) → AnswerBy T r ↔ InOrder T r

-- A refusal is by one of the table's numbers, and the number settles all of the answer: so a slice that `refuse` leaves
-- untouched is untouched.
abbrev pub RefusedByANumber : Type 1
RefusedByANumber = (A : Type 0) (T : Table A) (r : A) → AnswerBy T r
    → ((k : ℕ) × Among (numbers T.rows) k × (r ≡ T.refuse k)) ⊎ (None T.rows × T.Else r)

-- It is settled which row is the first to apply, or that none does.
unfoldable pub Settled : List Row → Type 0
Settled [] = Unit {0}
Settled ((k when P) ∷ rows) = P ⊎ ((¬ P) × Settled rows)

-- P holds of one, and of no other.
abbrev pub ExactlyOne : {A : Type 0} → (A → Type 0) → Type 0
ExactlyOne {A} P = (r : A) × P r × ((r' : A) → P r' → r ≡ r')

-- Where it is settled which row is the first to apply, there is exactly one answer by a table, if there is exactly one
-- where none applies.
abbrev pub ExactlyOneAnswer : Type 1
ExactlyOneAnswer =
    (A : Type 0) (T : Table A) → Settled T.rows → (None T.rows → ExactlyOne T.Else) → ExactlyOne (AnswerBy T)

-- A call fits its table: the answers that this allows have numbers that the call may give; they say nothing besides,
-- unless the number is 0, 9 or 10; and they write nothing, unless it is 0.
pub record Orderly {A : Type 0} (c : Call A) : Type 0 where
  pub numbered : Numbered c.table c.number
  pub table_given : (k : ℕ) → Among (numbers c.table.rows) k → Among c.may_give k
  pub else_given : (r : A) → c.table.Else r → Among c.may_give (c.number r)
  pub refusal_zero : (k i : ℕ) → get_or (c.besides (c.table.refuse k)) i 0 ≡ 0
  pub else_zero : (r : A) → c.table.Else r → ¬ (c.number r ≡ 0) → ¬ (c.number r ≡ 9) → ¬ (c.number r ≡ 10)
      → (i : ℕ) → get_or (c.besides r) i 0 ≡ 0
  pub refusal_keeps : (k : ℕ) → c.leaves (c.table.refuse k) ≡ c.lent
  pub else_keeps : (r : A) → c.table.Else r → ¬ (c.number r ≡ 0) → c.leaves r ≡ c.lent

-- Demand 1 of every call that fits its table and answers by it.
abbrev pub DemandByTable : Type 1
DemandByTable = (A : Type 0) (c : Call A) → Orderly c → AnswerBy c.table c.gives → Demand1Of c

-- All of it.
pub record EveryTable : Type 1 where
  pub first_that_applies : FirstThatAppliesIsGiven
  pub answers_in_order : AnswersInOrder
  pub refused_by_a_number : RefusedByANumber
  pub exactly_one_answer : ExactlyOneAnswer
  pub demand_by_table : DemandByTable

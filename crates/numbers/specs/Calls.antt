-- A call, and the first two demands of it: stated once, for every call. A `Call` is a call on one input; the demands
-- ask it for every input (simp, Demands.antt).
use Rattle.std.specs.Prelude.{◌↔◌, ◌≡◌, List, ℕ, get_or}
use Rattle.numbers.specs.Rows.{Row, numbers, First, Among, GivenInOrder}

-- What a call must answer. An answer is what is handed back, with what the slice that the call may write then holds.
pub record Table (A : Type 0) : Type 1 where
  -- its refusals, in the order judged
  pub rows : List Row
  -- the whole answer of a call that refuses with this number
  pub refuse : ℕ → A
  -- the answers that are right where no row applies
  pub Else : A → Type 0

-- r is the answer by this table: a refusal with the first number that applies, or right where none does.
abbrev pub AnswerBy : {A : Type 0} → Table A → A → Type 0
AnswerBy T r = First T.refuse T.Else T.rows r

-- A call: what it must answer, and what it does answer.
pub record Call (A : Type 0) : Type 1 where
  pub table : Table A
  -- the numbers that it may give: 0, those of its table, and of a run 9 and 10
  pub may_give : List ℕ
  -- of an answer: its number; what is handed back besides (steps, a count, keeping, a round's numbers and steps); and
  -- what it leaves in the slice that the call may write
  pub number : A → ℕ
  pub besides : A → List ℕ
  pub leaves : A → List ℕ
  -- what that slice held; empty where the call is lent none
  pub lent : List ℕ
  -- what the call answers: the function that its contract equates it with
  pub gives : A

-- Demand 1 of a call.
pub record Demand1Of {A : Type 0} (c : Call A) : Type 1 where
  -- the number given applies, and none that comes before it in the order does; where no number of the table is given,
  -- none applies
  pub order : GivenInOrder c.table.rows (c.number c.gives)
  -- the whole answer is as the table has it
  pub by_table : AnswerBy c.table c.gives
  -- the number is one that the call may give
  pub one_of : Among c.may_give (c.number c.gives)
  -- beside a number of the table the whole answer is the refusal with it
  pub whole_refusal : Among (numbers c.table.rows) (c.number c.gives)
      → c.gives ≡ c.table.refuse (c.number c.gives)
  -- beside a number other than 0, 9 and 10 all else that is handed back is zero (request (a))
  pub zero : ¬ (c.number c.gives ≡ 0) → ¬ (c.number c.gives ≡ 9) → ¬ (c.number c.gives ≡ 10)
      → (i : ℕ) → get_or (c.besides c.gives) i 0 ≡ 0
  -- unless the number is 0, the lent slice holds what it held
  pub kept : ¬ (c.number c.gives ≡ 0) → c.leaves c.gives ≡ c.lent

-- Demand 2 of a call: it answers exactly what its table says. So there is one answer by its table, the call's.
abbrev pub Demand2Of : {A : Type 0} → Call A → Type 0
Demand2Of {A} c = (r : A) → (c.gives ≡ r) ↔ AnswerBy c.table r

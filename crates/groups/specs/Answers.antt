-- What simp_groups hands back, with what the places that it is lent then hold (request (b)). The answer is a number
-- as that of every call, and beside it stands the count of the groups.
use Rattle.std.specs.Prelude.{List, ◌++◌, ℕ, length, drop}

-- the answer, the number of groups, and what the lent places then hold
pub record Grouped : Type 0 where
  pub answer : ℕ
  pub count : ℕ
  pub places : List ℕ

-- a refused call: no groups, and the places as they were
abbrev pub refused_groups : List ℕ → ℕ → Grouped
refused_groups places k = record { answer = k; count = 0; places = places }

-- these groups in the first places, and behind them what was there (where there are as many places)
abbrev pub grouped : List ℕ → List ℕ → Grouped
grouped places gs = record { answer = 0; count = length gs; places = gs ++ drop (length gs) places }

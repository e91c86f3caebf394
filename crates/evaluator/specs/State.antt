-- How an evaluation or a run ends, in the scope's numbers. The contracts speak of an end by its number.
use Rattle.std.specs.Prelude.{ℕ, List, Result, Ok, Err, codes}
use Rattle.evaluator.specs.declared.Stop.{Stop}
use Rattle.evaluator.specs.declared.Stop.TheVariants.{Spent, TooLong, NoRule}

-- NoRule is met only on words that are no accepted script's code, or a memory that isn't its sheet's: 4,
-- as for no script.
abbrev pub state_number : {A : Type 0} → Result A Stop → ℕ
state_number (Ok a) = 0
state_number (Err NoRule) = 4
state_number (Err Spent) = 9
state_number (Err TooLong) = 10

-- what is printed of it
abbrev pub stop_text : Stop → List ℕ
stop_text Spent = codes "the budget is used up"
stop_text TooLong = codes "a value is too long"
stop_text NoRule = codes "no rule applies"

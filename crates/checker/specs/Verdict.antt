-- What the checker finds of a script, and the scope's number for it.
use Rattle.std.specs.Prelude.{ℕ, List, Result, Ok, Err, codes}
use Rattle.checker.specs.declared.TypingError.{TypingError}
use Rattle.checker.specs.declared.TypingError.TheVariants.{IllTyped, IllLabelled}

unfoldable pub verdict_number : Result Unit TypingError → ℕ
verdict_number (Ok _) = 0
verdict_number (Err IllTyped) = 5
verdict_number (Err IllLabelled) = 6

-- what is printed of it
abbrev pub typing_error_text : TypingError → List ℕ
typing_error_text IllTyped = codes "the types don't fit"
typing_error_text IllLabelled = codes "the labels don't fit"

-- Why a call refuses, with the scope's number of each reason, and what a call answers: 0 where nothing refuses.
use Rattle.std.specs.Prelude.{ℕ, List, Result, Ok, Err, codes}
use Rattle.stages.specs.declared.refusal.Refusal.{Refusal}
use Rattle.stages.specs.declared.refusal.Refusal.TheVariants.{SheetMalformed, SheetRepeats, PrincipalUnknown}
use Rattle.stages.specs.declared.refusal.Refusal.TheVariants.{ScriptMalformed, IllTyped, IllLabelled, SliceSize}
use Rattle.stages.specs.declared.refusal.Refusal.TheVariants.{MemoryIllFormed, Spent, TooLong, TooManyScripts}
use Rattle.stages.specs.declared.refusal.Refusal.TheVariants.{NotListed}

abbrev pub refusal_number : Refusal → ℕ
refusal_number SheetMalformed = 1
refusal_number SheetRepeats = 2
refusal_number PrincipalUnknown = 3
refusal_number ScriptMalformed = 4
refusal_number IllTyped = 5
refusal_number IllLabelled = 6
refusal_number SliceSize = 7
refusal_number MemoryIllFormed = 8
refusal_number Spent = 9
refusal_number TooLong = 10
refusal_number TooManyScripts = 11
refusal_number NotListed = 12

abbrev pub answer_number : {A : Type 0} → Result A Refusal → ℕ
answer_number (Ok x) = 0
answer_number (Err refusal) = refusal_number refusal

-- what is printed of it
abbrev pub refusal_text : Refusal → List ℕ
refusal_text SheetMalformed = codes "the sheet is not of the form"
refusal_text SheetRepeats = codes "the sheet repeats a type or a label"
refusal_text PrincipalUnknown = codes "a principal is not on the sheet"
refusal_text ScriptMalformed = codes "the script is not of the form"
refusal_text IllTyped = codes "the script is ill typed"
refusal_text IllLabelled = codes "the script is ill labelled"
refusal_text SliceSize = codes "a slice is not of the sheet's size"
refusal_text MemoryIllFormed = codes "the memory is ill formed"
refusal_text Spent = codes "the budget is spent"
refusal_text TooLong = codes "a value is too long"
refusal_text TooManyScripts = codes "there are too many scripts"
refusal_text NotListed = codes "there is no such label, or no place for each group"

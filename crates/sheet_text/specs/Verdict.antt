-- What is found of a sheet's text, and the scope's number for it.
use Rattle.std.specs.Prelude.{ℕ, List, Result, Ok, Err, codes}
use Rattle.sheet_text.specs.declared.SheetError.{SheetError}
use Rattle.sheet_text.specs.declared.SheetError.TheVariants.{Malformed, Repeats}

unfoldable pub sheet_number : Result Unit SheetError → ℕ
sheet_number (Ok u) = 0
sheet_number (Err Malformed) = 1
sheet_number (Err Repeats) = 2

-- what is printed of it
abbrev pub sheet_error_text : SheetError → List ℕ
sheet_error_text Malformed = codes "the sheet is not of the form"
sheet_error_text Repeats = codes "the sheet repeats a type or a label"

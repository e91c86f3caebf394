-- What the code answers to a text: a verdict and a table.
use Rattle.std.specs.Prelude.{◌≡◌, List, ℕ, replicate, Result, Ok, Err}
use Rattle.sheet.specs.Internal.Tables.{table_words, table_of}
use Rattle.sheet_text.specs.declared.SheetError.{SheetError}
use Rattle.sheet_text.specs.declared.SheetError.TheVariants.{Malformed, Repeats}
use Rattle.sheet_text.specs.Sheets.{ParsedSheet, malformed, repeating, accepted}

pub record Decoded : Type 0 where
  pub verdict : Result Unit SheetError
  pub table : List ℕ

-- a refused text has a table of zeros
unfoldable pub refused_by : SheetError → Decoded
refused_by error = record { verdict = Err error; table = replicate table_words 0 }

unfoldable pub decoded_sheet : ParsedSheet → Decoded
decoded_sheet malformed = refused_by Malformed
decoded_sheet repeating = refused_by Repeats
decoded_sheet (accepted s) = record { verdict = Ok tt; table = table_of s }

-- what is found of a text, with its table where it is a sheet's
unfoldable pub Judges : ParsedSheet → Result Unit SheetError → List ℕ → Type 0
Judges malformed r t = r ≡ Err Malformed
Judges repeating r t = r ≡ Err Repeats
Judges (accepted s) r t = (r ≡ Ok tt) × (t ≡ table_of s)

-- What is shown of sheets: exactly which texts are parsed to what.
use Rattle.std.specs.Prelude.{◌≡◌, true, false, ◌↔◌, List, ℕ, ◌≤◌, length}
use Rattle.text.specs.Reading.{limit}
use Rattle.sheet.specs.Sheet.{Sheet, formed, repeats}
use Rattle.sheet_text.specs.Lines.{sheet_bytes}
use Rattle.sheet_text.specs.Sheets.{malformed, repeating, accepted, sheet_of}

-- the text is the printed form of a sheet that is of the right form, and not too long
pub record IsSheet (t : List ℕ) (s : Sheet) : Type 0 where
  pub printed : t ≡ sheet_bytes s
  pub short : length t ≤ limit
  pub is_formed : formed s ≡ true

abbrev pub AcceptedExact : Type 0
AcceptedExact = (t : List ℕ) (s : Sheet) → (sheet_of t ≡ accepted s) ↔ (IsSheet t s × (repeats s ≡ false))

abbrev pub RepeatingExact : Type 0
RepeatingExact = (t : List ℕ) → (sheet_of t ≡ repeating) ↔ ((s : Sheet) × IsSheet t s × (repeats s ≡ true))

abbrev pub MalformedExact : Type 0
MalformedExact = (t : List ℕ) → (sheet_of t ≡ malformed) ↔ ((s : Sheet) → IsSheet t s → ⊥)

-- a text is that of one sheet at most
abbrev pub OneSheet : Type 0
OneSheet = (t : List ℕ) (s s' : Sheet) → IsSheet t s → IsSheet t s' → s ≡ s'

-- What is shown of the forms: each is read exactly where its printed form stands.
use Rattle.std.specs.Prelude.{ℕ, ◌^◌, ◌≤◌, ◌<◌, ◌≡◌, ◌↔◌, false, List, ◌++◌, length}
use Rattle.std.proofs.Math.Option.{some}
use Rattle.sets.specs.Sets.{width}
use Rattle.text.specs.Reading.{Read}
use Rattle.text.specs.Reading.Read.{got}
use Rattle.text.specs.Number.{number, decimal, opens_digit}
use Rattle.text.specs.Set.{set_digits, hex_set, hex_form}
use Rattle.text.specs.Field.{number_field, set_field, line_end, last_number, print_number_field, print_set_field}
use Rattle.text.specs.Field.{print_line_end}
use Rattle.text.specs.Lines.{lines_up_to, all_lines, print_lines, AllGood}

-- a number: its decimal form, not above the bound, with no digit after it
abbrev pub NumberExact : Type 0
NumberExact =
    (bound v : ℕ) (t rest : List ℕ)
    → (number bound t ≡ got v rest) ↔ ((t ≡ decimal v ++ rest) × (v ≤ bound) × (opens_digit rest ≡ false))

-- a set: its digits
abbrev pub SetExact : Type 0
SetExact = (m : ℕ) (t rest : List ℕ)
    → (hex_set t ≡ got m rest) ↔ ((t ≡ hex_form set_digits m ++ rest) × (m < 2 ^ width))

abbrev pub NumberFieldExact : Type 0
NumberFieldExact =
    (bound v : ℕ) (t rest : List ℕ)
    → (number_field bound t ≡ got v rest) ↔ ((t ≡ print_number_field v rest) × (v ≤ bound) × (opens_digit rest ≡ false))

abbrev pub SetFieldExact : Type 0
SetFieldExact =
    (m : ℕ) (t rest : List ℕ) → (set_field t ≡ got m rest) ↔ ((t ≡ print_set_field m rest) × (m < 2 ^ width))

abbrev pub LineEndExact : Type 0
LineEndExact = (t rest : List ℕ) → (line_end t ≡ got tt rest) ↔ (t ≡ print_line_end rest)

abbrev pub LastNumberExact : Type 0
LastNumberExact =
    (bound v : ℕ) (t rest : List ℕ)
    → (last_number bound t ≡ got v rest) ↔ ((t ≡ print_number_field v (print_line_end rest)) × (v ≤ bound))

-- lines, of a form: a text is read as at most k of them exactly if it is these printed one after another
abbrev pub LinesExact : {A : Type 0} → (List ℕ → Read A) → (A → List ℕ → List ℕ) → (A → Type 0) → Type 0
LinesExact {A} line print Good =
    (k : ℕ) (t : List ℕ) (ls : List A)
    → (lines_up_to line k t ≡ some ls) ↔ ((t ≡ print_lines print ls) × AllGood Good ls × (length ls ≤ k))

-- and as any number of them
abbrev pub AllLinesExact : {A : Type 0} → (List ℕ → Read A) → (A → List ℕ → List ℕ) → (A → Type 0) → Type 0
AllLinesExact {A} line print Good =
    (t : List ℕ) (ls : List A) → (all_lines line t ≡ some ls) ↔ ((t ≡ print_lines print ls) × AllGood Good ls)

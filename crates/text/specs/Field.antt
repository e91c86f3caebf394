-- Lines end in byte 10; fields are parted by one tab, byte 9 ("The three texts").
use Rattle.std.specs.Prelude.{ℕ, List, ◌∷◌, ◌++◌}
use Rattle.text.specs.Reading.{Read, and_then, byte}
use Rattle.text.specs.Reading.Read.{got}
use Rattle.text.specs.Number.{number, decimal}
use Rattle.text.specs.Set.{set_digits, hex_set, hex_form}

-- a tab and a number up to the bound
unfoldable pub number_field : ℕ → List ℕ → Read ℕ
number_field bound t = and_then (byte 9 t) (λ _ u. number bound u)

-- a tab and a set
unfoldable pub set_field : List ℕ → Read ℕ
set_field t = and_then (byte 9 t) (λ _ u. hex_set u)

-- the end of a line
abbrev pub line_end : List ℕ → Read Unit
line_end t = byte 10 t

-- a tab, a number up to the bound and the end of the line
unfoldable pub last_number : ℕ → List ℕ → Read ℕ
last_number bound t = and_then (number_field bound t) (λ v u. and_then (line_end u) (λ _ w. got v w))

-- the printed forms, before t
abbrev pub print_number_field : ℕ → List ℕ → List ℕ
print_number_field v t = 9 ∷ (decimal v ++ t)

abbrev pub print_set_field : ℕ → List ℕ → List ℕ
print_set_field m t = 9 ∷ (hex_form set_digits m ++ t)

abbrev pub print_line_end : List ℕ → List ℕ
print_line_end t = 10 ∷ t

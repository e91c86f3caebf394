-- What show must print, by the scope: its numbers in the order judged, each with when it applies, and the view
-- where none does.
use Rattle.std.specs.Prelude.{ℕ, ◌^◌, ◌<◌, ◌⊎◌, ◌≡◌, List, [], ◌∷◌, ◌++◌}
use Rattle.sets.specs.Sets.{width}
use Rattle.text.specs.Set.{set_digits, hex_form}
use Rattle.numbers.specs.Rows.{Row, ◌when◌}
use Rattle.numbers.specs.Calls.{Table}
use Rattle.memory.specs.View.{view_words}
use Rattle.memory_text.specs.Printing.{memory_text}
use Rattle.memory_text.specs.Theorems.{IsMemory}
use Rattle.simp.specs.Judgements.{OfSheet, NoSheet, Repeats, Strangers, OtherSize, IllFormed}
use Rattle.desk.specs.Output.{number_line}

-- ---- of the texts: a text is that of one group at most, and of one memory at most

-- The text is that of a group: its digits and byte 10.
abbrev pub IsGroup : List ℕ → ℕ → Type 0
IsGroup text g = (text ≡ hex_form set_digits g ++ (10 ∷ [])) × (g < 2 ^ width)

-- The text is that of a group, or of a memory, and P holds of it.
abbrev pub OfGroup : List ℕ → (ℕ → Type 0) → Type 0
OfGroup text P = (g : ℕ) × IsGroup text g × P g

abbrev pub OfMemory : List ℕ → (List ℕ → Type 0) → Type 0
OfMemory text P = (ws : List ℕ) × IsMemory text ws × P ws

-- ---- what else 3 and 8 are for: a text that isn't of its form

-- 3
abbrev pub NoGroup : List ℕ → Type 0
NoGroup group = (g : ℕ) → ¬ IsGroup group g

-- 8
abbrev pub NoMemory : List ℕ → Type 0
NoMemory text = (ws : List ℕ) → ¬ IsMemory text ws

-- ---- show

-- A memory text with another number of lines than the sheet has locations isn't of its form: 8, and 7 is never printed.
abbrev pub show_rows : List ℕ → List ℕ → List ℕ → List Row
show_rows sheet text group =
    1 when NoSheet sheet
    ∷ 2 when Repeats sheet
    ∷ 3 when (NoGroup group ⊎ OfGroup group (Strangers sheet))
    ∷ 8 when (NoMemory text ⊎ OfMemory text (λ ws. OtherSize sheet ws ⊎ IllFormed sheet ws))
    ∷ []

-- the number alone, or the view, written as a memory text is
abbrev pub show_table : List ℕ → List ℕ → List ℕ → Table (List ℕ)
show_table sheet text group = record {
  rows = show_rows sheet text group;
  refuse = number_line;
  Else = λ out.
      OfSheet sheet (λ s. OfGroup group (λ g. OfMemory text (λ ws. out ≡ memory_text (view_words s g ws))));
}

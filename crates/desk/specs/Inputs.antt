-- Show's output for a whole input: its texts are parted by empty lines (the scope, the program show).
use Rattle.std.specs.Prelude.{ℕ, ◌≡◌, List}
use Rattle.parts.specs.declared.State.{State}
use Rattle.parts.specs.Parts.{text_of}
use Rattle.parts.specs.Feeding.{text_held}
use Rattle.desk.specs.Show.{show_of}
use Rattle.desk.specs.Output.{put, put_length}

-- a sheet, a memory and a group
unfoldable pub show_texts : (ℕ → List ℕ) → List ℕ
show_texts text = show_of (text 0) (text 1) (text 2)

-- the output for an input
unfoldable pub shown_for : List ℕ → List ℕ
shown_for input = show_texts (λ i. text_of 2 i input)

-- the output for what a buffer holds of an input
unfoldable pub show_held : State → List ℕ → List ℕ
show_held s buffer = show_texts (text_held s buffer)

-- The output for some input was put; which input that is, no contract can say (crate input).
abbrev pub PutFor : (List ℕ → List ℕ) → List ℕ → List ℕ → ℕ → Type 0
PutFor output out after next =
    (input : List ℕ) × (next ≡ put_length out (output input)) × (after ≡ put out (output input))

-- What is shown of the parting.
use Rattle.std.specs.Prelude.{ℕ, ◌↔◌, ◌≡◌, true, List, [], ◌∷◌, ◌++◌}
use Rattle.parts.specs.Parts.{no_empty_line, joined}
use Rattle.parts.specs.Theorems.{AllWhole}
use Rattle.scripts.specs.Parting.{script_texts}

-- A text is parted into these exactly if it is them, joined by empty lines: each but the last of whole lines, and no
-- line of any empty.
pub record PartingExact : Type 0 where
  pub exact : (text : List ℕ) (ts : List (List ℕ)) (end : List ℕ)
      → (script_texts text ≡ ts ++ (end ∷ []))
      ↔ ((text ≡ joined ts end) × AllWhole ts × (no_empty_line true end ≡ true))
  -- every text has a last script
  pub some_last : (text : List ℕ) → (ts : List (List ℕ)) × (end : List ℕ) × (script_texts text ≡ ts ++ (end ∷ []))

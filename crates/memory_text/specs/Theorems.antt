-- A text is read as a memory exactly where it is the printed form of one.
use Rattle.std.specs.Prelude.{ℕ, ◌%◌, ◌≤◌, ◌≡◌, ◌↔◌, List, [], ◌∷◌, length}
use Rattle.text.specs.Reading.Read.{got}
use Rattle.text.specs.Number.{most}
use Rattle.language.specs.World.{cell_words}
use Rattle.memory_text.specs.Sizes.{memory_words}
use Rattle.memory_text.specs.Printing.{memory_text}
use Rattle.memory_text.specs.Reading.{memory}

-- each is a word of 32 bits
unfoldable pub Words : List ℕ → Type 0
Words [] = Unit
Words (w ∷ ws) = (w ≤ most) × Words ws

-- 16 words of 32 bits for each of at most 64 locations
pub record WholeLocations (ws : List ℕ) : Type 0 where
  pub whole : length ws % cell_words ≡ 0
  pub most_locations : length ws ≤ memory_words
  pub in_range : Words ws

-- The text is that of a memory: its printed form. Such a text has at most 11,264 bytes, so that the limit on texts
-- needs no mention.
abbrev pub IsMemory : List ℕ → List ℕ → Type 0
IsMemory t ws = (t ≡ memory_text ws) × WholeLocations ws

-- a text is read exactly if it is that of a memory
abbrev pub MemoryExact : Type 0
MemoryExact = (ws t : List ℕ) → (memory t ≡ got ws []) ↔ IsMemory t ws

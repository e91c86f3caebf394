-- The size of a memory, and of its text.
use Rattle.std.specs.Prelude.{ℕ, ◌*◌}
use Rattle.language.specs.World.{cell_words}
use Rattle.sheet.specs.Sheet.{max_locations}

-- the words of the most locations
abbrev pub memory_words : ℕ
memory_words = max_locations * cell_words

-- the bytes of the longest word: ten digits and a tab, or the line's end
abbrev pub word_room : ℕ
word_room = 11

-- the bytes of the longest line
abbrev pub line_room : ℕ
line_room = word_room * cell_words

-- the bytes of so many lines
abbrev pub memory_room : ℕ
memory_room = max_locations * line_room

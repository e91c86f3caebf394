-- What show takes from the texts of a memory and of a group.
use Rattle.std.specs.Prelude.{ℕ, List, [], Option, length, take}
use Rattle.std.specs.Option.{unwrap_or}
use Rattle.text.specs.Reading.{Read}
use Rattle.text.specs.Reading.Read.{got, bad}
use Rattle.sheet.specs.Padding.{padded}
use Rattle.memory_text.specs.Sizes.{memory_words}
use Rattle.memory_text.specs.Reading.{memory}
use Rattle.desk.specs.declared.Given.{Given}
use Rattle.desk.specs.Fields.{group_of}
use Rattle.desk.specs.Numbers.{unread}

-- the words of a memory text; none where it isn't of its form
unfoldable pub words_read : Read (List ℕ) → List ℕ
words_read (got ws _) = ws
words_read bad = []

-- A text that isn't of its form stands for no location, or for the empty group, and is refused for it.
unfoldable pub given_from : Read (List ℕ) → Option ℕ → Given
given_from m g = record {
  words = padded memory_words (words_read m);
  count = length (words_read m);
  group = unwrap_or g 0;
  other = unread g m;
}

unfoldable pub given_of : List ℕ → List ℕ → Given
given_of memory_text group = given_from (memory memory_text) (group_of group)

-- the words of the memory, without the zeros after them
abbrev pub given_words : Given → List ℕ
given_words g = take g.count g.words

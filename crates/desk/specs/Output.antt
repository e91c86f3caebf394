-- What is printed goes to the start of a lent buffer, which must have room for the longest output.
use Rattle.std.specs.Prelude.{ℕ, cond, List, [], ◌++◌, leb, length}
use Rattle.std.proofs.lemmas.List.Edits.{sets}
use Rattle.text.specs.Number.{decimal}
use Rattle.text.specs.Field.{print_line_end}
use Rattle.memory_text.specs.Sizes.{memory_room}

-- a line for each of the most locations; a number and the end of its line take less
abbrev pub output_room : ℕ
output_room = memory_room

-- the number alone, with the end of its line
unfoldable pub number_line : ℕ → List ℕ
number_line k = decimal k ++ print_line_end []

-- what the buffer then holds, and how many bytes were put
unfoldable pub put : List ℕ → List ℕ → List ℕ
put out bytes = cond (leb output_room (length out)) (sets out 0 bytes) out

unfoldable pub put_length : List ℕ → List ℕ → ℕ
put_length out bytes = cond (leb output_room (length out)) (length bytes) 0

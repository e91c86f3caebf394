-- What is found of a memory and of the slices that are lent, and the scope's number for it.
use Rattle.std.specs.Prelude.{ℕ, List, Result, Ok, Err, codes}
use Rattle.memory.specs.declared.MemoryError.{MemoryError}
use Rattle.memory.specs.declared.MemoryError.TheVariants.{OtherSize, IllFormed}

unfoldable pub memory_number : Result Unit MemoryError → ℕ
memory_number (Ok done) = 0
memory_number (Err OtherSize) = 7
memory_number (Err IllFormed) = 8

-- what is printed of it
abbrev pub memory_error_text : MemoryError → List ℕ
memory_error_text OtherSize = codes "a slice isn't 16 words for each location"
memory_error_text IllFormed = codes "the memory isn't well-formed"

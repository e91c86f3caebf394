-- What the functions over what was read and what is put require and ensure.
use Rattle.std.specs.Prelude.{◌≡◌, List, ℕ, ◌%◌, ◌≤◌, length}
use Rattle.std.proofs.lemmas.List.Edits.{sets}
use Rattle.language.specs.World.{cell_words}
use Rattle.memory_text.specs.Sizes.{memory_words}
use Rattle.desk.specs.declared.Given.{Given}

-- whole locations, at most 64
pub record Whole (g : Given) : Type 0 where
  pub whole : g.count % cell_words ≡ 0
  pub few : g.count ≤ memory_words
  pub all : length g.words ≡ memory_words

-- the bytes were put, and `next` is the place after them
pub record PutAll (out bytes now : List ℕ) (next : ℕ) : Type 0 where
  pub length_is : next ≡ length bytes
  pub held : now ≡ sets out 0 bytes

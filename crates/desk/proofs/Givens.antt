-- What is taken from the texts of a memory and a group, as the code reads them.
use Prim.Native.Nat.{ℕ, ◌*◌, ◌-◌, ◌/◌, ◌≤◌}
use native.Mathlib.Omega.{arith}
use mathlib.Core.Path.{◌≡◌, refl}
use mathlib.Core.List.{List}
use Rattle.std.specs.Prelude.{Option, Some, None}
use mathlib.Core.Bool.{Bool, true, false, not, true≢false, false≢true}
use Rattle.std.specs.Bool.{then_some}
use Rattle.std.specs.Option.{unwrap_or, is_some, option_or}
use lib.ListN.{length, replicate, length-append, length-replicate}
use lib.Seq.{take_at, length-take-le}
use Rattle.text.specs.Reading.{Read}
use Rattle.text.specs.Reading.Read.{got, bad}
use Rattle.memory_text.specs.declared.Memory.{Memory}
use Rattle.sheet.specs.Padding.{padded}
use Rattle.memory_text.specs.Reading.{memory}
use Rattle.memory_text.specs.Internal.Answers.{table, parsed_memory}
use Rattle.memory_text.proofs.Memories.{memory-sound}
use Rattle.memory_text.proofs.Tables.{memory-few}
use Rattle.language.specs.World.{cell_words}
use Rattle.memory_text.specs.Sizes.{memory_words}
use Rattle.stages.specs.declared.refusal.Refusal.{Refusal}
use Rattle.stages.specs.declared.refusal.Refusal.TheVariants.{PrincipalUnknown, MemoryIllFormed}
use Rattle.desk.specs.declared.Given.{Given}
use Rattle.desk.specs.Fields.{group_of}
use Rattle.desk.specs.Numbers.{unread}
use Rattle.desk.specs.Given.{words_read, given_from, given_of, given_words}
use Rattle.desk.specs.Internal.Post.{Whole}

pub given_whole : (text group : List ℕ) (g : Given) → g ≡ given_of text group → Whole g
unfolding given_of given_from words_read padded
given_whole text group g e = rw e (go (memory text) refl)
  where
    go : (want : Read (List ℕ)) → memory text ≡ want → Whole (given_from want (group_of group))
    go (got ws r) q =
        let s = (memory-sound ws text r q).1 in
        record {
          whole = s.whole;
          few = omega (arith, s.most_locations);
          all = omega (
            arith,
            length-append ws (replicate (memory_words - length ws) 0),
            length-replicate {A = ℕ} (memory_words - length ws) 0,
            s.most_locations,
          );
        }
    go bad q = record { whole = refl; few = omega arith; all = length-replicate {A = ℕ} memory_words 0 }

-- the words in use
pub words_length : (g : Given) → Whole g → length (given_words g) ≡ g.count
words_length g w = length-take-le g.count g.words (omega arith)

pub given_words_lem : (m : Read (List ℕ)) (g : Option ℕ) → given_words (given_from m g) ≡ words_read m
unfolding given_from padded
given_words_lem m g =
    take_at (words_read m) (replicate (memory_words - length (words_read m)) 0) (length (words_read m)) refl

-- what is given, by what the texts are read as
pub given_is : (text : List ℕ) (m : Option Memory) → m ≡ parsed_memory text
    → (o : Option ℕ) (r : Memory) (k : Option Refusal)
    → r ≡ unwrap_or m (record { count = 0; words = replicate memory_words 0 })
    → k ≡ unread o (memory text)
    → ◌≡◌ {A = Given}
    (record { words = r.words; count = r.count * cell_words; group = unwrap_or o 0; other = k })
    (given_from (memory text) o)
unfolding given_from parsed_memory table words_read padded
given_is text m em o r k er ek = rw (er, em, ek) (go (memory text) refl)
  where
    go : (want : Read (List ℕ)) → memory text ≡ want
        → record {
          words = (unwrap_or (table want) (record { count = 0; words = replicate memory_words 0 })).words;
          count = (unwrap_or (table want) (record { count = 0; words = replicate memory_words 0 })).count * cell_words;
          group = unwrap_or o 0;
          other = unread o want;
        } ≡ given_from want o
    go (got ws r) q =
        let n : length ws / cell_words * cell_words ≡ length ws =
        omega (arith, (memory-sound ws text r q).1.whole) in rw n
    go bad q = refl

-- what the texts are refused for, by whether each is of its form
pub unread_is : (o : Option ℕ) (want : Read (List ℕ)) (a b : Bool) → is_some o ≡ not a → is_some (table want) ≡ not b
    → option_or (then_some a PrincipalUnknown) (then_some b MemoryIllFormed) ≡ unread o want
unfolding unread table
unread_is None want true b ea eb = refl
unread_is None want false b ea eb = absurd (false≢true ea)
unread_is (Some x) want true b ea eb = absurd (true≢false ea)
unread_is (Some x) (got ws r) false true ea eb = absurd (true≢false eb)
unread_is (Some x) (got ws r) false false ea eb = refl
unread_is (Some x) bad false true ea eb = refl
unread_is (Some x) bad false false ea eb = absurd (false≢true eb)

-- what stands for a memory text that isn't of its form
abbrev pub no_memory : Memory
no_memory = record { count = 0; words = replicate memory_words 0 }

pub given_few : (text : List ℕ) (m : Option Memory) (r : Memory) → m ≡ parsed_memory text → r ≡ unwrap_or m no_memory
    → r.count * cell_words ≤ memory_words
given_few text None r e er = rw er (omega arith)
given_few text (Some m) r e er = rw er (memory-few text m e)

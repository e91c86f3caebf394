-- The table of a memory as the code fills it, location by location.
use Prim.Native.Nat.{ℕ, suc, ◌+◌, ◌*◌, ◌-◌, ◌/◌, ◌≤◌, ◌<◌}
use native.Mathlib.Omega.{arith}
use mathlib.Core.Path.{◌≡◌, refl, sym}
use mathlib.Core.Bool.{true, false}
use mathlib.Core.List.{List}
use mathlib.Core.Option.{Option, none, some}
use lib.ListN.{length, drop, replicate}
use Rattle.std.specs.Prelude.{Some, None}
use Rattle.std.specs.Prelude as std
use lib.Seq.{sets}
use Rattle.text.specs.Reading.{Read, fits}
use Rattle.text.specs.Reading.Read.{got, bad}
use Rattle.text.specs.Lines.{front, lines_up_to}
use Rattle.text.specs.Internal.Place.{placed}
use Rattle.text.proofs.Places.{placed_at, placed-bad}
use Rattle.text.proofs.Writings.{sets_append, sets_zeros}
use Rattle.text.proofs.Lines.{lines-at_end, lines_at_full, lines-at-bad, lines-at-more, line-sound, line_within}
use Rattle.reader.specs.Internal.Moved.{moved}
use Rattle.reader.proofs.Moves.{moved_found, moved_none}
use Rattle.language.specs.World.{cell_words}
use Rattle.sheet.specs.Sheet.{max_locations}
use Rattle.memory_text.specs.Sizes.{memory_words}
use Rattle.memory_text.specs.declared.Memory.{Memory}
use Rattle.sheet.specs.Padding.{padded}
use Rattle.sheet.proofs.Words.{length-padded}
use Rattle.memory_text.specs.Reading.{location, all_words, words_of_rows, locations, memory}
use Rattle.memory_text.specs.Internal.Answers.{table, parsed_memory}
use Rattle.memory_text.proofs.Lines.{memory-lines}
use Rattle.memory_text.proofs.Memories.{rows_sound, memory-sound}

-- a table of n locations with those that are still read after them
unfoldable pub tabled : ℕ → List ℕ → Option (List (List ℕ)) → std.Option Memory
tabled n words none = None
tabled n words (some rs) = Some (record { count = n + length rs; words = sets words (n * cell_words) (all_words rs) })

pub tabled_start : (t : List ℕ)
    → tabled 0 (replicate memory_words 0) (lines_up_to location max_locations t) ≡ table (locations max_locations t)
unfolding tabled table locations words_of_rows padded
tabled_start t = go (lines_up_to location max_locations t) refl
  where
    go : (o : Option (List (List ℕ))) → lines_up_to location max_locations t ≡ o
        → tabled 0 (replicate memory_words 0) o ≡ table (words_of_rows o)
    go none e = refl
    go (some rs) e =
        let r = rows_sound max_locations t rs e in
        let n = r.1 in
        let l = r.2 in
        let c : 0 + length rs ≡ length (all_words rs) / cell_words = omega arith in
        rw (c, sets_zeros memory_words (all_words rs) (omega arith))

-- one location more
tabled-front : (n : ℕ) (words row : List ℕ) (o : Option (List (List ℕ))) → length row ≡ cell_words
    → tabled n words (front row o) ≡ tabled (n + 1) (sets words (n * cell_words) row) o
unfolding tabled front all_words
tabled-front n words row none e = refl
tabled-front n words row (some rs) e =
    let c : n + suc (length rs) ≡ n + 1 + length rs = omega arith in
    let p : n * cell_words + length row ≡ (n + 1) * cell_words = omega arith in
    rw (c, sets_append words (n * cell_words) row (all_words rs), p)

-- the rest of a text at a place
module _ (n : ℕ) (words s : List ℕ) (i : ℕ) where
  pub rest_done : length s ≤ i → tabled n words (lines_up_to location (max_locations - n) (drop i s))
      ≡ Some (record { count = n; words = words })
  unfolding tabled all_words
  rest_done h = let z : n + 0 ≡ n = omega arith in rw (lines-at_end location max_locations n s i h, z)

  module _ (h : i < length s) where
    pub rest_full : max_locations ≤ n → tabled n words (lines_up_to location (max_locations - n) (drop i s)) ≡ None
    unfolding tabled
    rest_full l = rw (lines_at_full location max_locations n s i h l)

    module _ (l : n < max_locations) where
      pub rest-bad : location (drop i s) ≡ bad
          → tabled n words (lines_up_to location (max_locations - n) (drop i s)) ≡ None
      unfolding tabled
      rest-bad e = rw (lines-at-bad location max_locations n s i l h e)

      pub rest_more : (row : List ℕ) (p : ℕ) → location (drop i s) ≡ got row (drop p s)
          → tabled n words (lines_up_to location (max_locations - n) (drop i s))
          ≡ tabled (n + 1) (sets words (n * cell_words) row)
          (lines_up_to location (max_locations - (n + 1)) (drop p s))
      rest_more row p e =
          rw (lines-at-more location max_locations n s i l memory-lines.no_end row p e)
          (tabled-front n words row _ (line-sound memory-lines (drop i s) row (drop p s) e).1.0)

-- what a reader's answer at byte i says of what stands there
module _ (s : List ℕ) (i p : ℕ) where
  pub row_on : (row : List ℕ) → (Some row, p) ≡ moved i (placed s (location (drop i s)))
      → location (drop i s) ≡ got row (drop p s)
  row_on row e = (placed_at s i _ (line_within memory-lines (drop i s)) row p (sym (moved_found i p _ row e))).0

  pub row_off : (None, p) ≡ moved i (placed s (location (drop i s))) → location (drop i s) ≡ bad
  row_off e = placed-bad s i _ (sym (moved_none i p _ e))

-- a text that fits, and one that is too long
module _ (t : List ℕ) where
  pub memory_fits : fits t ≡ true → parsed_memory t ≡ table (locations max_locations t)
  unfolding parsed_memory memory
  memory_fits e = rw e

  pub memory-long : fits t ≡ false → parsed_memory t ≡ None
  unfolding parsed_memory memory table
  memory-long e = rw e

-- what is read: at most 64 locations, and the words of so many
module _ (t : List ℕ) (m : Memory) (e : Some m ≡ parsed_memory t) where
  go : (want : Read (List ℕ)) → memory t ≡ want → Some m ≡ table want
      → (m.count * cell_words ≤ memory_words) × (length m.words ≡ memory_words)
  unfolding table
  go (got ws r) q e =
      let x : m ≡ record { count = length ws / cell_words; words = padded memory_words ws } = cc in
      let w = (memory-sound ws t r q).1 in
      let few = w.most_locations in
      rw x (omega (arith, few), length-padded memory_words ws few)
  go bad q e = let z : ◌≡◌ {A = ℕ} 0 1 = cc in absurd (omega arith)

  pub memory-few : m.count * cell_words ≤ memory_words
  unfolding parsed_memory
  memory-few = (go (memory t) refl e).0

  pub memory_full : length m.words ≡ memory_words
  unfolding parsed_memory
  memory_full = (go (memory t) refl e).1

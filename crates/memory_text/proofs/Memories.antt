-- A memory is read exactly where its text stands.
use Prim.Native.Nat.{ℕ, zero, suc, ◌*◌, ◌/◌, ◌≤◌}
use native.Mathlib.Omega.{arith}
use mathlib.Core.Path.{◌≡◌, refl, ap, ◌∙◌}
use mathlib.Core.List.{List, [], ◌∷◌, ◌++◌}
use mathlib.Core.Option.{Option, none, some}
use lib.ListN.{length, take, drop, length-append, length-drop, take-append-drop}
use lib.Seq.{take_at, drop_at, length-take-le}
use borrow.Author.Tests.{le-leb}
use Rattle.text.specs.Reading.{limit, fits}
use Rattle.text.specs.Reading.Read.{got}
use Rattle.text.specs.Lines.{lines_up_to, print_lines, AllGood, empty_good, more_good}
use Rattle.logic.proofs.BooleanLaws.{cond_split}
use Rattle.text.proofs.Readings.{not_bad, got_same}
use Rattle.text.proofs.Lines.{lines_exact}
use Rattle.language.specs.World.{cell_words}
use Rattle.sheet.specs.Sheet.{max_locations}
use Rattle.memory_text.specs.Sizes.{line_room}
use Rattle.memory_text.specs.Printing.{trim, rows, lines, memory_text}
use Rattle.memory_text.specs.Reading.{location, all_words, words_of_rows, locations, memory}
use Rattle.memory_text.specs.Theorems.{Words, WholeLocations, MemoryExact}
use Rattle.memory_text.proofs.Trimming.{words_append, words_left, words_right, words_trim, length-trim}
use Rattle.memory_text.proofs.Lines.{Row, memory-lines, length-line}

-- ---- the words of locations, and the locations of words

joined_length : (rs : List (List ℕ)) → AllGood Row rs → length (all_words rs) ≡ cell_words * length rs
unfolding all_words
joined_length [] empty_good = refl
joined_length (row ∷ rs) (more_good g e) = length-append row (all_words rs) ∙ omega (arith, g.0, joined_length rs e)

joined_words : (rs : List (List ℕ)) → AllGood Row rs → Words (all_words rs)
unfolding all_words Words
joined_words [] empty_good = tt
joined_words (row ∷ rs) (more_good g e) = words_append row (all_words rs) g.1 (joined_words rs e)

rows_joined : (rs : List (List ℕ)) → AllGood Row rs → rows (length rs) (all_words rs) ≡ rs
unfolding all_words rows
rows_joined [] empty_good = refl
rows_joined (row ∷ rs) (more_good g e) =
    rw (take_at row (all_words rs) cell_words g.0, drop_at row (all_words rs) cell_words g.0)
    (ap (◌∷◌ row) (rows_joined rs e))

-- the words of the first location and those of the others
words_split : (ws : List ℕ) → Words ws → Words (take cell_words ws) × Words (drop cell_words ws)
words_split ws h =
    let x : Words (take cell_words ws ++ drop cell_words ws) = rw (take-append-drop cell_words ws) h in
    (words_left (take cell_words ws) (drop cell_words ws) x, words_right (take cell_words ws) (drop cell_words ws) x)

rows_length : (j : ℕ) (ws : List ℕ) → length (rows j ws) ≡ j
unfolding rows
rows_length zero ws = refl
rows_length (suc j) ws = ap suc (rows_length j (drop cell_words ws))

rows_good : (j : ℕ) (ws : List ℕ) → length ws ≡ cell_words * j → Words ws
    → AllGood Row (rows j ws) × (all_words (rows j ws) ≡ ws)
unfolding rows all_words
rows_good zero [] n h = (empty_good, refl)
rows_good zero (w ∷ ws) n h = absurd (omega arith)
rows_good (suc j) ws n h =
    let s = words_split ws h in
    let r = rows_good j (drop cell_words ws) (length-drop cell_words ws ∙ omega arith) s.1 in (
      more_good (length-take-le cell_words ws (omega arith), s.0) r.0,
      ap (λ (l : List ℕ). take cell_words ws ++ l) r.1 ∙ take-append-drop cell_words ws,
    )

-- a text of j locations has at most 176 bytes for each
length-lines : (j : ℕ) (ws : List ℕ) → length ws ≡ cell_words * j → Words ws → length (lines j ws) ≤ line_room * j
unfolding print_lines rows
length-lines zero ws n h = omega arith
length-lines (suc j) ws n h =
    let s = words_split ws h in
    let d : length (drop cell_words ws) ≡ cell_words * j = length-drop cell_words ws ∙ omega arith in
    let r : length (take cell_words ws) ≡ cell_words = length-take-le cell_words ws (omega arith) in
    omega (
      arith,
      length-line (trim (take cell_words ws)) (lines j (drop cell_words ws)) (words_trim (take cell_words ws) s.0)
          (omega (arith, length-trim (take cell_words ws))),
      length-lines j (drop cell_words ws) d s.1,
    )

-- what is read is 16 words in range for each of at most k locations, printed there
pub rows_sound : (k : ℕ) (t : List ℕ) (rs : List (List ℕ)) → lines_up_to location k t ≡ some rs
    → (t ≡ lines (length (all_words rs) / cell_words) (all_words rs)) × (length (all_words rs) ≡ cell_words * length rs)
    × (length rs ≤ k) × Words (all_words rs)
rows_sound k t rs e =
    let x = (lines_exact memory-lines k t rs).0 e in
    let n = joined_length rs x.1 in
    let q : length (all_words rs) / cell_words ≡ length rs = omega arith in
    (x.0 ∙ rw (q, rows_joined rs x.1), n, x.2, joined_words rs x.1)

locations-sound : (ws t r : List ℕ) → locations max_locations t ≡ got ws r
    → (t ≡ memory_text ws) × WholeLocations ws × (r ≡ [])
unfolding locations words_of_rows memory_text
locations-sound ws t r e = go (lines_up_to location max_locations t) refl e
  where
    go : (o : Option (List (List ℕ))) → lines_up_to location max_locations t ≡ o → words_of_rows o ≡ got ws r
        → (t ≡ memory_text ws) × WholeLocations ws × (r ≡ [])
    go none x h = not_bad ws r h
    go (some rs) x h =
        let z = got_same (all_words rs) ws [] r h in
        let y = rows_sound max_locations t rs x in
        let n = y.1 in
        let l = y.2 in
        rw (← z.0, ← z.1) (y.0, record { whole = omega arith; most_locations = omega arith; in_range = y.3 }, refl)

pub memory-sound : (ws t r : List ℕ) → memory t ≡ got ws r → (t ≡ memory_text ws) × WholeLocations ws × (r ≡ [])
unfolding memory
memory-sound ws t r e = cond_split (fits t) _ _ _ (λ p x. locations-sound ws t r x) (λ p x. not_bad ws r x) e

-- reading what was printed gives it back
pub memory_print : (ws : List ℕ) → WholeLocations ws → memory (memory_text ws) ≡ got ws []
unfolding memory memory_text fits locations words_of_rows
memory_print ws m =
    let n : length ws ≡ cell_words * (length ws / cell_words) = let w = m.whole in omega arith in
    let k : length ws / cell_words ≤ max_locations = let w = m.most_locations in omega arith in
    let f : length (lines (length ws / cell_words) ws) ≤ limit =
    omega (arith, length-lines (length ws / cell_words) ws n m.in_range) in
    let g = rows_good (length ws / cell_words) ws n m.in_range in
    let c = rows_length (length ws / cell_words) ws in
    rw (
      le-leb _ _ f,
      (lines_exact memory-lines max_locations _ (rows (length ws / cell_words) ws)).1 (refl, g.0, omega arith),
      g.1,
    )

pub memory_exact : MemoryExact
memory_exact ws t =
    (λ e. let r = memory-sound ws t [] e in (r.0, r.1), λ r. ap memory r.0 ∙ memory_print ws r.1)

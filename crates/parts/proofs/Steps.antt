-- One law for each case of a step, of the code and of the definition.
use Prim.Native.Nat.{ℕ, ◌+◌, ◌*◌, ◌≤◌, ◌<◌}
use mathlib.Core.Path.{◌≡◌, refl}
use mathlib.Core.Bool.{Bool, true, false}
use mathlib.Core.List.{List, [], ◌∷◌}
use lib.ListN.{length, drop, get_or, set, drop_of_length-le}
use lib.Dec.{eqb, ltb}
use borrow.Author.Tests.{lt-ltb, le-ltb, eq-eqb, ltb-true}
use Rattle.text.proofs.Readings.{drop-step}
use Rattle.parts.specs.declared.State.{State}
use Rattle.parts.specs.Parts.{parting, byte_if, text_from, keep}
use Rattle.parts.specs.Feeding.{texts, Held, held, count, room, turned, stored, stepped, fed}
use Rattle.parts.specs.Theorems.{Chunks}
use Rattle.logic.specs.Booleans.{both}

-- a line that is empty parts two texts, but for the last
pub parting_empty : (last j : ℕ) (start : Bool) (b : ℕ) → start ≡ true → b ≡ 10 → parting last j start b ≡ ltb j last
unfolding parting both
parting_empty last j start b h e = rw (h, eq-eqb b 10 e)

-- only a text before the last is parted from the next
pub parting_below : (last j : ℕ) (start : Bool) (b : ℕ) → parting last j start b ≡ true → j < last
unfolding parting both
parting_below last j true b e = go (eqb b 10) e
  where
    go : (t : Bool) → both t (ltb j last) ≡ true → j < last
    go true h = ltb-true j last h
    go false h = absurd (mathlib.Core.Bool.false≢true h)
parting_below last j false b e = absurd (mathlib.Core.Bool.false≢true e)

-- a byte of the text that goes on
module _ (s : State) (buffer : List ℕ) (b : ℕ) where
  pub stored_past : texts ≤ s.text
      → stored (held s buffer) b ≡ held (record { text = s.text; start = eqb b 10; kept = s.kept }) buffer
  unfolding stored room both
  stored_past h = rw (le-ltb _ _ h)

  module _ (l : s.text < texts) where
    pub stored_full : keep ≤ count s s.text
        → stored (held s buffer) b ≡ held (record { text = s.text; start = eqb b 10; kept = s.kept }) buffer
    unfolding stored room both
    stored_full h = rw (lt-ltb _ _ l, le-ltb _ _ h)

    pub stored_room : count s s.text < keep
        → stored (held s buffer) b
        ≡ held (record { text = s.text; start = eqb b 10; kept = set s.kept s.text (count s s.text + 1) })
        (set buffer (s.text * keep + count s s.text) b)
    unfolding stored room both
    stored_room h = rw (lt-ltb _ _ l, lt-ltb _ _ h)

-- a byte of the input
module _ (last : ℕ) (h : Held) (b : ℕ) where
  pub stepped_on : parting last h.state.text h.state.start b ≡ true → stepped last h b ≡ turned h
  unfolding stepped
  stepped_on e = rw e

  pub stepped_in : parting last h.state.text h.state.start b ≡ false → stepped last h b ≡ stored h b
  unfolding stepped
  stepped_in e = rw e

-- a chunk from a place on
module _ (last : ℕ) (h : Held) (chunk : List ℕ) (i : ℕ) where
  pub fed_more : i < length chunk
      → fed last h (drop i chunk) ≡ fed last (stepped last h (get_or chunk i 0)) (drop (i + 1) chunk)
  unfolding fed
  fed_more l = rw (drop-step chunk i l)

  pub fed_done : length chunk ≤ i → fed last h (drop i chunk) ≡ h
  unfolding fed
  fed_done l = rw (drop_of_length-le chunk l)

-- the definition, byte by byte
module _ (last i j : ℕ) (start : Bool) (b : ℕ) (t : List ℕ) where
  pub from_next : parting last j start b ≡ true → text_from last i j start (b ∷ t) ≡ text_from last i (j + 1) true t
  unfolding text_from
  from_next e = rw e

  pub from_same : parting last j start b ≡ false
      → text_from last i j start (b ∷ t) ≡ byte_if (eqb j i) b (text_from last i j (eqb b 10) t)
  unfolding text_from
  from_same e = rw e

pub chunks : Chunks
unfolding fed
chunks last h [] ys = refl
chunks last h (b ∷ xs) ys = chunks last (stepped last h b) xs ys

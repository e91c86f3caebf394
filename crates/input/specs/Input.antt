-- What is fed of a reader, as standard input. The contract of a read tells how many bytes it may answer and, of the
-- system's input, nothing of the bytes themselves, so that no contract can say which input was read: only what is fed
-- of one read's bytes, and that some input was fed whole.
use Rattle.std.specs.Prelude.{ℕ, ◌≡◌, Bool, false, List, [], Option, Some, None, ltb, take}
use Rattle.parts.specs.Feeding.{Held, fed}

-- the bytes that a read which gave so many put at the start of its chunk; one that failed put none
unfoldable pub got_bytes : Option ℕ → List ℕ → List ℕ
got_bytes (Some n) chunk = take n chunk
got_bytes None chunk = []

-- whether there may be more: the read neither failed nor met the end
unfoldable pub goes_on : Option ℕ → Bool
goes_on (Some n) = ltb 0 n
goes_on None = false

-- after some input
abbrev pub After : ℕ → Held → Held → Type 0
After last before after = (input : List ℕ) × (after ≡ fed last before input)

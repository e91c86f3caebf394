-- Input of any length, taken byte by byte: a state, and a buffer with 16,385 places for each text.
use Rattle.std.specs.Prelude.{ℕ, ◌+◌, ◌*◌, Bool, true, cond, List, [], ◌∷◌, take, drop, get_or, set, replicate, eqb}
use Rattle.std.specs.Prelude.{ltb}
use Rattle.parts.specs.declared.State.{State}
use Rattle.parts.specs.Parts.{parting, keep}
use Rattle.logic.specs.Booleans.{both}

-- the most texts that a state holds
abbrev pub texts : ℕ
texts = 8

-- before the first byte: text 0 goes on, a line starts, and nothing is kept
unfoldable pub beginning : State
beginning = record { text = 0; start = true; kept = replicate texts 0 }

-- the state, and what its buffer holds
pub record Held : Type 0 where
  pub state : State
  pub buffer : List ℕ

abbrev pub held : State → List ℕ → Held
held s buffer = record { state = s; buffer = buffer }

-- the next text, from a line's start on
unfoldable pub turned : Held → Held
turned h = held (record { text = h.state.text + 1; start = true; kept = h.state.kept }) h.buffer

-- how many bytes are kept of text i
abbrev pub count : State → ℕ → ℕ
count s i = get_or s.kept i 0

-- there is a place for one more byte of the text that goes on
unfoldable pub room : State → Bool
room s = both (ltb s.text texts) (ltb (count s s.text) keep)

-- the byte b after what is kept of its text
unfoldable pub stored : Held → ℕ → Held
stored h b =
    let s = h.state in
    let n = count s s.text in
    cond (room s)
    (held (record { text = s.text; start = eqb b 10; kept = set s.kept s.text (n + 1) })
    (set h.buffer (s.text * keep + n) b))
    (held (record { text = s.text; start = eqb b 10; kept = s.kept }) h.buffer)

-- one byte of an input with the texts 0 to last
unfoldable pub stepped : ℕ → Held → ℕ → Held
stepped last h b = cond (parting last h.state.text h.state.start b) (turned h) (stored h b)

-- the bytes of a chunk, one after another
unfoldable pub fed : ℕ → Held → List ℕ → Held
fed last h [] = h
fed last h (b ∷ t) = fed last (stepped last h b) t

-- what a buffer holds of text i
unfoldable pub text_held : State → List ℕ → ℕ → List ℕ
text_held s buffer i = take (count s i) (drop (i * keep) buffer)

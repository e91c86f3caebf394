-- Bytes go into a lent buffer from a place on: all of them, or none where they don't fit.
use Rattle.std.specs.Prelude.{ℕ, ◌+◌, Bool, cond, List, length, leb}
use Rattle.std.proofs.lemmas.List.Edits.{sets}

-- there are places for the bytes
abbrev pub has_room : List ℕ → ℕ → List ℕ → Bool
has_room out at bytes = leb (at + length bytes) (length out)

-- what the buffer then holds
unfoldable pub written : List ℕ → ℕ → List ℕ → List ℕ
written out at bytes = cond (has_room out at bytes) (sets out at bytes) out

-- the place after the bytes
unfoldable pub reached : List ℕ → ℕ → List ℕ → ℕ
reached out at bytes = cond (has_room out at bytes) (at + length bytes) at

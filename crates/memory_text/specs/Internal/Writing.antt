-- What the parts of writing a memory promise one another.
use Rattle.std.specs.Prelude.{ℕ, ◌+◌, ◌≤◌, ◌≡◌, List, length}
use Rattle.std.proofs.lemmas.List.Edits.{sets}

-- a form was written from `at` on, in at most `room` bytes: what follows it goes into the buffer as it is
-- now, at its place
pub record Puts (form : List ℕ → List ℕ) (room : ℕ) (out : List ℕ) (at : ℕ) (now : List ℕ) (place : ℕ) : Type 0 where
  pub bytes : (t : List ℕ) → sets out at (form t) ≡ sets now place t
  pub reach : (t : List ℕ) → at + length (form t) ≡ place + length t
  pub short : place ≤ at + room

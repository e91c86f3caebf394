-- What a reader finds, and the byte that it then has reached.
use Rattle.std.specs.Prelude.{ℕ, Option, Some, None}

-- of what stands at byte i with the byte after it: the value and that byte, or none and i itself
abbrev pub moved : {A : Type 0} → ℕ → Option (A × ℕ) → Option A × ℕ
moved i (Some x) = (Some x.0, x.1)
moved i None = (None, i)

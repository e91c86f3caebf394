-- What skipping an expression or a command over its lines ensures.
use Rattle.std.specs.Prelude.{◌≡◌, List, ℕ, ◌≤◌, drop}
use Rattle.script.specs.Lines.{ScriptLine}
use Rattle.script.specs.Internal.Code.{code}
use Rattle.script.specs.Internal.Pieces.{Piece}

pub record Skips (ws : List ℕ) (at next : ℕ) : Type 0 where
  pub forward : at ≤ next
  pub means : (ls rest : List ScriptLine) → Piece ls rest → drop at ws ≡ code ls → drop next ws ≡ code rest

-- The bytes of a quoted text. A blank in it stands for a tab, as in the scope.
use Rattle.std.specs.Prelude.{cond, List, [], ◌∷◌, ℕ, eqb}
use Prim.Native.Char.{code}
use Prim.Native.String.{String, [] as ε, ◌∷◌ as ◌▹◌}

unfoldable pub bytes : String → List ℕ
bytes ε = []
bytes (c ▹ s) = cond (eqb (code c) 32) 9 (code c) ∷ bytes s

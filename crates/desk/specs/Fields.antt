-- A text of one line and one field: a group (the scope, the program show).
use Rattle.std.specs.Prelude.{ℕ, Bool, false, cond, List, [], ◌∷◌, Option, Some, None, eqb, length}
use Rattle.text.specs.Reading.{Read}
use Rattle.text.specs.Reading.Read.{got, bad}
use Rattle.text.specs.Set.{hex_set}
use Rattle.logic.specs.Booleans.{both}

-- the end of the line, and nothing more
unfoldable pub closed : List ℕ → Bool
closed [] = false
closed (c ∷ t) = both (eqb c 10) (eqb (length t) 0)

-- a field that is the whole of its line, and of the text
unfoldable pub only_field : Read ℕ → Option ℕ
only_field (got v t) = cond (closed t) (Some v) None
only_field bad = None

-- a group: four digits and byte 10
unfoldable pub group_of : List ℕ → Option ℕ
group_of t = only_field (hex_set t)

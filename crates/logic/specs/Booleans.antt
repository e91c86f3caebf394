-- Truth values.
use Rattle.std.specs.Prelude.{Bool, true, false}

-- conjunction
unfoldable pub both : Bool → Bool → Bool
both true b = b
both false b = false

-- disjunction
unfoldable pub either : Bool → Bool → Bool
either true b = true
either false b = b

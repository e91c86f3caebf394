-- Starting labels (request (d)).
use Rattle.std.specs.Prelude.{List, [], ◌∷◌, ℕ}
use Rattle.simp.specs.CaseKinds.{Case, checks, checks_on, checks_long, runs, two_starts, four_locations, before}

-- after a script that starts at the label of location 1 and puts 7 there
unfoldable pub after_start : List ℕ
after_start = four_locations (1 ∷ 5 ∷ []) (1 ∷ 7 ∷ []) (4 ∷ 2 ∷ 1 ∷ []) (4 ∷ 2 ∷ 1 ∷ [])

unfoldable pub start_cases : List Case
start_cases =
    -- what is assigned must lie at or above the start, after a `;` and in a loop too
    checks "b 2\n= 0\ni 1\n" 6
    ∷ checks "b 2\n= 1\ni 1\n" 0
    ∷ checks "b 1\n= 0\ni 1\n" 6
    ∷ checks "b 1\n= 1\ni 1\n" 0
    ∷ checks "b 2\n;\n= 1\ni 1\n= 0\ni 1\n" 6
    ∷ checks "b 2\n;\n;\ns\ns\nw\nl 3\ni 1\n= 0\ni 1\n" 6
    -- a start that is above the location by its writers alone; a start at bottom, which asks as much as no start
    ∷ checks_on two_starts "b 1\n= 0\ni 1\n" 6
    ∷ checks_on two_starts "b 0\n= 0\ni 1\n" 0
    ∷ checks_on two_starts "= 0\ni 1\n" 0
    ∷ checks_on two_starts "b 0\n= 0\nx 1\n" 6
    ∷ checks_on two_starts "= 0\nx 1\n" 6
    -- a start takes no step
    ∷ runs "b 2\n= 1\ni 7\n" before 0b000 1 after_start
    -- refused: a label that isn't on this sheet, or can't be on any; no command after the start; a second start; a
    -- start that isn't first; a start without label
    ∷ checks "b 3\n= 1\ni 1\n" 4
    ∷ checks "b 31\n= 1\ni 1\n" 4
    ∷ checks "b 32\n= 1\ni 1\n" 4
    ∷ checks "b 3\n= 0\nx 2\n" 4
    ∷ checks "b 3\n= 0\nx 1\n" 4
    ∷ checks "b 2\n" 4
    ∷ checks "b 2\nb 2\n= 1\ni 1\n" 4
    ∷ checks "= 1\ni 1\nb 2\n" 4
    ∷ checks ";\nb 2\n= 1\ni 1\ns\n" 4
    ∷ checks "b\n= 1\ni 1\n" 4
    -- a start is one of the 512 lines: 511 more are accepted, 512 without it are, and 512 more aren't
    ∷ checks_long "b 2\n" 255 "s\n" 0
    ∷ checks_long "" 255 "= 1\ni 1\n" 0
    ∷ checks_long "b 2\n" 255 "= 1\ni 1\n" 4
    ∷ []

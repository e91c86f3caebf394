-- Rounds (request (a)).
use Rattle.std.specs.Prelude.{List, [], ◌∷◌, ℕ, replicate}
use Rattle.simp.specs.CaseKinds.{Case, rounds, sheet, nested, four_locations, before}

-- `before` with another integer in location 0
unfoldable pub before_with : ℕ → List ℕ
before_with n = four_locations (1 ∷ n ∷ []) (1 ∷ 62 ∷ []) (4 ∷ 2 ∷ 1 ∷ []) (4 ∷ 2 ∷ 1 ∷ [])

unfoldable pub round_cases : List Case
round_cases =
    -- 32 scripts, each of which adds 1 to location 0; 33 are refused
    rounds sheet (replicate 32 "= 0\n+\nx 0\ni 1\n") before 1 0 [] (replicate 32 1) (before_with 37)
    ∷ rounds sheet (replicate 33 "= 0\n+\nx 0\ni 1\n") before 1 11 [] [] before
    -- a script with number 4 after one with 6 refuses the round by 4; after an empty line at the end comes an empty
    -- script, which has 4
    ∷ rounds sheet ("= 0\ni 6\n" ∷ "= 0\nx 1\n" ∷ "= 0\n" ∷ []) before 1 4 [] [] before
    ∷ rounds sheet ("= 0\ni 6\n" ∷ "= 0\nx 1\n" ∷ []) before 1 6 [] [] before
    ∷ rounds sheet ("= 0\ni 6\n" ∷ "" ∷ []) before 1 4 [] [] before
    -- a script that stops, by 9 or by 10, leaves the memory as it was; the next one has the whole budget
    ∷ rounds sheet ("= 0\ni 6\n" ∷ ";\n= 0\ni 70\nw\nl 3\ni 1\ns\n" ∷ "= 0\n+\nx 0\ni 1\n" ∷ []) before 3 0
    (0 ∷ 9 ∷ 0 ∷ []) (1 ∷ 3 ∷ 1 ∷ []) (before_with 7)
    ∷ rounds nested
    ("s\n" ∷ "c\nl 18\nl 17\nl 16\nl 15\nl 14\nl 13\nl 12\nl 11\nl 10\nl 9\nl 8\nl 7\nl 6\nl 5\nl 3\ni 1\ns\ns\n" ∷
    ";\ns\ns\n" ∷ []) [] 2 0 (0 ∷ 10 ∷ 0 ∷ []) (0 ∷ 0 ∷ 1 ∷ []) []
    ∷ []

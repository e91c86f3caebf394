-- The scope's starred cases ("Cases"), and its two of long values.
use Rattle.std.specs.Prelude.{true, false, List, [], ◌∷◌, ℕ}
use Rattle.simp.specs.CaseKinds.{Case, reads_pooled, writes, checks, runs, spends, answers, two_policies}
use Rattle.simp.specs.CaseKinds.{readers_only, four_locations, before}

-- after the pack
unfoldable pub after_pack : List ℕ
after_pack = four_locations (1 ∷ 5 ∷ []) (1 ∷ 62 ∷ []) (3 ∷ 5 ∷ 2 ∷ 1 ∷ 62 ∷ []) (4 ∷ 2 ∷ 1 ∷ [])

-- after an unpack that leaves these words in location 3
unfoldable pub after_unpack : List ℕ → List ℕ
after_unpack words = four_locations (1 ∷ 5 ∷ []) (1 ∷ 62 ∷ []) (3 ∷ 5 ∷ 2 ∷ 1 ∷ 62 ∷ []) words

unfoldable pub starred_cases : List Case
starred_cases =
    reads_pooled two_policies 0b0001 true
    ∷ writes two_policies 0b0001 false
    ∷ reads_pooled two_policies 0b1000 false
    ∷ writes two_policies 0b1000 false
    ∷ reads_pooled two_policies 0b1001 true
    ∷ writes two_policies 0b1001 true
    ∷ reads_pooled readers_only 0b1100 true
    ∷ checks "= 0\nx 1\n" 6
    ∷ checks "= 1\nx 0\n" 0
    ∷ checks "= 0\nx 2\n" 5
    ∷ runs "= 2\nk 2\nx 1\n" before 0b010 1 after_pack
    ∷ runs "= 2\nk 2\nx 1\n" before 0b000 1 before
    ∷ checks "= 2\nk 1\nx 1\n" 6
    ∷ runs "c\nx 2\n= 3\nu 5 2\nv 0\ns\n" after_pack 0b001 2 (after_unpack (3 ∷ 1 ∷ 62 ∷ []))
    ∷ runs "c\nx 2\n= 3\nu 5 1\nv 0\ns\n" after_pack 0b001 2 (after_unpack (4 ∷ 2 ∷ 2 ∷ []))
    ∷ spends "w\nl 3\ni 1\ns\n" before 0b000
    ∷ []

unfoldable pub long_value_cases : List Case
long_value_cases =
    -- not starred: fourteen lefts over an integer fit, fifteen give 10
    answers "c\nl 17\nl 16\nl 15\nl 14\nl 13\nl 12\nl 11\nl 10\nl 9\nl 8\nl 7\nl 6\nl 5\nl 3\ni 1\ns\ns\n" 0 1
    ∷ answers "c\nl 18\nl 17\nl 16\nl 15\nl 14\nl 13\nl 12\nl 11\nl 10\nl 9\nl 8\nl 7\nl 6\nl 5\nl 3\ni 1\ns\ns\n" 10 0
    ∷ []

-- Smallest groups (request (b)).
use Rattle.std.specs.Prelude.{List, [], ◌∷◌}
use Prim.Native.String.{String}
use Rattle.simp.specs.CaseKinds.{Case, groups}

-- a label without policies, and the one of `readers_only` (CaseKinds.antt)
unfoldable pub two_labels : String
two_labels = "P 4\nL\nL\nO 0 0004 0000\nO 1 0008 0000\n"

unfoldable pub group_cases : List Case
group_cases =
    -- of {0: 2; 1: 3}: 0 or 2, together with 1 or 3; the groups rise, and the place after them is kept. Of a label
    -- without policies: each principal by itself, into as many places as there are groups
    groups two_labels 1 (7 ∷ 7 ∷ 7 ∷ 7 ∷ 7 ∷ []) 0 4 (0b0011 ∷ 0b0110 ∷ 0b1001 ∷ 0b1100 ∷ 7 ∷ [])
    ∷ groups two_labels 0 (7 ∷ 7 ∷ 7 ∷ 7 ∷ []) 0 4 (0b0001 ∷ 0b0010 ∷ 0b0100 ∷ 0b1000 ∷ [])
    -- a place too few, a label too many, a sheet without labels
    ∷ groups two_labels 1 (7 ∷ 7 ∷ 7 ∷ []) 12 0 (7 ∷ 7 ∷ 7 ∷ [])
    ∷ groups two_labels 2 (7 ∷ 7 ∷ 7 ∷ 7 ∷ []) 12 0 (7 ∷ 7 ∷ 7 ∷ 7 ∷ [])
    ∷ groups "P 1\n" 0 [] 12 0 []
    -- 2 comes before 12
    ∷ groups "P 1\nL\nL\n" 2 [] 2 0 []
    ∷ []

-- Trust-keeping scripts, and what is left where parties are distrusted (request (e)).
use Rattle.std.specs.Prelude.{List, [], ◌∷◌, ℕ}
use Prim.Native.String.{String}
use Rattle.simp.specs.CaseKinds.{Case, trusts, distrusts, sheet, two_starts, filled_rows, four_locations, before}

-- two principals; a label that both may write, and one whose owner 0 lets nobody else read or write; a package at each,
-- and an integer or error at the second; and sums with that one on the left and on the right
unfoldable pub two_packages : String
two_packages = "P 2\nT 0 1\nT 5 1\nT 0 5\nL\nL\nO 0 0000 0000\nX 2 0\nX 2 1\nX 5 1\n"

-- packages of label 1 with these integers, and other words in location 2
unfoldable pub packages : ℕ → ℕ → List ℕ → List ℕ
packages m n words = filled_rows ((5 ∷ 1 ∷ 1 ∷ m ∷ []) ∷ (5 ∷ 1 ∷ 1 ∷ n ∷ []) ∷ words ∷ [])

-- what is left of them where principal 1 is distrusted, who writes label 0
unfoldable pub packages_trusted : ℕ → List ℕ → List ℕ
packages_trusted n words = filled_rows ([] ∷ (5 ∷ 1 ∷ 1 ∷ n ∷ []) ∷ words ∷ [])

unfoldable pub trust_cases : List Case
trust_cases =
    -- trust-keeping: the unpack's operand lies at or below the wanted label, by writers too; not if by readers alone
    trusts two_packages "= 2\nu 5 1\nx 1\n" 0 1
    ∷ trusts two_packages "= 2\nu 5 1\nx 0\n" 0 0
    -- the operand's writers may be fewer than those of the wanted label
    ∷ trusts two_packages "c\nk 1\nx 1\nc\nu 5 0\nv 0\ns\ns\ns\n" 0 1
    -- each unpack counts: the first, the last, one in either branch, in a loop, in a case's expression, under a left, a
    -- right and a pack, and one of a bound value
    ∷ trusts two_packages ";\n= 2\nu 5 1\nx 0\n= 2\nu 5 1\nx 1\n" 0 0
    ∷ trusts two_packages ";\n= 2\nu 5 1\nx 1\n= 2\nu 5 1\nx 0\n" 0 0
    ∷ trusts two_packages ";\n= 2\nu 5 1\nx 1\n= 2\nu 5 1\nx 1\n" 0 1
    ∷ trusts two_packages "c\nx 2\n= 2\nu 5 1\nx 0\ns\n" 0 0
    ∷ trusts two_packages "c\nx 2\ns\n= 2\nu 5 1\nx 0\n" 0 0
    ∷ trusts two_packages "c\nx 2\n= 2\nu 5 1\nx 1\n= 2\nu 5 1\nx 1\n" 0 1
    ∷ trusts two_packages "w\nl 3\ni 1\n= 2\nu 5 1\nx 0\n" 0 0
    ∷ trusts two_packages "c\nu 5 1\nx 0\ns\ns\n" 0 0
    ∷ trusts two_packages "c\nl 6\nu 5 1\nx 0\ns\ns\n" 0 0
    ∷ trusts two_packages "c\nr 7\nu 5 1\nx 0\ns\ns\n" 0 0
    ∷ trusts two_packages "c\nk 1\nu 5 1\nx 0\n= 2\nu 5 1\nv 0\ns\n" 0 0
    ∷ trusts two_packages "c\nk 0\nx 0\nc\nu 5 1\nv 0\ns\ns\ns\n" 0 0
    ∷ trusts two_packages "c\nk 1\nx 1\n= 2\nu 5 1\nv 0\ns\n" 0 1
    -- of two bound values the outer and the inner one
    ∷ trusts two_packages "c\nk 0\nx 0\nc\nk 1\nx 1\nc\nu 5 1\nv 1\ns\ns\ns\ns\n" 0 0
    ∷ trusts two_packages "c\nk 0\nx 0\nc\nk 1\nx 1\nc\nu 5 1\nv 0\ns\ns\ns\ns\n" 0 1
    -- a script without unpack; guards and starting labels, which ask nothing of an unpack; refused scripts
    ∷ trusts two_packages "s\n" 0 1
    ∷ trusts two_packages "c\nk 0\nx 0\nc\nu 5 1\nx 1\ns\ns\ns\n" 0 1
    ∷ trusts two_packages "b 0\nc\nu 5 1\nx 1\ns\ns\n" 0 1
    ∷ trusts two_packages "b 1\n= 2\nu 5 1\nx 0\n" 0 0
    ∷ trusts two_packages "b 0\n= 2\nu 5 1\nx 1\n" 6 0
    ∷ trusts two_packages "= 1\nx 0\n" 6 0
    ∷ trusts two_packages "= 2\nx 1\n" 5 0
    ∷ trusts two_packages "" 4 0
    ∷ trusts "P 1\nL\nL\n" "s\n" 2 0
    ∷ trusts "" "s\n" 1 0
    -- Principal 1 is distrusted. It writes location 0 and no other, so two memories that differ there are alike in what
    -- is left. An accepted script that isn't trust-keeping makes them differ in it; a trust-keeping one doesn't.
    ∷ distrusts two_packages "= 2\nu 5 1\nx 0\n" 0b01 0b10 (packages 5 9 (4 ∷ 2 ∷ 1 ∷ []))
    (packages_trusted 9 (4 ∷ 2 ∷ 1 ∷ [])) (packages_trusted 9 (3 ∷ 1 ∷ 5 ∷ []))
    ∷ distrusts two_packages "= 2\nu 5 1\nx 0\n" 0b01 0b10 (packages 7 9 (4 ∷ 2 ∷ 1 ∷ []))
    (packages_trusted 9 (4 ∷ 2 ∷ 1 ∷ [])) (packages_trusted 9 (3 ∷ 1 ∷ 7 ∷ []))
    ∷ distrusts two_packages "= 2\nu 5 1\nx 1\n" 0b01 0b10 (packages 5 9 (4 ∷ 2 ∷ 1 ∷ []))
    (packages_trusted 9 (4 ∷ 2 ∷ 1 ∷ [])) (packages_trusted 9 (3 ∷ 1 ∷ 9 ∷ []))
    ∷ distrusts two_packages "= 2\nu 5 1\nx 1\n" 0b01 0b10 (packages 7 9 (4 ∷ 2 ∷ 1 ∷ []))
    (packages_trusted 9 (4 ∷ 2 ∷ 1 ∷ [])) (packages_trusted 9 (3 ∷ 1 ∷ 9 ∷ []))
    -- a package whose own label principal 1 writes, where it doesn't write the location's: the content is blanked, and
    -- a run doesn't open the package at a label that principal 1 doesn't write
    ∷ distrusts two_packages "= 2\nu 5 1\nx 1\n" 0b01 0b10
    (filled_rows ((5 ∷ 1 ∷ 1 ∷ 5 ∷ []) ∷ (5 ∷ 0 ∷ 1 ∷ 9 ∷ []) ∷ (4 ∷ 2 ∷ 1 ∷ []) ∷ []))
    (filled_rows ([] ∷ (5 ∷ 0 ∷ 0 ∷ []) ∷ (4 ∷ 2 ∷ 1 ∷ []) ∷ []))
    (filled_rows ([] ∷ (5 ∷ 0 ∷ 0 ∷ []) ∷ (4 ∷ 2 ∷ 2 ∷ []) ∷ []))
    ∷ distrusts two_packages "= 2\nu 5 1\nx 1\n" 0b01 0b10
    (filled_rows ((5 ∷ 1 ∷ 1 ∷ 5 ∷ []) ∷ (5 ∷ 0 ∷ 1 ∷ 8 ∷ []) ∷ (4 ∷ 2 ∷ 1 ∷ []) ∷ []))
    (filled_rows ([] ∷ (5 ∷ 0 ∷ 0 ∷ []) ∷ (4 ∷ 2 ∷ 1 ∷ []) ∷ []))
    (filled_rows ([] ∷ (5 ∷ 0 ∷ 0 ∷ []) ∷ (4 ∷ 2 ∷ 2 ∷ []) ∷ []))
    -- What counts is who writes, not who reads. Principal 1 reads both of these locations and writes only the second;
    -- both principals together write both. On the scope's sheet principal 1 writes every location, though it doesn't
    -- read label 2.
    ∷ distrusts two_starts "s\n" 0 0b10 (filled_rows ((1 ∷ 5 ∷ []) ∷ (1 ∷ 7 ∷ []) ∷ []))
    (filled_rows ((1 ∷ 5 ∷ []) ∷ [] ∷ [])) (filled_rows ((1 ∷ 5 ∷ []) ∷ [] ∷ []))
    ∷ distrusts two_starts "s\n" 0 0b11 (filled_rows ((1 ∷ 5 ∷ []) ∷ (1 ∷ 7 ∷ []) ∷ [])) (filled_rows ([] ∷ [] ∷ []))
    (filled_rows ([] ∷ [] ∷ []))
    ∷ distrusts sheet "s\n" 0 0b010 before (four_locations [] [] [] []) (four_locations [] [] [] [])
    -- where someone who writes all is distrusted nothing is left, and where nobody is, all; a content is blanked inside
    -- one that is left
    ∷ distrusts two_packages "s\n" 0 0b01 (packages 5 9 (4 ∷ 2 ∷ 1 ∷ [])) (filled_rows ([] ∷ [] ∷ [] ∷ []))
    (filled_rows ([] ∷ [] ∷ [] ∷ []))
    ∷ distrusts two_packages "s\n" 0 0b00 (packages 5 9 (4 ∷ 2 ∷ 1 ∷ [])) (packages 5 9 (4 ∷ 2 ∷ 1 ∷ []))
    (packages 5 9 (4 ∷ 2 ∷ 1 ∷ []))
    ∷ distrusts two_packages "s\n" 0 0b10
    (filled_rows ((5 ∷ 1 ∷ 1 ∷ 5 ∷ []) ∷ (5 ∷ 1 ∷ 5 ∷ 0 ∷ 1 ∷ 9 ∷ []) ∷ (4 ∷ 2 ∷ 1 ∷ []) ∷ []))
    (filled_rows ([] ∷ (5 ∷ 1 ∷ 5 ∷ 0 ∷ 0 ∷ []) ∷ (4 ∷ 2 ∷ 1 ∷ []) ∷ []))
    (filled_rows ([] ∷ (5 ∷ 1 ∷ 5 ∷ 0 ∷ 0 ∷ []) ∷ (4 ∷ 2 ∷ 1 ∷ []) ∷ []))
    ∷ []

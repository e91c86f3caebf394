-- One reader by himself (request (g)).
use Rattle.std.specs.Prelude.{true, false, List, [], ◌∷◌, ℕ}
use Prim.Native.String.{String}
use Rattle.simp.specs.CaseKinds.{Case, reads_alone, checks_on, runs_on, views, trusts, distrusts, groups}
use Rattle.simp.specs.CaseKinds.{two_policies, readers_only, filled_rows}

-- The labels of `two_labels` (GroupCases.antt); an integer at each, a package, an integer or error at label 1, and a
-- package or error.
unfoldable pub together : String
together = "P 4\nT 0 1\nL\nL\nO 0 0004 0000\nO 1 0008 0000\nX 0 0\nX 0 1\nX 2 0\nX 5 1\nX 4 0\n"

-- the same sheet where one reads by himself
unfoldable pub by_himself : String
by_himself = "P 4\nR 1\nT 0 1\nL\nL\nO 0 0004 0000\nO 1 0008 0000\nX 0 0\nX 0 1\nX 2 0\nX 5 1\nX 4 0\n"

-- sixteen principals, of whom 15 is the only one who reads label 0 by himself; an integer there
unfoldable pub last_reader : String
last_reader = "P 16\nR 1\nL\nO 0 8000 0000\nO 15 0000 0000\nX 0 0\n"

-- two labels that two principals keep each to himself; a package at the first
unfoldable pub each_his_own : String
each_his_own = "P 2\nR 1\nL\nO 0 0000 0000\nL\nO 1 0000 0000\nX 2 0\n"

-- a label without policies, and above it one that 2 and 3 read together; a package, and an integer or error at the
-- second
unfoldable pub below_together : String
below_together = "P 4\nT 0 1\nL\nL\nO 0 0004 000f\nO 1 0008 000f\nX 2 0\nX 5 1\n"

-- the same where one reads by himself
unfoldable pub below_by_himself : String
below_by_himself = "P 4\nR 1\nT 0 1\nL\nL\nO 0 0004 000f\nO 1 0008 000f\nX 2 0\nX 5 1\n"

-- on `together`, an integer at label 1, a package of label 1 with this content, and these words in locations 3 and 4
unfoldable pub with_package : List ℕ → List ℕ → List ℕ → List ℕ
with_package content a b = filled_rows ((1 ∷ 5 ∷ []) ∷ (1 ∷ 62 ∷ []) ∷ (5 ∷ 1 ∷ content) ∷ a ∷ b ∷ [])

-- what somebody is shown of it who doesn't read label 1
unfoldable pub package_shown : List ℕ
package_shown = filled_rows ((1 ∷ 5 ∷ []) ∷ [] ∷ (5 ∷ 1 ∷ 0 ∷ []) ∷ [] ∷ (4 ∷ 2 ∷ 1 ∷ []) ∷ [])

unfoldable pub reader_cases : List Case
reader_cases =
    -- {2,3} doesn't read {0: 2; 1: 3}, nor do all four together; of the other label 0 is a reader by himself, and so is
    -- 1; of a label without policies everyone is; the empty group reads nothing
    reads_alone readers_only 0b1100 false
    ∷ reads_alone readers_only 0b1111 false
    ∷ reads_alone two_policies 0b0001 true
    ∷ reads_alone two_policies 0b0010 true
    ∷ reads_alone two_policies 0b1001 true
    ∷ reads_alone two_policies 0b1100 false
    ∷ reads_alone two_policies 0b0000 false
    ∷ reads_alone [] 0b0100 true
    ∷ reads_alone [] 0b0000 false
    -- `R 1` stands right after `P`, once; the lines after it are as without it
    ∷ checks_on "P 4\nR 1\n" "s\n" 0
    ∷ checks_on "P 4\nR 1\nT 0 1\nL\nX 5 0\n" "= 0\nl 5\ni 1\n" 0
    ∷ checks_on "P 4\nR 1\nT 0 0\n" "s\n" 2
    ∷ checks_on "P 4\nR 0\n" "s\n" 1
    ∷ checks_on "P 4\nR 2\n" "s\n" 1
    ∷ checks_on "P 4\nR 01\n" "s\n" 1
    ∷ checks_on "P 4\nR\n" "s\n" 1
    ∷ checks_on "P 4\nR 1 1\n" "s\n" 1
    ∷ checks_on "P 4\nR 1" "s\n" 1
    ∷ checks_on "P 4\nR 1\nR 1\n" "s\n" 1
    ∷ checks_on "R 1\nP 4\n" "s\n" 1
    ∷ checks_on "P 4\nT 0 1\nR 1\n" "s\n" 1
    ∷ checks_on "P 4\nQ 0 1\nR 1\n" "s\n" 1
    ∷ checks_on "P 4\nL\nR 1\n" "s\n" 1
    ∷ checks_on "P 4\nL\nO 0 0001 0001\nR 1\n" "s\n" 1
    ∷ checks_on "P 4\nL\nX 0 0\nR 1\n" "s\n" 1
    -- a view follows the rule, in a location and in a package; the last principal is a reader too
    ∷ views together 0b1100 (with_package (1 ∷ 9 ∷ []) (4 ∷ 2 ∷ 1 ∷ []) (4 ∷ 2 ∷ 1 ∷ []))
    (with_package (1 ∷ 9 ∷ []) (4 ∷ 2 ∷ 1 ∷ []) (4 ∷ 2 ∷ 1 ∷ []))
    ∷ views by_himself 0b1100 (with_package (1 ∷ 9 ∷ []) (4 ∷ 2 ∷ 1 ∷ []) (4 ∷ 2 ∷ 1 ∷ [])) package_shown
    ∷ views by_himself 0b1111 (with_package (1 ∷ 9 ∷ []) (4 ∷ 2 ∷ 1 ∷ []) (4 ∷ 2 ∷ 1 ∷ [])) package_shown
    ∷ views by_himself 0b0000 (with_package (1 ∷ 9 ∷ []) (4 ∷ 2 ∷ 1 ∷ []) (4 ∷ 2 ∷ 1 ∷ []))
    (filled_rows ([] ∷ [] ∷ [] ∷ [] ∷ [] ∷ []))
    ∷ views last_reader 0b1000000000000000 (filled_rows ((1 ∷ 5 ∷ []) ∷ [])) (filled_rows ((1 ∷ 5 ∷ []) ∷ []))
    ∷ views last_reader 0b0111111111111111 (filled_rows ((1 ∷ 5 ∷ []) ∷ [])) (filled_rows ([] ∷ []))
    -- a group sees what one or another of its members reads: here one reads a package's location, another its content
    ∷ views each_his_own 0b11 (filled_rows ((5 ∷ 1 ∷ 1 ∷ 9 ∷ []) ∷ [])) (filled_rows ((5 ∷ 1 ∷ 1 ∷ 9 ∷ []) ∷ []))
    ∷ views each_his_own 0b01 (filled_rows ((5 ∷ 1 ∷ 1 ∷ 9 ∷ []) ∷ [])) (filled_rows ((5 ∷ 1 ∷ 0 ∷ []) ∷ []))
    -- an unpack asks it of the wanted label, even where the package's own is below that and is read; one member who
    -- reads is enough
    ∷ runs_on together "= 3\nu 5 1\nx 2\n" (with_package (1 ∷ 9 ∷ []) (4 ∷ 2 ∷ 3 ∷ []) (4 ∷ 2 ∷ 1 ∷ [])) 0b1100 0 1
    (with_package (1 ∷ 9 ∷ []) (3 ∷ 1 ∷ 9 ∷ []) (4 ∷ 2 ∷ 1 ∷ []))
    ∷ runs_on by_himself "= 3\nu 5 1\nx 2\n" (with_package (1 ∷ 9 ∷ []) (4 ∷ 2 ∷ 3 ∷ []) (4 ∷ 2 ∷ 1 ∷ [])) 0b1100 0 1
    (with_package (1 ∷ 9 ∷ []) (4 ∷ 2 ∷ 1 ∷ []) (4 ∷ 2 ∷ 1 ∷ []))
    ∷ runs_on below_together "= 1\nu 5 1\nx 0\n" (filled_rows ((5 ∷ 0 ∷ 1 ∷ 9 ∷ []) ∷ (4 ∷ 2 ∷ 3 ∷ []) ∷ [])) 0b1100 0 1
    (filled_rows ((5 ∷ 0 ∷ 1 ∷ 9 ∷ []) ∷ (3 ∷ 1 ∷ 9 ∷ []) ∷ []))
    ∷ runs_on below_by_himself "= 1\nu 5 1\nx 0\n"
    (filled_rows ((5 ∷ 0 ∷ 1 ∷ 9 ∷ []) ∷ (4 ∷ 2 ∷ 3 ∷ []) ∷ [])) 0b1100 0 1
    (filled_rows ((5 ∷ 0 ∷ 1 ∷ 9 ∷ []) ∷ (4 ∷ 2 ∷ 1 ∷ []) ∷ []))
    ∷ runs_on below_by_himself "= 1\nu 5 0\nx 0\n"
    (filled_rows ((5 ∷ 0 ∷ 1 ∷ 9 ∷ []) ∷ (4 ∷ 2 ∷ 3 ∷ []) ∷ [])) 0b0100 0 1
    (filled_rows ((5 ∷ 0 ∷ 1 ∷ 9 ∷ []) ∷ (3 ∷ 1 ∷ 9 ∷ []) ∷ []))
    -- writing stays pooled: 0 and 1 write label 1 together and neither by himself, in a pack and where distrusted
    ∷ runs_on by_himself "= 4\nk 1\ni 9\n" (with_package (1 ∷ 9 ∷ []) (4 ∷ 2 ∷ 1 ∷ []) (4 ∷ 2 ∷ 3 ∷ [])) 0b0011 0 1
    (with_package (1 ∷ 9 ∷ []) (4 ∷ 2 ∷ 1 ∷ []) (3 ∷ 5 ∷ 1 ∷ 1 ∷ 9 ∷ []))
    ∷ runs_on by_himself "= 4\nk 1\ni 9\n" (with_package (1 ∷ 9 ∷ []) (4 ∷ 2 ∷ 1 ∷ []) (4 ∷ 2 ∷ 3 ∷ [])) 0b0001 0 1
    (with_package (1 ∷ 9 ∷ []) (4 ∷ 2 ∷ 1 ∷ []) (4 ∷ 2 ∷ 1 ∷ []))
    ∷ distrusts by_himself "s\n" 0 0b0011 (with_package (1 ∷ 9 ∷ []) (4 ∷ 2 ∷ 1 ∷ []) (4 ∷ 2 ∷ 1 ∷ []))
    (filled_rows ([] ∷ [] ∷ [] ∷ [] ∷ [] ∷ [])) (filled_rows ([] ∷ [] ∷ [] ∷ [] ∷ [] ∷ []))
    ∷ distrusts by_himself "s\n" 0 0b0001 (with_package (1 ∷ 9 ∷ []) (4 ∷ 2 ∷ 1 ∷ []) (4 ∷ 2 ∷ 1 ∷ []))
    (filled_rows ([] ∷ (1 ∷ 62 ∷ []) ∷ [] ∷ (4 ∷ 2 ∷ 1 ∷ []) ∷ [] ∷ []))
    (filled_rows ([] ∷ (1 ∷ 62 ∷ []) ∷ [] ∷ (4 ∷ 2 ∷ 1 ∷ []) ∷ [] ∷ []))
    ∷ trusts by_himself "= 3\nu 5 1\nx 2\n" 0 0
    ∷ trusts by_himself "= 4\nk 1\ni 9\n" 0 1
    -- the smallest groups are the single readers: none, so that no place is needed; each of four; two, into two places,
    -- and into one, which is too few
    ∷ groups by_himself 1 (7 ∷ 7 ∷ []) 0 0 (7 ∷ 7 ∷ [])
    ∷ groups by_himself 1 [] 0 0 []
    ∷ groups by_himself 0 (7 ∷ 7 ∷ 7 ∷ 7 ∷ 7 ∷ []) 0 4 (0b0001 ∷ 0b0010 ∷ 0b0100 ∷ 0b1000 ∷ 7 ∷ [])
    ∷ groups "P 4\nR 1\nL\nO 0 0002 0004\nO 1 0001 000c\n" 0 (7 ∷ 7 ∷ []) 0 2 (0b0001 ∷ 0b0010 ∷ [])
    ∷ groups "P 4\nR 1\nL\nO 0 0002 0004\nO 1 0001 000c\n" 0 (7 ∷ []) 12 0 (7 ∷ [])
    ∷ []

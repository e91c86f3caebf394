-- Pairs (request (f)).
use Rattle.std.specs.Prelude.{List, [], ◌∷◌, ◌++◌, ℕ}
use Prim.Native.String.{String}
use Rattle.simp.specs.CaseKinds.{Case, checks_on, runs_on, views, rounds, trusts, distrusts, filled_rows}

-- The principals and labels of `two_packages` (TrustCases.antt). Types 5 and 6 are pkg*int and int*int, 7 is
-- int*int+error, and 8 to 11 pair int+int, int and pkg with 7, and 7 with int. A pkg*int at label 0, an int at label 1
-- and at label 0, an int*int+error at label 1, an int*int at label 0, and a pkg*int at label 1.
unfoldable pub pair_types : String
pair_types =
    "P 2\nQ 2 0\nQ 0 0\nT 6 1\nQ 3 7\nQ 0 7\nQ 2 7\nQ 7 0\nL\nL\nO 0 0000 0000\nX 5 0\nX 0 1\nX 0 0\nX 7 1\nX 6 0\nX 5 1\n"

-- Type 5 is int*int, of 5 words, and type 6 a pair of two of them, of 11. Types 8 and 10 are pairs with type 6 for
-- their first part, of at most 16 and 17 words. An integer, and a pair of type 8.
unfoldable pub long_pairs : String
long_pairs = "P 1\nQ 0 0\nQ 5 5\nT 3 0\nQ 6 7\nT 7 0\nQ 6 9\nL\nX 0 0\nX 8 0\n"

-- type 6 is (int+int)*(int*pkg); a package, and a value of type 6 or an error
unfoldable pub deep_pair : String
deep_pair = "P 1\nQ 0 2\nQ 3 5\nT 6 1\nL\nX 2 0\nX 7 0\n"

-- as many types as there can be, sums and pairs in turn
unfoldable pub most_types : String
most_types =
    "P 1\nQ 0 0\nT 5 0\nQ 6 0\nT 7 0\nQ 8 0\nT 9 0\nQ 10 0\nT 11 0\nQ 12 0\nT 13 0\nQ 14 0\nT 15 0\nQ 16 0\nT 17 0\nQ 18 0\nT 19 0\nQ 20 0\nT 21 0\nQ 22 0\nT 23 0\nQ 24 0\nT 25 0\nQ 26 0\nT 27 0\nQ 28 0\nT 29 0\nQ 30 0\n"

-- and one more
unfoldable pub too_many_types : String
too_many_types =
    "P 1\nQ 0 0\nT 5 0\nQ 6 0\nT 7 0\nQ 8 0\nT 9 0\nQ 10 0\nT 11 0\nQ 12 0\nT 13 0\nQ 14 0\nT 15 0\nQ 16 0\nT 17 0\nQ 18 0\nT 19 0\nQ 20 0\nT 21 0\nQ 22 0\nT 23 0\nQ 24 0\nT 25 0\nQ 26 0\nT 27 0\nQ 28 0\nT 29 0\nQ 30 0\nT 31 0\n"

-- on `pair_types`, with other words in location 0 and in locations 2 to 4
unfoldable pub pairs : List ℕ → List ℕ → List ℕ → List ℕ → List ℕ
pairs a n s p = filled_rows (a ∷ (1 ∷ 62 ∷ []) ∷ n ∷ s ∷ p ∷ (6 ∷ 5 ∷ 0 ∷ 1 ∷ 9 ∷ 1 ∷ 5 ∷ []) ∷ [])

-- the same with other words in location 0 alone
unfoldable pub first_of : List ℕ → List ℕ
first_of a = pairs a (1 ∷ 7 ∷ []) (4 ∷ 2 ∷ 1 ∷ []) (6 ∷ 1 ∷ 1 ∷ 1 ∷ 2 ∷ [])

-- the same with other words in location 3, and in location 0 the pair of a package of label 1, with these words for its
-- content, and 5
unfoldable pub pair_of : List ℕ → List ℕ → List ℕ
pair_of content s = pairs (6 ∷ 5 ∷ 1 ∷ content ++ (1 ∷ 5 ∷ [])) (1 ∷ 7 ∷ []) s (6 ∷ 1 ∷ 1 ∷ 1 ∷ 2 ∷ [])

-- the same with these integers in locations 2 and 4
unfoldable pub pairs_with : ℕ → ℕ → ℕ → List ℕ
pairs_with n a b = pairs (6 ∷ 5 ∷ 1 ∷ 1 ∷ 9 ∷ 1 ∷ 5 ∷ []) (1 ∷ n ∷ []) (4 ∷ 2 ∷ 1 ∷ []) (6 ∷ 1 ∷ a ∷ 1 ∷ b ∷ [])

-- on `deep_pair`, a package with this content, and these words in location 1
unfoldable pub leaf_of : List ℕ → List ℕ → List ℕ
leaf_of content words = filled_rows ((5 ∷ 0 ∷ content) ∷ words ∷ [])

-- on `long_pairs`, with this integer
unfoldable pub long_with : ℕ → List ℕ
long_with n = filled_rows ((1 ∷ n ∷ []) ∷ (6 ∷ 6 ∷ 6 ∷ 1 ∷ 0 ∷ 1 ∷ 0 ∷ 6 ∷ 1 ∷ 0 ∷ 1 ∷ 0 ∷ 4 ∷ 1 ∷ 0 ∷ []) ∷ [])

unfoldable pub pair_cases : List Case
pair_cases =
    -- a `Q` repeats a `Q` of the same types and no `T`, a given sum included; its types come before it, and it comes
    -- before the labels; there are at most 27 of both together
    checks_on "P 1\nT 0 1\nQ 0 1\n" "s\n" 0
    ∷ checks_on "P 1\nQ 0 0\nQ 2 1\nQ 1 2\n" "s\n" 0
    ∷ checks_on "P 1\nQ 0 1\nT 0 1\nQ 0 1\n" "s\n" 2
    ∷ checks_on "P 1\nQ 0 0\nT 0 0\n" "s\n" 2
    ∷ checks_on "P 1\nQ 0 0\nT 5 0\nQ 6 5\n" "s\n" 0
    ∷ checks_on "P 1\nQ 0 5\n" "s\n" 1
    ∷ checks_on "P 1\nL\nQ 0 0\n" "s\n" 1
    ∷ checks_on most_types "s\n" 0
    ∷ checks_on too_many_types "s\n" 1
    -- a pair's label is the join of its operands', the second's and the first's; a part has the label of the whole
    ∷ checks_on pair_types "= 4\np 6\nx 2\nx 2\n" 0
    ∷ checks_on pair_types "= 4\np 6\nx 2\nx 1\n" 6
    ∷ checks_on pair_types "= 4\np 6\nx 1\nx 2\n" 6
    ∷ checks_on pair_types "= 2\nf\np 6\nx 2\nx 1\n" 6
    ∷ checks_on pair_types "= 2\ng\np 6\nx 1\nx 2\n" 6
    ∷ checks_on pair_types "= 1\nf\np 6\ni 3\nx 1\n" 0
    -- a starting label asks the same of pairs
    ∷ checks_on pair_types "b 1\n= 4\np 6\ni 1\ni 2\n" 6
    ∷ checks_on pair_types "b 1\n= 1\ng\np 6\ni 1\ni 2\n" 0
    -- types: `p` names a pair type, and its operands are of that type's parts; `f` and `g` take a pair; `l`, `r` and
    -- `u` name a sum, and `c` and `w` take one
    ∷ checks_on pair_types "= 4\np 3\ni 1\ni 2\n" 5
    ∷ checks_on pair_types "= 4\np 6\ni 1\nf\nx 0\n" 5
    ∷ checks_on pair_types "= 4\np 6\nf\nx 0\ni 1\n" 5
    ∷ checks_on pair_types "= 0\np 6\ni 1\ni 2\n" 5
    ∷ checks_on pair_types "= 2\ng\nx 0\n" 0
    ∷ checks_on pair_types "= 2\nf\nx 0\n" 5
    ∷ checks_on pair_types "= 2\nf\nx 2\n" 5
    ∷ checks_on pair_types "= 1\ng\nx 3\n" 5
    ∷ checks_on pair_types "= 4\nl 6\ni 1\n" 5
    ∷ checks_on pair_types "= 4\nr 6\ni 1\n" 5
    ∷ checks_on pair_types "= 4\nu 6 1\nf\nx 0\n" 5
    ∷ checks_on pair_types "c\nx 4\ns\ns\n" 5
    ∷ checks_on pair_types "w\nx 4\ns\n" 5
    -- text: a type that isn't on the sheet, an operand too few, a number too many
    ∷ checks_on pair_types "= 4\np 12\ni 1\ni 2\n" 4
    ∷ checks_on pair_types "= 4\np 6\ni 1\n" 4
    ∷ checks_on pair_types "= 4\np\ni 1\ni 2\n" 4
    ∷ checks_on pair_types "= 2\nf 0\nx 4\n" 4
    -- a run makes a pair, takes its first part and its second, and makes one with the two exchanged
    ∷ runs_on pair_types "= 4\np 6\ni 3\nx 2\n" (pairs_with 7 1 2) 0 0 1 (pairs_with 7 3 7)
    ∷ runs_on pair_types "= 2\nf\nx 4\n" (pairs_with 7 1 2) 0 0 1 (pairs_with 1 1 2)
    ∷ runs_on pair_types "= 2\ng\nx 4\n" (pairs_with 7 1 2) 0 0 1 (pairs_with 2 1 2)
    ∷ runs_on pair_types "= 4\np 6\ng\nx 4\nf\nx 4\n" (pairs_with 7 1 2) 0 0 1 (pairs_with 7 2 1)
    -- an unpack tests both parts of a pair, down to the leaves, and doesn't look into packages
    ∷ runs_on deep_pair "= 1\nu 7 0\nx 0\n" (leaf_of (6 ∷ 3 ∷ 1 ∷ 2 ∷ 6 ∷ 1 ∷ 7 ∷ 5 ∷ 0 ∷ 2 ∷ 3 ∷ []) (4 ∷ 2 ∷ 1 ∷ []))
    1 0 1 (leaf_of (6 ∷ 3 ∷ 1 ∷ 2 ∷ 6 ∷ 1 ∷ 7 ∷ 5 ∷ 0 ∷ 2 ∷ 3 ∷ [])
    (3 ∷ 6 ∷ 3 ∷ 1 ∷ 2 ∷ 6 ∷ 1 ∷ 7 ∷ 5 ∷ 0 ∷ 2 ∷ 3 ∷ []))
    ∷ runs_on deep_pair "= 1\nu 7 0\nx 0\n" (leaf_of (6 ∷ 3 ∷ 1 ∷ 2 ∷ 6 ∷ 1 ∷ 7 ∷ 1 ∷ 9 ∷ []) (4 ∷ 2 ∷ 1 ∷ [])) 1 0 1
    (leaf_of (6 ∷ 3 ∷ 1 ∷ 2 ∷ 6 ∷ 1 ∷ 7 ∷ 1 ∷ 9 ∷ []) (4 ∷ 2 ∷ 3 ∷ []))
    ∷ runs_on deep_pair "= 1\nu 7 0\nx 0\n" (leaf_of (6 ∷ 3 ∷ 2 ∷ 2 ∷ 6 ∷ 1 ∷ 7 ∷ 5 ∷ 0 ∷ 1 ∷ 9 ∷ []) (4 ∷ 2 ∷ 1 ∷ []))
    1 0 1 (leaf_of (6 ∷ 3 ∷ 2 ∷ 2 ∷ 6 ∷ 1 ∷ 7 ∷ 5 ∷ 0 ∷ 1 ∷ 9 ∷ []) (4 ∷ 2 ∷ 3 ∷ []))
    ∷ runs_on pair_types "= 3\nu 7 1\nf\nx 0\n" (pair_of (6 ∷ 1 ∷ 3 ∷ 1 ∷ 4 ∷ []) (4 ∷ 2 ∷ 1 ∷ [])) 0b01 0 1
    (pair_of (6 ∷ 1 ∷ 3 ∷ 1 ∷ 4 ∷ []) (3 ∷ 6 ∷ 1 ∷ 3 ∷ 1 ∷ 4 ∷ []))
    ∷ runs_on pair_types "= 3\nu 7 1\nf\nx 0\n" (pair_of (6 ∷ 1 ∷ 3 ∷ 2 ∷ 1 ∷ []) (4 ∷ 2 ∷ 1 ∷ [])) 0b01 0 1
    (pair_of (6 ∷ 1 ∷ 3 ∷ 2 ∷ 1 ∷ []) (4 ∷ 2 ∷ 3 ∷ []))
    ∷ runs_on pair_types "= 3\nu 7 1\nf\nx 0\n" (pair_of (6 ∷ 2 ∷ 1 ∷ 1 ∷ 4 ∷ []) (4 ∷ 2 ∷ 1 ∷ [])) 0b01 0 1
    (pair_of (6 ∷ 2 ∷ 1 ∷ 1 ∷ 4 ∷ []) (4 ∷ 2 ∷ 3 ∷ []))
    ∷ runs_on pair_types "= 3\nu 7 1\nf\nx 0\n" (pair_of (1 ∷ 3 ∷ []) (4 ∷ 2 ∷ 1 ∷ [])) 0b01 0 1
    (pair_of (1 ∷ 3 ∷ []) (4 ∷ 2 ∷ 3 ∷ []))
    -- a memory with another type in the second part, without a second part, with words after it, is refused
    ∷ runs_on pair_types "s\n" (first_of (6 ∷ 5 ∷ 1 ∷ 1 ∷ 9 ∷ 2 ∷ 1 ∷ [])) 0 8 0
    (first_of (6 ∷ 5 ∷ 1 ∷ 1 ∷ 9 ∷ 2 ∷ 1 ∷ []))
    ∷ runs_on pair_types "s\n" (first_of (6 ∷ 5 ∷ 1 ∷ 1 ∷ 9 ∷ [])) 0 8 0 (first_of (6 ∷ 5 ∷ 1 ∷ 1 ∷ 9 ∷ []))
    ∷ runs_on pair_types "s\n" (first_of (6 ∷ 5 ∷ 1 ∷ 1 ∷ 9 ∷ 1 ∷ 5 ∷ 1 ∷ [])) 0 8 0
    (first_of (6 ∷ 5 ∷ 1 ∷ 1 ∷ 9 ∷ 1 ∷ 5 ∷ 1 ∷ []))
    -- a pair of 16 words fits, one of 17 gives 10, also where only a part of it is wanted
    ∷ runs_on long_pairs "= 1\np 8\np 6\np 5\ni 1\ni 2\np 5\ni 3\ni 4\nl 7\nl 3\ni 5\n" (long_with 0) 0 0 1
    (filled_rows ((1 ∷ 0 ∷ []) ∷ (6 ∷ 6 ∷ 6 ∷ 1 ∷ 1 ∷ 1 ∷ 2 ∷ 6 ∷ 1 ∷ 3 ∷ 1 ∷ 4 ∷ 3 ∷ 3 ∷ 1 ∷ 5 ∷ []) ∷ []))
    ∷ runs_on long_pairs "= 0\nf\ng\nf\np 8\np 6\np 5\ni 1\ni 2\np 5\ni 3\ni 4\nl 7\nl 3\ni 5\n"
    (long_with 0) 0 0 1 (long_with 3)
    ∷ runs_on long_pairs "= 0\nf\ng\nf\np 10\np 6\np 5\ni 1\ni 2\np 5\ni 3\ni 4\nl 9\nl 7\nl 3\ni 5\n"
    (long_with 0) 0 10 0 (long_with 0)
    -- a view: a hidden content is one zero word, however long it is, and the second part follows at once; who reads it
    -- sees all
    ∷ views pair_types 0b10 (pair_of (1 ∷ 9 ∷ []) (4 ∷ 2 ∷ 1 ∷ []))
    (filled_rows ((6 ∷ 5 ∷ 1 ∷ 0 ∷ 1 ∷ 5 ∷ []) ∷ [] ∷ (1 ∷ 7 ∷ []) ∷ [] ∷ (6 ∷ 1 ∷ 1 ∷ 1 ∷ 2 ∷ []) ∷ [] ∷ []))
    ∷ views pair_types 0b10 (pair_of (6 ∷ 3 ∷ 1 ∷ 9 ∷ 2 ∷ 3 ∷ []) (4 ∷ 2 ∷ 1 ∷ []))
    (filled_rows ((6 ∷ 5 ∷ 1 ∷ 0 ∷ 1 ∷ 5 ∷ []) ∷ [] ∷ (1 ∷ 7 ∷ []) ∷ [] ∷ (6 ∷ 1 ∷ 1 ∷ 1 ∷ 2 ∷ []) ∷ [] ∷ []))
    ∷ views pair_types 0b01 (pair_of (6 ∷ 3 ∷ 1 ∷ 9 ∷ 2 ∷ 3 ∷ []) (4 ∷ 2 ∷ 1 ∷ []))
    (pair_of (6 ∷ 3 ∷ 1 ∷ 9 ∷ 2 ∷ 3 ∷ []) (4 ∷ 2 ∷ 1 ∷ []))
    ∷ views pair_types 0b00 (pair_of (1 ∷ 9 ∷ []) (4 ∷ 2 ∷ 1 ∷ [])) (filled_rows ([] ∷ [] ∷ [] ∷ [] ∷ [] ∷ [] ∷ []))
    -- a round that makes a pair and takes a part
    ∷ rounds pair_types ("= 4\np 6\ni 3\ni 4\n" ∷ "= 2\ng\nx 4\n" ∷ []) (pairs_with 7 1 2) 1 0 [] (1 ∷ 1 ∷ [])
    (pairs_with 4 3 4)
    -- trust-keeping: an unpack counts in the part that isn't taken, in the guard of a `w`, under `+` on either side and
    -- under another unpack too
    ∷ trusts pair_types "= 3\nu 7 1\nf\nx 5\n" 0 1
    ∷ trusts pair_types "= 3\nu 7 1\nf\nx 0\n" 0 0
    ∷ trusts pair_types "= 1\nf\np 9\ni 1\nu 7 1\nf\nx 5\n" 0 1
    ∷ trusts pair_types "= 1\nf\np 9\ni 1\nu 7 1\nf\nx 0\n" 0 0
    ∷ trusts pair_types "= 1\ng\np 11\nu 7 1\nf\nx 0\ni 1\n" 0 0
    ∷ trusts pair_types "w\nf\np 8\nl 3\ni 1\nu 7 1\nf\nx 5\ns\n" 0 1
    ∷ trusts pair_types "w\nf\np 8\nl 3\ni 1\nu 7 1\nf\nx 0\ns\n" 0 0
    ∷ trusts pair_types "= 1\n+\ni 2\nf\np 9\ni 1\nu 7 1\nf\nx 5\n" 0 1
    ∷ trusts pair_types "= 1\n+\ni 2\nf\np 9\ni 1\nu 7 1\nf\nx 0\n" 0 0
    ∷ trusts pair_types "= 1\n+\nf\np 9\ni 1\nu 7 1\nf\nx 0\ni 2\n" 0 0
    ∷ trusts pair_types "= 3\nu 7 1\nf\np 10\nf\nx 5\nu 7 1\nf\nx 5\n" 0 1
    ∷ trusts pair_types "= 3\nu 7 1\nf\np 10\nf\nx 5\nu 7 1\nf\nx 0\n" 0 0
    -- a content that a distrusted party may have written is blanked in a pair, and the second part follows at once
    ∷ distrusts pair_types "s\n" 0 0b10 (pairs_with 7 1 2)
    (filled_rows ([] ∷ (1 ∷ 62 ∷ []) ∷ [] ∷ (4 ∷ 2 ∷ 1 ∷ []) ∷ [] ∷ (6 ∷ 5 ∷ 0 ∷ 0 ∷ 1 ∷ 5 ∷ []) ∷ []))
    (filled_rows ([] ∷ (1 ∷ 62 ∷ []) ∷ [] ∷ (4 ∷ 2 ∷ 1 ∷ []) ∷ [] ∷ (6 ∷ 5 ∷ 0 ∷ 0 ∷ 1 ∷ 5 ∷ []) ∷ []))
    ∷ []

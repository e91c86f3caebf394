-- The decoded sheet: one table of words, from which the checker, the interpreter and the view read.
use Rattle.std.specs.Prelude.{Bool, cond, List, [], ◌∷◌, ◌++◌, ℕ, ◌+◌, ◌*◌, ◌%◌, eqb, ltb, leb, get_or}
use Rattle.sets.specs.Sets.{everyone}
use Rattle.labels.specs.Labels.{bottom_of, below_of, reads_under, writes_of}
use Rattle.labels.specs.Internal.Tables.{label_size, label_words, label_at}
use Rattle.labels.specs.declared.Label.{Label}
use Rattle.labels.specs.declared.Rule.{Rule}
use Rattle.labels.specs.declared.Rule.TheVariants.{Pooled, Alone}
use Rattle.sheet.specs.declared.Kind.{Kind}
use Rattle.sheet.specs.declared.Kind.TheVariants.{Sum, Pair}
use Rattle.sheet.specs.Padding.{padded}
use Rattle.sheet.specs.Sheet.{Compound, Location, Sheet, type_count, labels_of, label_count, location_count}
use Rattle.sheet.specs.Sheet.{max_compounds, max_labels, max_locations, given_sums}

-- The table has words of counts, two words for each type and for each location, and the words of each label.
-- These are the words that the types, the locations and the labels have room in, where they start, and the number
-- of words in all.
abbrev pub max_types : ℕ
max_types = 5 + max_compounds

abbrev pub parts_room : ℕ
parts_room = 2 * max_types

abbrev pub locations_room : ℕ
locations_room = 2 * max_locations

abbrev pub labels_room : ℕ
labels_room = label_size * max_labels

abbrev pub parts_base : ℕ
parts_base = 8

abbrev pub locations_base : ℕ
locations_base = parts_base + parts_room

abbrev pub labels_base : ℕ
labels_base = locations_base + locations_room

abbrev pub table_words : ℕ
table_words = labels_base + labels_room

-- where the number of principals, their set, the counts of types, of labels and of locations, and the rule
-- of reading stand
abbrev pub principals_at : ℕ
principals_at = 0

abbrev pub everyone_at : ℕ
everyone_at = 1

abbrev pub types_at : ℕ
types_at = 2

abbrev pub labels_at : ℕ
labels_at = 3

abbrev pub locations_at : ℕ
locations_at = 4

abbrev pub rule_at : ℕ
rule_at = 5

-- where the parts of type i, and the words of label l, start
abbrev pub parts_place : ℕ → ℕ
parts_place i = parts_base + 2 * i

abbrev pub label_place : ℕ → ℕ
label_place l = labels_base + label_size * l

-- two words for each element
unfoldable pub entry_words : {A : Type 0} → (A → ℕ) → (A → ℕ) → List A → List ℕ
entry_words first second [] = []
entry_words first second (x ∷ xs) = first x ∷ second x ∷ entry_words first second xs

-- The second word of a type of a kind with the right part b. That of a pair is more than the number of any type.
unfoldable pub right_word : Kind → ℕ → ℕ
right_word Sum b = b % max_types
right_word Pair b = max_types + b % max_types

abbrev pub part_words : List Compound → List ℕ
part_words cs = entry_words (λ (c : Compound). c.left) (λ (c : Compound). right_word c.kind c.right) cs

abbrev pub location_words : List Location → List ℕ
location_words xs = entry_words (λ (x : Location). x.type) (λ (x : Location). x.label) xs

unfoldable pub labels_words : List Label → List ℕ
labels_words [] = []
labels_words (a ∷ rest) = label_words a ++ labels_words rest

-- what stands for a type without parts, and for a number that names no type
abbrev pub no_parts : Compound
no_parts = record { kind = Sum; left = 0; right = 0 }

-- the kinds and the parts of the given types by number
unfoldable pub given_parts : List Compound
given_parts = no_parts ∷ no_parts ∷ no_parts ∷ given_sums

unfoldable pub type_parts : Sheet → List Compound
type_parts s = given_parts ++ s.compounds

-- the kind and the parts of a type by its number
unfoldable pub parts_no : Sheet → ℕ → Compound
parts_no s t = get_or (type_parts s) t no_parts

-- the word of a rule of reading
unfoldable pub rule_word : Rule → ℕ
rule_word Pooled = 0
rule_word Alone = 1

-- The table of a sheet: eight words, of the counts and the rule, then the kinds and parts of its types, its locations
-- and its labels.
unfoldable pub table_of : Sheet → List ℕ
table_of s =
    (s.principals ∷ everyone s.principals ∷ type_count s ∷ label_count s ∷ location_count s
    ∷ rule_word s.rule ∷ 0 ∷ 0 ∷ [])
    ++ (padded parts_room (part_words (type_parts s))
    ++ (padded locations_room (location_words s.locations) ++ padded labels_room (labels_words (labels_of s))))

-- ---- what a table says. A number that names nothing has the parts, type and label 0, and the label bottom.

abbrev pub principals_in : List ℕ → ℕ
principals_in t = get_or t principals_at 0

abbrev pub everyone_in : List ℕ → ℕ
everyone_in t = get_or t everyone_at 0

abbrev pub types_in : List ℕ → ℕ
types_in t = get_or t types_at 0

abbrev pub labels_in : List ℕ → ℕ
labels_in t = get_or t labels_at 0

abbrev pub locations_in : List ℕ → ℕ
locations_in t = get_or t locations_at 0

-- the rule of reading
unfoldable pub rule_in : List ℕ → Rule
rule_in t = cond (eqb (get_or t rule_at 0) 0) Pooled Alone

-- the word of entry i in a list of count entries of two words that starts at base; 0 past its last entry
unfoldable pub entry_in : List ℕ → ℕ → ℕ → ℕ → ℕ
entry_in t count base i = cond (ltb i count) (get_or t (base + 2 * i) 0) 0

-- the left, or first, part of type i
unfoldable pub left_in : List ℕ → ℕ → ℕ
left_in t i = entry_in t (types_in t) parts_base i

-- the second word of type i, and the right, or second, part that it names
unfoldable pub right_word_in : List ℕ → ℕ → ℕ
right_word_in t i = entry_in t (types_in t) (parts_base + 1) i

unfoldable pub right_in : List ℕ → ℕ → ℕ
right_in t i = right_word_in t i % max_types

-- the kind of type i
unfoldable pub kind_in : List ℕ → ℕ → Kind
kind_in t i = cond (leb max_types (right_word_in t i)) Pair Sum

-- the type and the label of location x
unfoldable pub type_in : List ℕ → ℕ → ℕ
type_in t x = entry_in t (locations_in t) locations_base x

unfoldable pub home_in : List ℕ → ℕ → ℕ
home_in t x = entry_in t (locations_in t) (locations_base + 1) x

-- label l
unfoldable pub label_in : List ℕ → ℕ → Label
label_in t l = cond (ltb l (labels_in t)) (label_at t (label_place l)) (bottom_of (everyone_in t))

-- label l is at or below label m
unfoldable pub below_in : List ℕ → ℕ → ℕ → Bool
below_in t l m = below_of (label_in t l) (label_in t m)

-- the group g reads label l, by the rule, and writes it
unfoldable pub reads_in : List ℕ → ℕ → ℕ → Bool
reads_in t g l = reads_under (rule_in t) (principals_in t) g (label_in t l)

unfoldable pub writes_in : List ℕ → ℕ → ℕ → Bool
writes_in t g l = writes_of (principals_in t) g (label_in t l)

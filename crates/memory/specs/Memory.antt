-- A memory: 16 words for each location (the scope, "The three texts", Memory; pairs, request (f); refusals 7 and 8).
use Rattle.std.specs.Prelude.{Bool, true, false, cond, List, [], ◌∷◌, ◌++◌, ℕ, zero, suc, ◌*◌, eqb, leb, ltb, length}
use Rattle.std.specs.Prelude.{take, drop}
use Rattle.logic.specs.Booleans.{both}
use Rattle.sets.specs.Sets.{every}
use Rattle.language.specs.Syntax.{Head, Value, int, err, inl, inr, pkg, pair, blank, has}
use Rattle.language.specs.World.{Mem, cell_words}
use Rattle.sheet.specs.Sheet.{Sheet, ty_of, label_count, location_no, location_count}
use Rattle.memory.specs.Words.{cell, value_of}

-- the words of location x
unfoldable pub cell_of : List ℕ → ℕ → List ℕ
cell_of ws x = take cell_words (drop (cell_words * x) ws)

-- The value at each location. A number past the last location has the integer 0, which is of the type that
-- a sheet gives it.
unfoldable pub memory_of : List ℕ → Mem
memory_of ws = λ x. cond (ltb (cell_words * x) (length ws)) (value_of (cell_of ws x)) (int 0)

-- f 0, f 1, .. joined: n of them
unfoldable pub cells : ℕ → (ℕ → List ℕ) → List ℕ
cells zero f = []
cells (suc n) f = f 0 ++ cells n (λ (x : ℕ). f (suc x))

-- The words of a memory of n locations.
unfoldable pub words_of : ℕ → Mem → List ℕ
words_of n M = cells n (λ (x : ℕ). cell (M x))

-- ---- well-formed

-- The head's label is on the sheet, which has this many.
unfoldable pub proper_head : ℕ → Head → Bool
proper_head labels h = ltb h.label labels

-- Errors are 1 to 3, and the heads of packages are proper, also inside a content and in both parts of a
-- pair. Nothing is blank.
unfoldable pub proper : ℕ → Value → Bool
proper labels (int n) = true
proper labels (err e) = both (leb 1 e) (leb e 3)
proper labels (inl v) = proper labels v
proper labels (inr v) = proper labels v
proper labels (pkg h v) = both (proper_head labels h) (proper labels v)
proper labels (pair v w) = both (proper labels v) (proper labels w)
proper labels blank = false

-- the lists are equal, word by word
unfoldable pub equal_words : List ℕ → List ℕ → Bool
equal_words [] [] = true
equal_words [] (y ∷ ys) = false
equal_words (x ∷ xs) [] = false
equal_words (x ∷ xs) (y ∷ ys) = both (eqb x y) (equal_words xs ys)

-- The words are exactly the cell of v, which is proper and passes the test.
unfoldable pub exactly : ℕ → (Value → Bool) → List ℕ → Value → Bool
exactly labels test ws v = both (proper labels v) (both (test v) (equal_words (cell v) ws))

-- the words of a location are those of a value that passes the test
abbrev pub holds_by : ℕ → (Value → Bool) → List ℕ → Bool
holds_by labels test ws = exactly labels test ws (value_of ws)

-- each of n locations holds a value that passes its test
unfoldable pub formed_by : ℕ → ℕ → (ℕ → Value → Bool) → List ℕ → Bool
formed_by n labels test ws = every n (λ (x : ℕ). holds_by labels (test x) (cell_of ws x))

-- 7 where a lent slice of `len` words isn't 16 words for each of n locations, else what is refused besides
unfoldable pub slice_refusal : ℕ → ℕ → ℕ → ℕ
slice_refusal n other len = cond (eqb len (cell_words * n)) other 7

-- 7 where the memory isn't 16 words for each of n locations, 8 where it isn't well-formed, else 0
unfoldable pub refusal_by : ℕ → Bool → List ℕ → ℕ
refusal_by n formed ws = slice_refusal n (cond formed 0 8) (length ws)

-- the value has the location's declared type
unfoldable pub as_declared : Sheet → ℕ → Value → Bool
as_declared s x v = has v (ty_of s (location_no s x).type)

-- Each location's value has its declared type, and its labels are on the sheet.
unfoldable pub well_formed : Sheet → List ℕ → Bool
well_formed s ws = formed_by (location_count s) (label_count s) (as_declared s) ws

unfoldable pub memory_refusal : Sheet → List ℕ → ℕ
memory_refusal s ws = refusal_by (location_count s) (well_formed s ws) ws

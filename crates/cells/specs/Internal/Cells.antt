-- Cells of words, one after another, each as a location's words in memory. The first is the accumulator.
use Rattle.std.specs.Prelude.{cond, List, [], ◌∷◌, ◌++◌, ℕ, zero, suc, ◌+◌, ◌*◌, ◌-◌, ◌/◌, ltb, length, take, drop}
use Rattle.language.specs.World.{cell_words}
use Rattle.memory.specs.Words.{zeros}
use Rattle.memory.specs.Memory.{cell_of}

abbrev pub accumulator : ℕ
accumulator = 0

-- how many cells the words make
unfoldable pub cell_count : List ℕ → ℕ
cell_count ws = length ws / cell_words

-- the words of cell k; zeros where there is no such cell
unfoldable pub load_of : List ℕ → ℕ → List ℕ
load_of ws k = cond (ltb k (cell_count ws)) (cell_of ws k) (zeros cell_words)

-- ws with cell k replaced; unchanged where there is no such cell
unfoldable pub store_of : List ℕ → ℕ → List ℕ → List ℕ
store_of ws k words =
    cond (ltb k (cell_count ws)) (take (cell_words * k) ws ++ (words ++ drop (cell_words * k + cell_words) ws)) ws

-- a word in front; the last word goes
unfoldable pub push_of : ℕ → List ℕ → List ℕ
push_of w ws = w ∷ take (cell_words - 1) ws

-- words in front, in their order; as many go at the end
unfoldable pub pushes_of : List ℕ → List ℕ → List ℕ
pushes_of [] ws = ws
pushes_of (w ∷ us) ws = push_of w (pushes_of us ws)

-- the first word goes; a zero comes at the end
unfoldable pub pop_of : List ℕ → List ℕ
pop_of ws = drop 1 ws ++ (0 ∷ [])

-- the first n words go
unfoldable pub pops_of : ℕ → List ℕ → List ℕ
pops_of zero ws = ws
pops_of (suc n) ws = pop_of (pops_of n ws)

-- the first n words, and zeros after them
unfoldable pub cut_of : ℕ → List ℕ → List ℕ
cut_of n ws = take n ws ++ zeros (cell_words - n)

-- Values as words (the scope, "The three texts", Memory; pairs, request (f)).
use Rattle.std.specs.Prelude.{cond, List, [], ◌∷◌, ℕ, zero, suc, ◌-◌, eqb, leb, length, drop, get_or, replicate}
use Rattle.language.specs.Syntax.{Head, head_size, Value, int, err, inl, inr, pkg, pair, blank, size}
use Rattle.language.specs.World.{cell_words}

-- The words of a package's head, its label, then the rest.
unfoldable pub head_words : Head → List ℕ → List ℕ
head_words h rest = h.label ∷ rest

-- The words of a value, then the rest: `1 n` integer, `2 e` error, `3` left or `4` right and a value, `5` package with
-- its head and a value, `6` pair and two values, the second right after the first. Content that a view hides is one
-- zero word, and what comes after it follows at once.
unfoldable pub enc : Value → List ℕ → List ℕ
enc (int n) rest = 1 ∷ n ∷ rest
enc (err e) rest = 2 ∷ e ∷ rest
enc (inl v) rest = 3 ∷ enc v rest
enc (inr v) rest = 4 ∷ enc v rest
enc (pkg h v) rest = 5 ∷ head_words h (enc v rest)
enc (pair v w) rest = 6 ∷ enc v (enc w rest)
enc blank rest = 0 ∷ rest

abbrev pub zeros : ℕ → List ℕ
zeros n = replicate n 0

-- The words of a location that holds a value: words after the value are 0.
unfoldable pub cell : Value → List ℕ
cell v = enc v (zeros (cell_words - size v))

-- ---- reading

-- a value and the words after it
abbrev pub Got : Type 0
Got = Value × List ℕ

unfoldable pub wrap : (Value → Value) → Got → Got
wrap f got = (f got.0, got.1)

-- a value that is given by one word
unfoldable pub numbered : (ℕ → Value) → List ℕ → Got
numbered f [] = (blank, [])
numbered f (n ∷ ws) = (f n, ws)

-- the head whose words start at a place
unfoldable pub head_at : List ℕ → ℕ → Head
head_at ws at = record { label = get_or ws at 0 }

-- a package whose content r reads after its head; blank where the words end before
unfoldable pub packaged : (List ℕ → Got) → List ℕ → Got
packaged r ws = cond (leb head_size (length ws)) (wrap (pkg (head_at ws 0)) (r (drop head_size ws))) (blank, [])

-- a pair whose parts r reads, the second after the first
unfoldable pub paired : (List ℕ → Got) → List ℕ → Got
paired r ws = wrap (pair (r ws).0) (r (r ws).1)

-- the value whose first word is w, with r reading its parts; blank where no value starts with w
unfoldable pub tagged : (List ℕ → Got) → ℕ → List ℕ → Got
tagged r w ws =
    cond (eqb w 1) (numbered int ws)
    (cond (eqb w 2) (numbered err ws)
    (cond (eqb w 3) (wrap inl (r ws))
    (cond (eqb w 4) (wrap inr (r ws))
    (cond (eqb w 5) (packaged r ws)
    (cond (eqb w 6) (paired r ws)
    (blank, ws))))))

-- reading within a number of words
unfoldable pub read : ℕ → List ℕ → Got
read zero ws = (blank, ws)
read (suc k) [] = (blank, [])
read (suc k) (w ∷ ws) = tagged (λ us. read k us) w ws

-- The value that the words start with, and the words after it; it has a blank where the words are no value's.
unfoldable pub read_of : List ℕ → Got
read_of ws = read (length ws) ws

abbrev pub value_of : List ℕ → Value
value_of ws = (read_of ws).0

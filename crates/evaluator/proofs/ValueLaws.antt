-- The words of values: pushed onto, popped off, and counted.
use Rattle.std.proofs.Common.{◌≡◌, ℕ, zero, suc, ◌+◌, ◌-◌, ◌<◌, ◌≤◌, List, [], ◌∷◌, ◌++◌, length, get_or, take, drop}
use Rattle.std.proofs.Common.{sym, refl, ap, ◌∙◌, ap₂, append_assoc, append-nil, add-zero, suc-add, add-one, arith}
use Rattle.std.proofs.Common.{length-drop, take_all, take-take, drop-drop, drop_at}
use lib.ListN.{length-replicate, replicate-append-replicate}
use lib.Seq.{drop-append-le}
use Rattle.language.specs.Syntax.{Head, head_of, head_size, Value, int, err, inl, inr, pkg, pair, blank, size}
use Rattle.language.specs.World.{cell_words}
use Rattle.memory.specs.Words.{head_words, enc, zeros, cell}
use Rattle.memory.specs.Memory.{cell_of}
use Rattle.memory.proofs.HeadLaws.{head_take}
use Rattle.memory.proofs.WordLaws.{length-enc, length-cell, enc-append}
use Rattle.cells.specs.Internal.Cells.{push_of, pushes_of, pop_of, pops_of, cut_of}
use Rattle.evaluator.specs.Internal.Nodes.{Tags}
use Rattle.cells.proofs.CellLaws.{cell-short}

-- ---- the first words of a value and of a cell, and zeros after them

take-enc : (v : Value) (m : ℕ) (rest : List ℕ) → take (size v + m) (enc v rest) ≡ enc v (take m rest)
unfolding enc size
take-enc (int n) m rest = let e : 2 + m ≡ suc (suc m) = omega arith in rw e refl
take-enc (err n) m rest = let e : 2 + m ≡ suc (suc m) = omega arith in rw e refl
take-enc (inl v) m rest = rw (suc-add (size v) m) (ap (λ (l : List ℕ). 3 ∷ l) (take-enc v m rest))
take-enc (inr v) m rest = rw (suc-add (size v) m) (ap (λ (l : List ℕ). 4 ∷ l) (take-enc v m rest))
take-enc (pkg h v) m rest =
    let e : suc (head_size + size v) + m ≡ suc (head_size + (size v + m)) = omega arith in
    rw e (ap (λ (u : List ℕ). 5 ∷ u) (head_take h (size v + m) (enc v rest) ∙ ap (head_words h) (take-enc v m rest)))
take-enc (pair v w) m rest =
    let e : suc (size v + size w) + m ≡ suc (size v + (size w + m)) = omega arith in
    rw e (ap (λ (u : List ℕ). 6 ∷ u) (take-enc v (size w + m) (enc w rest) ∙ ap (enc v) (take-enc w m rest)))
take-enc blank m rest = let e : 1 + m ≡ suc m = omega arith in rw e refl

take-zeros : (k n : ℕ) → k ≤ n → take k (zeros n) ≡ zeros k
take-zeros zero n h = refl
take-zeros (suc k) zero h = absurd (omega arith)
take-zeros (suc k) (suc n) h = ap (λ (l : List ℕ). 0 ∷ l) (take-zeros k n (omega arith))

-- the first words of a cell, no fewer than its value has
take-cell : (v : Value) (n : ℕ) → size v ≤ n → n ≤ cell_words → take n (cell v) ≡ enc v (zeros (n - size v))
unfolding cell
take-cell v n h l =
    let e : n ≡ size v + (n - size v) = omega arith in
    ap (λ (m : ℕ). take m (enc v (zeros (16 - size v)))) e ∙ take-enc v (n - size v) (zeros (16 - size v))
    ∙ ap (enc v) (take-zeros (n - size v) (16 - size v) (omega arith))

-- a value's words, and one zero more than there are
enc_more : (v : Value) (n : ℕ) → enc v (zeros n) ++ (0 ∷ []) ≡ enc v (zeros (n + 1))
enc_more v n = enc-append v (zeros n) (0 ∷ []) ∙ ap (enc v) (replicate-append-replicate n 1 0)

-- the last zero of a cell
zeros_more : (v : Value) (n : ℕ) → n + 1 ≡ cell_words - size v → enc v (zeros n) ++ (0 ∷ []) ≡ cell v
unfolding cell
zeros_more v n e = enc_more v n ∙ ap (λ (m : ℕ). enc v (zeros m)) e

-- a value in a cell is not too long
pub cell_size : (ws : List ℕ) (k : ℕ) (v : Value) → cell_of ws k ≡ cell v → size v ≤ cell_words
unfolding cell
cell_size ws k v e =
    omega (
      arith,
      cell-short ws k,
      ap (λ (l : List ℕ). length l) e,
      length-enc v (zeros (16 - size v)),
      length-replicate {A = ℕ} (16 - size v) 0,
    )

pub tags_left : Tags 3 inl
unfolding enc size
tags_left = record { words = λ v rest. refl; longer = λ v. refl }

pub tags_right : Tags 4 inr
unfolding enc size
tags_right = record { words = λ v rest. refl; longer = λ v. refl }

-- ---- words pushed onto the cell of a value, and popped off it

module _ {w : ℕ} {f : Value → Value} (t : Tags w f) (v : Value) where
  -- the cell of f v, by the words of v
  tagged-cell : cell (f v) ≡ w ∷ enc v (zeros (15 - size v))
  unfolding cell
  tagged-cell =
      let n : 16 - suc (size v) ≡ 15 - size v = omega arith in
      ap (λ (m : ℕ). enc (f v) (zeros (16 - m))) (t.longer v) ∙ t.words v (zeros (16 - suc (size v)))
      ∙ ap (λ (m : ℕ). w ∷ enc v (zeros m)) n

  pub push_tag : size v < cell_words → push_of w (cell v) ≡ cell (f v)
  unfolding push_of
  push_tag h = ap (λ (l : List ℕ). w ∷ l) (take-cell v 15 (omega arith) (omega arith)) ∙ sym tagged-cell

  pub pop_tag : size v < cell_words → pop_of (cell (f v)) ≡ cell v
  unfolding pop_of
  pop_tag h = ap pop_of tagged-cell ∙ zeros_more v (15 - size v) (omega arith)

-- a number pushed onto zeros, then the word that says of what kind it is

pub push_int : (n : ℕ) → push_of 1 (push_of n (zeros cell_words)) ≡ cell (int n)
unfolding push_of cell enc size
push_int n = refl

pub push_failure : (e : ℕ) → push_of 4 (push_of 2 (push_of e (zeros cell_words))) ≡ cell (inr (err e))
unfolding push_of cell enc size
push_failure e = refl

pub push_package : (l : ℕ) (v : Value) → size v ≤ 14 → push_of 5 (push_of l (cell v)) ≡ cell (pkg (head_of l) v)
unfolding push_of cell head_words enc size
push_package l v h =
    let n : 14 - size v ≡ 16 - suc (head_size + size v) = omega arith in
    ap (λ (u : List ℕ). 5 ∷ l ∷ u)
    (take-take 14 15 (cell v) (omega arith) ∙ take-cell v 14 h (omega arith) ∙ ap (λ (m : ℕ). enc v (zeros m)) n)

pub pop_package : (h : Head) (v : Value) → size v ≤ 14 → pop_of (pop_of (cell (pkg h v))) ≡ cell v
unfolding pop_of cell head_words enc size
pop_package h v s =
    let n : 16 - suc (head_size + size v) + 1 ≡ 15 - size v = omega arith in
    ap (λ (u : List ℕ). u ++ (0 ∷ [])) (enc_more v (16 - suc (head_size + size v)) ∙ ap (λ (m : ℕ). enc v (zeros m)) n)
    ∙ zeros_more v (15 - size v) (omega arith)

-- words in front of a cell, and words taken off it: as many go or come at the end

pushes_take : (us ws : List ℕ) → length ws ≡ cell_words → pushes_of us ws ≡ take cell_words (us ++ ws)
unfolding pushes_of push_of
pushes_take [] ws long = sym (take_all 16 ws (omega arith))
pushes_take (w ∷ us) ws long = ap (λ (l : List ℕ). w ∷ take 15 l) (pushes_take us ws long)
    ∙ ap (λ (l : List ℕ). w ∷ l) (take-take 15 16 (us ++ ws) (omega arith))

-- a value's words alone, and others after them
enc_alone : (v : Value) (rest : List ℕ) → enc v [] ++ rest ≡ enc v rest
enc_alone v rest = enc-append v [] rest

-- the words of a value that a cell starts with
cell-front : (v : Value) → size v ≤ cell_words → take (size v) (cell v) ≡ enc v []
unfolding cell
cell-front v h =
    ap (λ (n : ℕ). take n (enc v (zeros (16 - size v)))) (sym (add-zero (size v))) ∙ take-enc v 0 (zeros (16 - size v))

pub push_pair : (v w : Value) → size v + size w < cell_words
    → push_of 6 (pushes_of (take (size v) (cell v)) (cell w)) ≡ cell (pair v w)
unfolding push_of cell enc size
push_pair v w h =
    let n : 15 ≡ size v + (15 - size v) = omega arith in
    let k : 15 - size v - size w ≡ 16 - suc (size v + size w) = omega arith in
    ap (λ (l : List ℕ). 6 ∷ take 15 l)
    (pushes_take (take (size v) (cell v)) (cell w) (length-cell w (omega arith))
    ∙ ap (λ (l : List ℕ). take 16 (l ++ cell w)) (cell-front v (omega arith))
    ∙ ap (take 16) (enc_alone v (cell w)))
    ∙ ap (λ (l : List ℕ). 6 ∷ l)
    (take-take 15 16 (enc v (cell w)) (omega arith) ∙ ap (λ (m : ℕ). take m (enc v (cell w))) n
    ∙ take-enc v (15 - size v) (cell w)
    ∙ ap (enc v) (take-cell w (15 - size v) (omega arith) (omega arith) ∙ ap (λ (m : ℕ). enc w (zeros m)) k))

pops_drop : (n : ℕ) (ws : List ℕ) → n ≤ length ws → pops_of n ws ≡ drop n ws ++ zeros n
unfolding pops_of pop_of
pops_drop zero ws h = sym (append-nil ws)
pops_drop (suc n) ws h =
    ap pop_of (pops_drop n ws (omega arith))
    ∙ ap (λ (l : List ℕ). l ++ (0 ∷ [])) (drop-append-le 1 (drop n ws) (zeros n) (omega (arith, length-drop n ws))
    ∙ ap (λ (l : List ℕ). l ++ zeros n) (drop-drop 1 n ws))
    ∙ append_assoc (drop (n + 1) ws) (zeros n) (0 ∷ [])
    ∙ ap₂ (λ (k : ℕ) (l : List ℕ). drop k ws ++ l) (add-one n) (replicate-append-replicate n 1 0 ∙ ap zeros (add-one n))

-- the words after a value
drop-enc : (v : Value) (rest : List ℕ) → drop (size v) (enc v rest) ≡ rest
drop-enc v rest =
    ap (drop (size v)) (sym (enc_alone v rest)) ∙ drop_at (enc v []) rest (size v) (length-enc v [] ∙ add-zero (size v))

pub pop_second : (v w : Value) → size v + size w < cell_words → pops_of (suc (size v)) (cell (pair v w)) ≡ cell w
unfolding cell enc size
pop_second v w h =
    let z = zeros (16 - suc (size v + size w)) in
    let n : 16 - suc (size v + size w) + suc (size v) ≡ 16 - size w = omega arith in
    pops_drop (suc (size v)) (cell (pair v w)) (omega (arith, length-cell (pair v w) (omega arith)))
    ∙ ap (λ (l : List ℕ). l ++ zeros (suc (size v))) (drop-enc v (enc w z))
    ∙ enc-append w z (zeros (suc (size v)))
    ∙ ap (enc w) (replicate-append-replicate (16 - suc (size v + size w)) (suc (size v)) 0 ∙ ap zeros n)

pub pop_first : (v w : Value) → size v ≤ cell_words → cut_of (size v) (pop_of (cell (pair v w))) ≡ cell v
unfolding cut_of pop_of cell enc size
pop_first v w h =
    let z = enc w (zeros (16 - suc (size v + size w))) in
    ap (λ (l : List ℕ). l ++ zeros (16 - size v))
    (ap (take (size v)) (enc-append v z (0 ∷ []))
    ∙ ap (λ (n : ℕ). take n (enc v (z ++ (0 ∷ [])))) (sym (add-zero (size v))) ∙ take-enc v 0 (z ++ (0 ∷ [])))
    ∙ enc_alone v (zeros (16 - size v))

-- ---- the first word of a value tells its kind

pub data Kind : ℕ → Value → Type 0 where
  is_int : {n : ℕ} → Kind 1 (int n)
  is_err : {e : ℕ} → Kind 2 (err e)
  is_inl : {v : Value} → Kind 3 (inl v)
  is_inr : {v : Value} → Kind 4 (inr v)
  is_pkg : {h : Head} {v : Value} → Kind 5 (pkg h v)
  is_pair_lem : {v w : Value} → Kind 6 (pair v w)
  is_blank : Kind 0 blank

pub kind-enc : (v : Value) (rest : List ℕ) → Kind (get_or (enc v rest) 0 0) v
unfolding enc
kind-enc (int n) rest = is_int
kind-enc (err e) rest = is_err
kind-enc (inl v) rest = is_inl
kind-enc (inr v) rest = is_inr
kind-enc (pkg h v) rest = is_pkg
kind-enc (pair v w) rest = is_pair_lem
kind-enc blank rest = is_blank

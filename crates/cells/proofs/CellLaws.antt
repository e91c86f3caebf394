-- Cells of words: what is loaded and stored, and what stays.
use mathlib.Core.Path.{◌≡◌, refl, sym, ap, ap₂, ◌∙◌}
use mathlib.Core.Logic.{◌⊎◌, inl, inr, ⊎_elim}
use mathlib.Core.Bool.{Bool, true, false}
use mathlib.Core.List.{List, [], ◌∷◌, ◌++◌, append_assoc, append-nil}
use Prim.Native.Nat.{min, ℕ, zero, suc, ◌+◌, ◌*◌, ◌-◌, ◌/◌, ◌≤◌, ◌<◌}
use native.Mathlib.Omega.{arith}
use native.Mathlib.Nat.{le-div_iff_mul-le, zero-add}
use native.Mathlib.Numerals.{add-one}
use borrow.Author.Tests.{lt-ltb, le-ltb, ltb-true, ltb-false}
use lib.Dec.{ltb}
use lib.ListN.{length, take, drop, get_or, set, length-append, length-take, length-drop, length-replicate}
use lib.ListN.{take-append-drop, drop_of_length-le, get_or-append}
use lib.Seq.{length-take-le, take_at, drop_at, drop-append-le, drop-append-add, take-append-le, drop-drop}
use lib.Seq.{take-take, take_all, paste, paste-suc, length_paste_head, get_or-take, get_or-drop}
use lib.Seq.{get_or-append-add}
use Rattle.std.proofs.lemmas.Bool.{cases_lt}
use lib.ListN.{replicate-append-replicate}
use lib.Seq.{take-append-add}
use lib.Seq.{get_or_at}
use borrow.Rule.Slice.PartMut.{put_mid}
use Rattle.std.proofs.lemmas.Slice.{between_is}
use Rattle.std.proofs.lemmas.List.{drop-replicate}
use Rattle.language.specs.World.{cell_words}
use Rattle.memory.specs.Words.{zeros}
use Rattle.memory.specs.Memory.{cell_of}
use Rattle.memory.proofs.CellsLaws.{length-cell_of}
use Rattle.cells.specs.Internal.Cells.{cell_count, load_of, store_of, push_of, pushes_of, pop_of, pops_of, cut_of}

-- ---- which cells there are

pub there : (ws : List ℕ) (k : ℕ) → cell_words * k + cell_words ≤ length ws → k < cell_count ws
unfolding cell_count
there ws k h = (le-div_iff_mul-le {k = 16} {x = suc k} {y = length ws} (omega arith)).1 (omega arith)

pub room : (ws : List ℕ) (k : ℕ) → k < cell_count ws → cell_words * k + cell_words ≤ length ws
unfolding cell_count
room ws k h = omega (arith, (le-div_iff_mul-le {k = 16} {x = suc k} {y = length ws} (omega arith)).0 h)

-- ---- a cell by itself

pub cell_first : (ws : List ℕ) → cell_of ws 0 ≡ take cell_words ws
unfolding cell_of
cell_first ws = refl

pub cell-short : (ws : List ℕ) (k : ℕ) → length (cell_of ws k) ≤ cell_words
unfolding cell_of
cell-short ws k = simp length-take (omega arith)

cell-later : (ws : List ℕ) (k : ℕ) → cell_of ws (suc k) ≡ cell_of (drop cell_words ws) k
unfolding cell_of
cell-later ws k =
    let e : 16 * suc k ≡ 16 + 16 * k = omega arith in
    ap (λ (n : ℕ). take 16 (drop n ws)) e ∙ ap (take 16) (sym (drop-drop (16 * k) 16 ws))

-- the cells after the first depend on the words after the first cell
pub cell_agree : (a b : List ℕ) (k : ℕ) → 0 < k → drop cell_words a ≡ drop cell_words b → cell_of a k ≡ cell_of b k
cell_agree a b zero h e = absurd (omega arith)
cell_agree a b (suc k) h e = cell-later a k ∙ ap (λ (l : List ℕ). cell_of l k) e ∙ sym (cell-later b k)

-- ---- a cell of a list that is put together

pub cell-front : (p x : List ℕ) (j : ℕ) → cell_words * j + cell_words ≤ length p → cell_of (p ++ x) j ≡ cell_of p j
unfolding cell_of
cell-front p x j h =
    ap (take 16) (drop-append-le (16 * j) p x (omega arith))
    ∙ take-append-le 16 (drop (16 * j) p) x (omega (arith, length-drop (16 * j) p))

cell_back : (p q x : List ℕ) (j : ℕ) → length p ≡ length q → length p ≤ cell_words * j
    → cell_of (p ++ x) j ≡ cell_of (q ++ x) j
unfolding cell_of
cell_back p q x j e h =
    let a : 16 * j ≡ length p + (16 * j - length p) = omega arith in
    let b : 16 * j ≡ length q + (16 * j - length p) = omega arith in
    ap (take 16) (ap (λ (n : ℕ). drop n (p ++ x)) a ∙ drop-append-add p x (16 * j - length p)
    ∙ sym (drop-append-add q x (16 * j - length p)) ∙ ap (λ (n : ℕ). drop n (q ++ x))
    (sym b))

-- ---- load and store

module _ (ws : List ℕ) (k : ℕ) where
  pub load_there : k < cell_count ws → load_of ws k ≡ cell_of ws k
  unfolding load_of
  load_there h = simp (lt-ltb _ _ h)

  pub load_past : cell_count ws ≤ k → load_of ws k ≡ zeros cell_words
  unfolding load_of
  load_past h = simp (le-ltb _ _ h)

  pub length_load : length (load_of ws k) ≡ cell_words
  length_load = on (ltb k (cell_count ws)) refl
    where
      on : (b : Bool) → ltb k (cell_count ws) ≡ b → length (load_of ws k) ≡ cell_words
      on true e =
          ap (λ (l : List ℕ). length l) (load_there (ltb-true _ _ e)) ∙ length-cell_of ws k (room ws k (ltb-true _ _ e))
      on false e = ap (λ (l : List ℕ). length l) (load_past (ltb-false _ _ e))

-- ws with the words of cell k replaced
abbrev stored : List ℕ → ℕ → List ℕ → List ℕ
stored ws k words = take (cell_words * k) ws ++ (words ++ drop (cell_words * k + cell_words) ws)

module _ (ws : List ℕ) (k : ℕ) (words : List ℕ) where
  pub store_there : k < cell_count ws → store_of ws k words ≡ stored ws k words
  unfolding store_of
  store_there h = simp (lt-ltb _ _ h)

  pub store_past : cell_count ws ≤ k → store_of ws k words ≡ ws
  unfolding store_of
  store_past h = simp (le-ltb _ _ h)

  module _ (long : length words ≡ cell_words) where
    length_head : k < cell_count ws → length (take (cell_words * k) ws ++ words) ≡ cell_words * k + cell_words
    length_head h =
        length-append (take (16 * k) ws) words ∙ omega (arith, length-take-le (16 * k) ws (omega (arith, room ws k h)))

    length-stored : k < cell_count ws → length (stored ws k words) ≡ length ws
    length-stored h =
        ap (λ (l : List ℕ). length l) (sym (append_assoc (take (16 * k) ws) words (drop (16 * k + 16) ws)))
        ∙ length-append (take (16 * k) ws ++ words) (drop (16 * k + 16) ws)
        ∙ omega (arith, length_head h, length-drop (16 * k + 16) ws, room ws k h)

    pub length_store : length (store_of ws k words) ≡ length ws
    length_store = on (ltb k (cell_count ws)) refl
      where
        on : (b : Bool) → ltb k (cell_count ws) ≡ b → length (store_of ws k words) ≡ length ws
        on true e = ap (λ (l : List ℕ). length l) (store_there (ltb-true _ _ e)) ∙ length-stored (ltb-true _ _ e)
        on false e = ap (λ (l : List ℕ). length l) (store_past (ltb-false _ _ e))

    pub cell-stored : k < cell_count ws → cell_of (store_of ws k words) k ≡ words
    unfolding cell_of
    cell-stored h =
        ap (λ (l : List ℕ). cell_of l k) (store_there h)
        ∙ ap (take 16) (drop_at (take (16 * k) ws) (words ++ drop (16 * k + 16) ws) (16 * k)
        (length-take-le (16 * k) ws (omega (arith, room ws k h))))
        ∙ take_at words (drop (16 * k + 16) ws) 16 long

    before-stored : (j : ℕ) → k < cell_count ws → j < k → cell_of (stored ws k words) j ≡ cell_of ws j
    before-stored j h l =
        let p : List ℕ = take (16 * k) ws in
        let n : 16 * j + 16 ≤ length p = omega (arith, length-take-le (16 * k) ws (omega (arith, room ws k h))) in
        cell-front p (words ++ drop (16 * k + 16) ws) j n ∙ sym (cell-front p (drop (16 * k) ws) j n)
        ∙ ap (λ (u : List ℕ). cell_of u j) (take-append-drop (16 * k) ws)

    after-stored : (j : ℕ) → k < cell_count ws → k < j → cell_of (stored ws k words) j ≡ cell_of ws j
    after-stored j h l =
        let n = length_head h in
        let x : List ℕ = drop (16 * k + 16) ws in
        ap (λ (u : List ℕ). cell_of u j) (sym (append_assoc (take (16 * k) ws) words x))
        ∙ cell_back (take (16 * k) ws ++ words) (take (16 * k + 16) ws) x j
        (n ∙ sym (length-take-le (16 * k + 16) ws (room ws k h))) (omega arith)
        ∙ ap (λ (u : List ℕ). cell_of u j) (take-append-drop (16 * k + 16) ws)

    -- the other cells stay
    pub cell_other : (j : ℕ) → (j ≡ k → ⊥) → cell_of (store_of ws k words) j ≡ cell_of ws j
    cell_other j ne = on (ltb k (cell_count ws)) refl
      where
        side : k < cell_count ws → (b : Bool) → ltb j k ≡ b → cell_of (stored ws k words) j ≡ cell_of ws j
        side h true e = before-stored j h (ltb-true _ _ e)
        side h false e = after-stored j h (omega (arith, ltb-false j k e))

        on : (b : Bool) → ltb k (cell_count ws) ≡ b → cell_of (store_of ws k words) j ≡ cell_of ws j
        on true e =
            ap (λ (u : List ℕ). cell_of u j) (store_there (ltb-true _ _ e)) ∙ side (ltb-true _ _ e) (ltb j k) refl
        on false e = ap (λ (u : List ℕ). cell_of u j) (store_past (ltb-false _ _ e))

-- a store into the accumulator leaves the words after it
pub rest_kept : (ws words : List ℕ) → length words ≡ cell_words
    → drop cell_words (store_of ws 0 words) ≡ drop cell_words ws
rest_kept ws words long = on (ltb 0 (cell_count ws)) refl
  where
    on : (b : Bool) → ltb 0 (cell_count ws) ≡ b → drop cell_words (store_of ws 0 words) ≡ drop cell_words ws
    on true e = ap (drop 16) (store_there ws 0 words (ltb-true _ _ e)) ∙ drop_at words (drop 16 ws) 16 long
    on false e = ap (drop 16) (store_past ws 0 words (ltb-false _ _ e))

-- ---- push and pop

pub length_push : (w : ℕ) (ws : List ℕ) → length ws ≡ cell_words → length (push_of w ws) ≡ cell_words
unfolding push_of
length_push w ws long = ap suc (length-take-le 15 ws (omega arith))

pub length_pop : (ws : List ℕ) → length ws ≡ cell_words → length (pop_of ws) ≡ cell_words
unfolding pop_of
length_pop ws long = length-append (drop 1 ws) (0 ∷ []) ∙ omega (arith, length-drop 1 ws)

pub length_pushes : (us ws : List ℕ) → length ws ≡ cell_words → length (pushes_of us ws) ≡ cell_words
unfolding pushes_of
length_pushes [] ws long = long
length_pushes (w ∷ us) ws long = length_push w _ (length_pushes us ws long)

pub length_pops : (n : ℕ) (ws : List ℕ) → length ws ≡ cell_words → length (pops_of n ws) ≡ cell_words
unfolding pops_of
length_pops zero ws long = long
length_pops (suc n) ws long = length_pop _ (length_pops n ws long)

pub length_cut : (n : ℕ) (ws : List ℕ) → length ws ≡ cell_words → length (cut_of n ws) ≡ cell_words
unfolding cut_of
length_cut n ws long =
    length-append (take n ws) (zeros (16 - n)) ∙ omega (arith, length-take n ws, length-replicate {A = ℕ} (16 - n) 0)

-- ---- the loops that copy

pub copy_turn : (d₀ s : List ℕ) (to from i : ℕ) (d : List ℕ) → d ≡ paste d₀ to (drop from s) i → to + i < length d₀
    → from + i < length s
    → set d (to + i) (get_or s (from + i) 0) ≡ paste d₀ to (drop from s) (i + 1)
copy_turn d₀ s to from i d e h l =
    rw (add-one i, e, ← get_or-drop from s i 0)
    (paste-suc d₀ to (drop from s) i 0 h (omega (arith, length-drop from s)))

pub copy_done : (d₀ : List ℕ) (to : ℕ) (s : List ℕ) (i n : ℕ) (d : List ℕ) → d ≡ paste d₀ to s i → i ≡ n
    → d ≡ paste d₀ to s n
copy_done d₀ to s i n d e h = e ∙ ap (λ (j : ℕ). paste d₀ to s j) h

-- a word that a copy does not reach
paste_outside : (d : List ℕ) (to : ℕ) (s : List ℕ) (i j : ℕ) → to + i ≤ length d → i ≤ length s
    → (j < to) ⊎ (to + i ≤ j) → get_or (paste d to s i) j 0 ≡ get_or d j 0
paste_outside d to s i j h l side =
    let p : List ℕ = take to d ++ take i s in
    let n : length p ≡ to + i = length_paste_head d to s i (omega arith) l in
    ⊎_elim
    (λ b. get_or-append p (drop (to + i) d) 0 j (omega arith)
    ∙ get_or-append (take to d) (take i s) 0 j (omega (arith, length-take-le to d (omega arith)))
    ∙ get_or-take to d j 0 b)
    (λ a. let e : j ≡ length p + (j - (to + i)) = omega arith in
    ap (λ (m : ℕ). get_or (p ++ drop (to + i) d) m 0) e ∙ get_or-append-add p (drop (to + i) d) (j - (to + i)) 0
    ∙ get_or-drop (to + i) d (j - (to + i)) 0 ∙ ap (λ (m : ℕ). get_or d m 0) (omega arith))
    side

pub slide_turn : (d₀ : List ℕ) (to from n i : ℕ) (d : List ℕ) → d ≡ paste d₀ to (drop from d₀) i → i < n
    → to + n ≤ length d₀ → from + n ≤ length d₀
    → (to ≤ from) ⊎ (from + n ≤ to) → set d (to + i) (get_or d (from + i) 0) ≡ paste d₀ to (drop from d₀) (i + 1)
slide_turn d₀ to from n i d e h l m side =
    let apart : (from + i < to) ⊎ (to + i ≤ from + i) = ⊎_elim (λ a. inr (omega arith)) (λ b. inl (omega arith)) side in
    ap (set d (to + i)) (ap (λ (u : List ℕ). get_or u (from + i) 0) e
    ∙ paste_outside d₀ to (drop from d₀) i (from + i) (omega arith) (omega (arith, length-drop from d₀)) apart)
    ∙ copy_turn d₀ d₀ to from i d e (omega arith) (omega arith)

-- the words are pushed along, one held
module _ (d₀ : List ℕ) (w i : ℕ) (d : List ℕ) (e : d ≡ paste d₀ 0 (w ∷ d₀) i) (h : i < length d₀) where
  pub push_turn : (held : ℕ) → held ≡ get_or (w ∷ d₀) i 0 → set d i held ≡ paste d₀ 0 (w ∷ d₀) (i + 1)
  push_turn held g =
      ap (set d i) g ∙ ap (λ (u : List ℕ). set u i (get_or (w ∷ d₀) i 0)) e
      ∙ ap (λ (j : ℕ). set (paste d₀ 0 (w ∷ d₀) i) j (get_or (w ∷ d₀) i 0)) (sym (zero-add i))
      ∙ paste-suc d₀ 0 (w ∷ d₀) i 0 (omega arith) (omega arith)
      ∙ ap (λ (j : ℕ). paste d₀ 0 (w ∷ d₀) j) (sym (add-one i))

  pub push_held : get_or d i 0 ≡ get_or (w ∷ d₀) (i + 1) 0
  push_held =
      ap (λ (u : List ℕ). get_or u i 0) e
      ∙ paste_outside d₀ 0 (w ∷ d₀) i i (omega arith) (omega arith) (inr (omega arith))
      ∙ ap (λ (j : ℕ). get_or (w ∷ d₀) j 0) (sym (add-one i))

-- ---- what the functions over a cell leave

pub store_done : (ws : List ℕ) (k : ℕ) (words out : List ℕ) → out ≡ paste ws (cell_words * k) words cell_words
    → length words ≡ cell_words → k < cell_count ws
    → out ≡ store_of ws k words
store_done ws k words out e long h =
    e ∙ append_assoc (take (16 * k) ws) (take 16 words) (drop (16 * k + 16) ws)
    ∙ ap (λ (u : List ℕ). take (16 * k) ws ++ (u ++ drop (16 * k + 16) ws)) (take_all 16 words (omega arith))
    ∙ sym (store_there ws k words h)

-- there is room for cell k
pub room_left : (ws : List ℕ) (k : ℕ) → k < length ws / cell_words → cell_words * k + cell_words ≤ length ws
unfolding cell_count
room_left ws k h = room ws k h

pub unloaded : (ws : List ℕ) (k : ℕ) → length ws / cell_words ≤ k → zeros cell_words ≡ load_of ws k
unfolding cell_count
unloaded ws k h = sym (load_past ws k h)

-- words stored as the part of a slice that is cell k
pub stored_at : (ws words : List ℕ) (k start : ℕ) → start ≡ cell_words * k → k < length ws / cell_words
    → put_mid start (start + cell_words - start) ws words ≡ store_of ws k words
unfolding cell_count
stored_at ws words k start e h =
    let n : start + cell_words - start ≡ cell_words = omega arith in
    rw (n, drop-drop cell_words start ws, e) (sym (store_there ws k words h))

pub cleared_at : (ws words : List ℕ) (k start : ℕ) → start ≡ cell_words * k → k < length ws / cell_words
    → words ≡ zeros (length (take (start + cell_words - start) (drop start ws)))
    → put_mid start (start + cell_words - start) ws words ≡ store_of ws k (zeros cell_words)
cleared_at ws words k start e h z =
    let m : length (take (start + cell_words - start) (drop start ws)) ≡ cell_words =
    omega (arith, length-take (start + cell_words - start) (drop start ws), length-drop start ws, room_left ws k h) in
    stored_at ws words k start e h ∙ ap (store_of ws k) (z ∙ ap (λ (n : ℕ). zeros n) m)

pub unstored : (ws words : List ℕ) (k : ℕ) → length ws / cell_words ≤ k → ws ≡ store_of ws k words
unfolding cell_count
unstored ws words k h = sym (store_past ws k words h)

-- the first cell
load_first : (ws : List ℕ) → 0 < cell_count ws → load_of ws 0 ≡ take cell_words ws
load_first ws h = load_there ws 0 h ∙ cell_first ws

-- the first cell, as an array
pub first_loaded : (ws : List ℕ) → cell_words ≤ length ws → take cell_words ws ≡ load_of ws 0
first_loaded ws h = sym (load_first ws (there ws 0 h))

-- a cell copied to another
pub copied_at : (ws out : List ℕ) (from to first start : ℕ) → first ≡ cell_words * from
    → from < length ws / cell_words → start ≡ cell_words * to → to < length ws / cell_words
    → out ≡ paste ws start (drop first ws) cell_words → out ≡ store_of ws to (load_of ws from)
unfolding cell_count cell_of
copied_at ws out from to first start f h e l p =
    store_done ws to (load_of ws from) out
    (rw (e, f) at p ∙ ap (λ (u : List ℕ). take (16 * to) ws ++ u ++ drop (16 * to + 16) ws)
    (sym (take-take 16 16 (drop (16 * from) ws) (omega arith)) ∙ ap (take 16) (sym (load_there ws from h))))
    (length_load ws from) l

-- words in front, all at once
pub pushes-all : (us ws : List ℕ) → length ws ≡ cell_words → pushes_of us ws ≡ take cell_words (us ++ ws)
unfolding pushes_of push_of
pushes-all [] ws long = sym (take_all 16 ws (omega arith))
pushes-all (w ∷ us) ws long =
    ap (λ (l : List ℕ). w ∷ take 15 l) (pushes-all us ws long)
    ∙ ap (λ (l : List ℕ). w ∷ l) (take-take 15 16 (us ++ ws) (omega arith))

pushes-parts : (us ws : List ℕ) (n : ℕ) → length ws ≡ cell_words → n ≡ min (length us) cell_words
    → take n us ++ take (cell_words - n) ws ≡ pushes_of us ws
pushes-parts us ws n long e = ⊎_elim few many (cases_lt (length us) cell_words)
  where
    few : length us < cell_words → take n us ++ take (cell_words - n) ws ≡ pushes_of us ws
    few h =
        let k : n ≡ length us = omega (arith, e) in
        let z : cell_words ≡ length us + (cell_words - length us) = omega arith in
        rw (k, take_all (length us) us (omega arith), ← take-append-add us ws (cell_words - length us), ← z)
        (sym (pushes-all us ws long))

    many : cell_words ≤ length us → take n us ++ take (cell_words - n) ws ≡ pushes_of us ws
    many h =
        let k : n ≡ cell_words = omega (arith, e) in
        rw (k, append-nil (take cell_words us), ← take-append-le cell_words us ws h) (sym (pushes-all us ws long))

-- put together in an array, which is stored in the first cell
pub pushed : (us ws : List ℕ) {front back cell : List ℕ} (n : ℕ) → cell_words ≤ length ws
    → n ≡ min (length us) cell_words → front ≡ take n us → back ≡ take (cell_words - n) ws
    → cell ≡ put_mid n (cell_words - n) (front ++ drop n (zeros cell_words)) back
    → cell ++ drop cell_words ws ≡ store_of ws 0 (pushes_of us (load_of ws 0))
pushed us ws {front = front} {back = back} n h e f b g =
    let c : 0 < cell_count ws = there ws 0 h in
    let m : length front ≡ n = ap length f ∙ omega (arith, length-take n us, e) in
    let z : n + (cell_words - n) ≡ cell_words = omega (arith, e) in
    let rest : List ℕ = drop n (zeros cell_words) in
    let none : drop (cell_words - n) rest ≡ [] =
    drop-drop (cell_words - n) n (zeros cell_words) ∙ ap (λ (i : ℕ). drop i (zeros cell_words)) z in
    let l : back ≡ take (cell_words - n) (load_of ws 0) =
    b ∙ sym (take-take (cell_words - n) cell_words ws (omega arith))
    ∙ ap (take (cell_words - n)) (sym (load_first ws c)) in
    let x : front ++ back ≡ pushes_of us (load_of ws 0) =
    ap₂ (λ (u v : List ℕ). u ++ v) f l ∙ pushes-parts us (load_of ws 0) n (length_load ws 0) e in
    ap (λ (u : List ℕ). u ++ drop cell_words ws)
    (g ∙ ap₂ (λ (u v : List ℕ). u ++ (back ++ v)) (take_at front rest n m)
    (ap (drop (cell_words - n)) (drop_at front rest n m) ∙ none)
    ∙ ap (λ (u : List ℕ). front ++ u) (append-nil back) ∙ x)
    ∙ sym (store_there ws 0 (pushes_of us (load_of ws 0)) c)

-- pushed along in the first cell
pub pushed_along : (w : ℕ) (ws cell : List ℕ) (i : ℕ) → cell_words ≤ length ws
    → cell ≡ paste (take cell_words ws) 0 (w ∷ take cell_words ws) i → i ≡ cell_words
    → cell ++ drop cell_words ws ≡ store_of ws 0 (push_of w (load_of ws 0))
unfolding push_of
pushed_along w ws cell i h e z =
    let c : 0 < cell_count ws = there ws 0 h in
    let d : drop cell_words (take cell_words ws) ≡ [] =
    drop_of_length-le (take cell_words ws) {i = cell_words} (omega (arith, length-take cell_words ws)) in
    let s : List ℕ = take cell_words ws in
    let g : cell ≡ w ∷ take 15 s =
    e ∙ ap (paste s 0 (w ∷ s)) z ∙ ap (λ (l : List ℕ). (w ∷ take 15 s) ++ l) d ∙ append-nil (w ∷ take 15 s) in
    ap (λ (l : List ℕ). l ++ drop cell_words ws) g
    ∙ ap (λ (l : List ℕ). (w ∷ take 15 l) ++ drop cell_words ws) (sym (load_first ws c))
    ∙ sym (store_there ws 0 (w ∷ take 15 (load_of ws 0)) c)

-- the first n words gone, all at once
pops-parts : (n : ℕ) (ws : List ℕ) → length ws ≡ cell_words → n ≤ cell_words → drop n ws ++ zeros n ≡ pops_of n ws
unfolding pops_of pop_of
pops-parts zero ws long h = append-nil ws
pops-parts (suc n) ws long h =
    let e : drop (suc n) ws ≡ drop 1 (drop n ws) =
    ap (λ (k : ℕ). drop k ws) (sym (add-one n)) ∙ sym (drop-drop 1 n ws) in
    let z : zeros (suc n) ≡ zeros n ++ (0 ∷ []) =
    ap (λ (k : ℕ). zeros k) (sym (add-one n)) ∙ sym (replicate-append-replicate n 1 0) in
    rw (
      e,
      z,
      ← append_assoc (drop 1 (drop n ws)) (zeros n) (0 ∷ []),
      ← drop-append-le 1 (drop n ws) (zeros n) (omega (arith, length-drop n ws)),
    )
    (ap (λ (l : List ℕ). drop 1 l ++ (0 ∷ [])) (pops-parts n ws long (omega arith)))

-- one word gone, in cell k
module _ (ws : List ℕ) where
  pub pop_done : (k : ℕ) (moved out : List ℕ) → moved ≡ paste ws (cell_words * k) (drop 1 ws) 15
      → out ≡ set moved (cell_words * k + 15) 0 → k < length ws / cell_words
      → out ≡ store_of ws k (pop_of (load_of ws 0))
  unfolding pop_of cell_count
  pop_done k moved out e f h =
      let p : List ℕ = drop 1 (load_of ws 0) in
      let s : List ℕ = p ++ (0 ∷ []) in
      let m : length p ≡ 15 = length-drop 1 (load_of ws 0) ∙ omega (arith, length_load ws 0) in
      let l : length s ≡ 16 = length-append p (0 ∷ []) ∙ omega arith in
      let first : take 15 (drop 1 ws) ≡ take 15 s =
      shifted ws ∙ ap (drop 1) (sym (load_first ws (omega arith))) ∙ sym (take_at p (0 ∷ []) 15 m) in
      let last : 0 ≡ get_or s 15 0 = sym (get_or_at p 0 [] 0 15 m) in
      store_done ws k s out
      (f ∙ ap (λ (u : List ℕ). set u (16 * k + 15) 0)
      (e ∙ ap (λ (u : List ℕ). take (16 * k) ws ++ u ++ drop (16 * k + 15) ws) first)
      ∙ ap (set (paste ws (16 * k) s 15) (16 * k + 15)) last
      ∙ paste-suc ws (16 * k) s 15 0 (omega (arith, room ws k h)) (omega arith))
      l h
    where
      shifted : (l : List ℕ) → take 15 (drop 1 l) ≡ drop 1 (take 16 l)
      shifted [] = refl
      shifted (x ∷ xs) = refl

-- no word of a cell is left
popped_past : (n : ℕ) (ws : List ℕ) → length ws ≡ cell_words → pops_of (cell_words + n) ws ≡ zeros cell_words
unfolding pops_of pop_of
popped_past zero ws long =
    sym (pops-parts cell_words ws long (omega arith))
    ∙ ap (λ (l : List ℕ). l ++ zeros cell_words) (drop_of_length-le ws {i = cell_words} (omega arith))
popped_past (suc n) ws long =
    let z : cell_words + suc n ≡ suc (cell_words + n) = omega arith in
    rw z (ap pop_of (popped_past n ws long))

pub popped-most : (n : ℕ) (ws : List ℕ) → length ws ≡ cell_words → pops_of (min n cell_words) ws ≡ pops_of n ws
popped-most n ws long = ⊎_elim few many (cases_lt n cell_words)
  where
    few : n < cell_words → pops_of (min n cell_words) ws ≡ pops_of n ws
    few h = let e : min n cell_words ≡ n = omega arith in rw e refl

    many : cell_words ≤ n → pops_of (min n cell_words) ws ≡ pops_of n ws
    many h =
        let e : min n cell_words ≡ cell_words + 0 = omega arith in
        let z : n ≡ cell_words + (n - cell_words) = omega arith in
        ap (λ (k : ℕ). pops_of k ws) e ∙ popped_past 0 ws long ∙ sym (popped_past (n - cell_words) ws long)
        ∙ ap (λ (k : ℕ). pops_of k ws) (sym z)

-- put together in an array, which is stored in the first cell
pub popped : (ws : List ℕ) {front cell : List ℕ} (n most : ℕ) → cell_words ≤ length ws → n ≡ min most cell_words
    → front ≡ take (cell_words - n) (drop n ws) → cell ≡ front ++ drop (cell_words - n) (zeros cell_words)
    → cell ++ drop cell_words ws ≡ store_of ws 0 (pops_of most (load_of ws 0))
popped ws n most h l f g =
    let c : 0 < cell_count ws = there ws 0 h in
    let k : cell_words - (cell_words - n) ≡ n = omega (arith, l) in
    let d : take (cell_words - n) (drop n ws) ≡ drop n (load_of ws 0) =
    between_is ws n cell_words ∙ ap (drop n) (sym (load_first ws c)) in
    let z : drop (cell_words - n) (zeros cell_words) ≡ zeros n =
    drop-replicate {X = ℕ} (cell_words - n) cell_words 0 ∙ ap (λ (i : ℕ). zeros i) k in
    ap (λ (u : List ℕ). u ++ drop cell_words ws)
    (g ∙ ap₂ (λ (u v : List ℕ). u ++ v) (f ∙ d) z
    ∙ pops-parts n (load_of ws 0) (length_load ws 0) (omega (arith, l))
    ∙ ap (λ (i : ℕ). pops_of i (load_of ws 0)) l ∙ popped-most most (load_of ws 0) (length_load ws 0))
    ∙ sym (store_there ws 0 (pops_of most (load_of ws 0)) c)

-- nothing is changed where what is loaded is stored
pub store_load : (ws : List ℕ) → store_of ws 0 (load_of ws 0) ≡ ws
store_load ws = on (ltb 0 (cell_count ws)) refl
  where
    on : (b : Bool) → ltb 0 (cell_count ws) ≡ b → store_of ws 0 (load_of ws 0) ≡ ws
    on true t =
        let h = ltb-true _ _ t in
        store_there ws 0 (load_of ws 0) h ∙ ap (λ (u : List ℕ). [] ++ (u ++ drop 16 ws)) (load_first ws h)
        ∙ take-append-drop 16 ws
    on false t = store_past ws 0 (load_of ws 0) (ltb-false _ _ t)

-- zeros from n on
pub cut_part : (ws ys : List ℕ) (n : ℕ) → n < cell_words → cell_words ≤ length ws
    → ys ≡ zeros (length (take (cell_words - n) (drop n ws)))
    → put_mid n (cell_words - n) ws ys ≡ store_of ws 0 (cut_of n (load_of ws 0))
unfolding cut_of
cut_part ws ys n h l e =
    let c : 0 < cell_count ws = there ws 0 l in
    let z : n + (cell_words - n) ≡ cell_words = omega arith in
    let m : length (take (cell_words - n) (drop n ws)) ≡ cell_words - n =
    length-take-le (cell_words - n) (drop n ws) (omega (arith, length-drop n ws)) in
    rw (
      e,
      m,
      store_there ws 0 (cut_of n (load_of ws 0)) c,
      load_first ws c,
      take-take n cell_words ws (omega arith),
      drop-drop (cell_words - n) n ws,
      z,
    )
    (sym (append_assoc (take n ws) (zeros (cell_words - n)) (drop cell_words ws)))

-- nothing is to be cut
pub cut_none : (ws : List ℕ) (n : ℕ) → cell_words ≤ n → ws ≡ store_of ws 0 (cut_of n (load_of ws 0))
unfolding cut_of
cut_none ws n h =
    let z : cell_words - n ≡ 0 = omega arith in
    rw (z, take_all n (load_of ws 0) (omega (arith, length_load ws 0)), append-nil (load_of ws 0))
    (sym (store_load ws))

-- one change of the accumulator after another
pub after : (ws ws' : List ℕ) {ws'' : List ℕ} (a : List ℕ) (f : List ℕ → List ℕ) → length a ≡ cell_words
    → ws' ≡ store_of ws 0 a → ws'' ≡ store_of ws' 0 (f (load_of ws' 0))
    → ws'' ≡ store_of ws 0 (f a)
after ws ws' a f n e g = g ∙ rw e (on (ltb 0 (cell_count ws)) refl)
  where
    on : (b : Bool) → ltb 0 (cell_count ws) ≡ b
        → store_of (store_of ws 0 a) 0 (f (load_of (store_of ws 0 a) 0)) ≡ store_of ws 0 (f a)
    on true t =
        let h = ltb-true _ _ t in
        let h' : 0 < cell_count (store_of ws 0 a) =
        there (store_of ws 0 a) 0 (omega (arith, length_store ws 0 a n, room ws 0 h)) in
        ap (λ (u : List ℕ). store_of (store_of ws 0 a) 0 (f u))
        (load_there (store_of ws 0 a) 0 h' ∙ cell-stored ws 0 a n h)
        ∙ store_there (store_of ws 0 a) 0 (f a) h' ∙ ap (λ (u : List ℕ). [] ++ (f a ++ u)) (rest_kept ws a n)
        ∙ sym (store_there ws 0 (f a) h)
    on false t =
        let u = store_past ws 0 a (ltb-false _ _ t) in
        rw u (store_past ws 0 (f (load_of ws 0)) (ltb-false _ _ t) ∙ sym (store_past ws 0 (f a) (ltb-false _ _ t)))

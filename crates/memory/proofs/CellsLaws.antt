-- Laws of locations' words joined: one location's words, all of them, and a loop that stores them one location after
-- the other.
use mathlib.Core.Path.{◌≡◌, refl, sym, ap, ap₂, ◌∙◌}
use mathlib.Core.List.{List, [], ◌∷◌, ◌++◌, append_assoc, append-nil}
use Prim.Native.Nat.{ℕ, zero, suc, ◌+◌, ◌*◌, ◌≤◌, ◌<◌}
use native.Mathlib.Omega.{arith}
use native.Mathlib.Numerals.{add-one}
use native.Mathlib.Nat.{not-suc-le-zero}
use lib.ListN.{length, drop, length-append, length-drop, drop_of_length-le, take-append-drop}
use lib.Seq.{take_at, drop-append-add, drop-drop, take_all, paste, length-take-le}
use Rattle.language.specs.World.{cell_words}
use Rattle.memory.specs.Memory.{cell_of, cells}

-- f gives a location's words for each number below n
abbrev pub Cellwise : ℕ → (ℕ → List ℕ) → Type 0
Cellwise n f = (x : ℕ) → x < n → length (f x) ≡ cell_words

abbrev next : (ℕ → List ℕ) → ℕ → List ℕ
next f = λ (x : ℕ). f (suc x)

after : (n : ℕ) (f : ℕ → List ℕ) → Cellwise (suc n) f → Cellwise n (next f)
after n f h x l = h (suc x) (omega arith)

pub length-cells : (n : ℕ) (f : ℕ → List ℕ) → Cellwise n f → length (cells n f) ≡ cell_words * n
unfolding cells
length-cells zero f h = refl
length-cells (suc n) f h =
    omega (arith, length-append (f 0) (cells n (next f)), h 0 (omega arith), length-cells n (next f) (after n f h))

pub cells_ext : (n : ℕ) (f g : ℕ → List ℕ) → ((x : ℕ) → x < n → f x ≡ g x) → cells n f ≡ cells n g
unfolding cells
cells_ext zero f g h = refl
cells_ext (suc n) f g h =
    ap₂ (λ (u v : List ℕ). u ++ v) (h 0 (omega arith)) (cells_ext n (next f) (next g) (λ x l. h (suc x) (omega arith)))

pub cells_at : (n : ℕ) (f : ℕ → List ℕ) → Cellwise n f → (x : ℕ) → x < n → cell_of (cells n f) x ≡ f x
unfolding cells cell_of
cells_at zero f h x l = absurd (not-suc-le-zero l)
cells_at (suc n) f h zero l = take_at (f 0) (cells n (next f)) cell_words (h 0 l)
cells_at (suc n) f h (suc x) l =
    let e : cell_words * suc x ≡ length (f 0) + cell_words * x = omega (arith, h 0 (omega arith)) in
    rw (e, drop-append-add) (cells_at n (next f) (after n f h) x (omega arith))

pub cells_inj : (n : ℕ) (f g : ℕ → List ℕ) → Cellwise n f → Cellwise n g → cells n f ≡ cells n g → (x : ℕ)
    → x < n → f x ≡ g x
cells_inj n f g h k e x l = sym (cells_at n f h x l) ∙ ap (λ (ws : List ℕ). cell_of ws x) e ∙ cells_at n g k x l

-- one location more
pub cells_more : (n : ℕ) (f : ℕ → List ℕ) → cells (suc n) f ≡ cells n f ++ f n
unfolding cells
cells_more zero f = append-nil (f 0)
cells_more (suc n) f =
    ap (λ (us : List ℕ). f 0 ++ us) (cells_more n (next f)) ∙ sym (append_assoc (f 0) (cells n (next f)) (f (suc n)))

pub length-cell_of : (ws : List ℕ) (x : ℕ) → cell_words * x + cell_words ≤ length ws
    → length (cell_of ws x) ≡ cell_words
unfolding cell_of
length-cell_of ws x h =
    length-take-le cell_words (drop (cell_words * x) ws) (omega (arith, length-drop (cell_words * x) ws))

-- the words after the first location's
cell-after : (ws : List ℕ) (x : ℕ) → cell_of ws (suc x) ≡ cell_of (drop cell_words ws) x
unfolding cell_of
cell-after ws x =
    let e : cell_words * suc x ≡ cell_words + cell_words * x = omega arith in
    rw (e, drop-drop (cell_words * x) cell_words ws) refl

-- a memory is its locations' words
pub cells_all : (n : ℕ) (ws : List ℕ) → length ws ≡ cell_words * n → cells n (λ (x : ℕ). cell_of ws x) ≡ ws
unfolding cells cell_of
cells_all zero [] h = refl
cells_all zero (w ∷ ws) h = absurd (omega arith)
cells_all (suc n) ws h =
    ap (λ (us : List ℕ). cell_of ws 0 ++ us)
    (cells_ext n (λ (x : ℕ). cell_of ws (suc x)) (λ (x : ℕ). cell_of (drop cell_words ws) x) (λ x l. cell-after ws x)
    ∙ cells_all n (drop cell_words ws) (omega (arith, length-drop cell_words ws)))
    ∙ take-append-drop cell_words ws

-- ---- a loop that stores location after location: x are stored, and the rest is as in d

pub stored_more : (f : ℕ → List ℕ) (x : ℕ) (d us vs c : List ℕ) → Cellwise (suc x) f
    → us ≡ cells x f ++ drop (cell_words * x) d → c ≡ f x
    → vs ≡ paste us (cell_words * x) c cell_words → vs ≡ cells (x + 1) f ++ drop (cell_words * (x + 1)) d
stored_more f x d us vs c h e k p =
    let n : length (cells x f) ≡ cell_words * x = length-cells x f (λ y l. h y (omega arith)) in
    let m : length (f x) ≡ cell_words = h x (omega arith) in
    let a : cell_words * x + cell_words ≡ length (cells x f) + cell_words = omega arith in
    let b : cell_words * (x + 1) ≡ cell_words * x + cell_words = omega arith in
    let t = take_at (cells x f) (drop (cell_words * x) d) (cell_words * x) n in
    p ∙ rw (
      e,
      k,
      b,
      a,
      drop-append-add,
      drop-drop cell_words (cell_words * x) d,
      t,
      take_all cell_words (f x) (omega arith),
      add-one,
      cells_more x f,
      n,
    )

pub stored_all : (f : ℕ → List ℕ) (n : ℕ) (d us : List ℕ) → length d ≡ cell_words * n
    → us ≡ cells n f ++ drop (cell_words * n) d → us ≡ cells n f
stored_all f n d us h e = e ∙ rw (drop_of_length-le d {i = cell_words * n} (omega arith)) (append-nil (cells n f))

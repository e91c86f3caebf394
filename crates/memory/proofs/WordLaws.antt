-- Reading words gives back the value that they are the words of, and no other words are read as that value.
use mathlib.Core.Path.{◌≡◌, refl, sym, ap, ◌∙◌, subst}
use mathlib.Core.Bool.{Bool, true, false, cond}
use mathlib.Core.List.{List, [], ◌∷◌, ◌++◌}
use Prim.Native.Nat.{ℕ, zero, suc, ◌+◌, ◌*◌, ◌-◌, ◌≤◌}
use native.Mathlib.Omega.{arith}
use native.Mathlib.Nat.{le_refl}
use borrow.Author.Tests.{ne_eqb, eqb-true}
use lib.Dec.{eqb}
use lib.ListN.{length, drop, length-replicate}
use Rattle.logic.proofs.BooleanLaws.{absurd_false, both_left, both_right}
use Rattle.sets.proofs.Walks.{by_below}
use Rattle.language.specs.Syntax.{Head, head_size, Value, int, err, inl, inr, pkg, pair, blank, size}
use Rattle.language.specs.World.{cell_words}
use Rattle.memory.specs.Words.{head_words, enc, zeros, cell, Got, wrap, numbered, packaged, paired, tagged, read}
use Rattle.memory.specs.Words.{read_of, value_of}
use Rattle.memory.specs.Internal.Post.{end_of, Numeral, num_int, num_err}
use Rattle.memory.specs.Memory.{proper}
use Rattle.memory.proofs.HeadLaws.{length_head, head_append, head_whole, package_head, package_none}
use Rattle.memory.proofs.HeadLaws.{package_some, packaged_same}

-- ---- lengths

pub size_pos : (v : Value) → 1 ≤ size v
unfolding size
size_pos (int n) = omega arith
size_pos (err e) = omega arith
size_pos (inl v) = omega arith
size_pos (inr v) = omega arith
size_pos (pkg h v) = omega arith
size_pos (pair v w) = omega arith
size_pos blank = omega arith

pub length-enc : (v : Value) (rest : List ℕ) → length (enc v rest) ≡ size v + length rest
unfolding enc size
length-enc (int n) rest = omega arith
length-enc (err e) rest = omega arith
length-enc (inl v) rest = omega (arith, length-enc v rest)
length-enc (inr v) rest = omega (arith, length-enc v rest)
length-enc (pkg h v) rest = omega (arith, length_head h (enc v rest), length-enc v rest)
length-enc (pair v w) rest = omega (arith, length-enc v (enc w rest), length-enc w rest)
length-enc blank rest = omega arith

-- a value's words, then more
pub enc-append : (v : Value) (rest more : List ℕ) → enc v rest ++ more ≡ enc v (rest ++ more)
unfolding enc
enc-append (int n) rest more = refl
enc-append (err e) rest more = refl
enc-append (inl v) rest more = ap (λ (us : List ℕ). 3 ∷ us) (enc-append v rest more)
enc-append (inr v) rest more = ap (λ (us : List ℕ). 4 ∷ us) (enc-append v rest more)
enc-append (pkg h v) rest more =
    ap (λ (us : List ℕ). 5 ∷ us) (head_append h (enc v rest) more ∙ ap (head_words h) (enc-append v rest more))
enc-append (pair v w) rest more =
    ap (λ (us : List ℕ). 6 ∷ us) (enc-append v (enc w rest) more ∙ ap (enc v) (enc-append w rest more))
enc-append blank rest more = refl

pub length-cell : (v : Value) → size v ≤ cell_words → length (cell v) ≡ cell_words
unfolding cell
length-cell v h = length-enc v (zeros (cell_words - size v)) ∙ simp length-replicate (omega arith)

-- ---- what is read

-- the first word of a value on a side of a sum
pub data Side : ℕ → (Value → Value) → Type 0 where
  to_left : Side 3 inl
  to_right : Side 4 inr

-- the graph of reading
data Reads : List ℕ → Got → Type 0 where
  r_none : (ws us : List ℕ) → length us ≤ length ws → Reads ws (blank, us)
  r_num : {w n : ℕ} {f : ℕ → Value} {ws : List ℕ} → Numeral w f → Reads (w ∷ n ∷ ws) (f n, ws)
  r_side : {w : ℕ} {f : Value → Value} {ws : List ℕ} {g : Got} → Side w f → Reads ws g → Reads (w ∷ ws) (wrap f g)
  r_pkg : (h : Head) {ws : List ℕ} {g : Got} → Reads ws g → Reads (5 ∷ head_words h ws) (wrap (pkg h) g)
  r_pair : {ws : List ℕ} {g k : Got} → Reads ws g → Reads g.1 k → Reads (6 ∷ ws) (wrap (pair g.0) k)

-- by whether the first word is n
on_word : (n w : ℕ) (ws : List ℕ) (x y : Got) → Reads (n ∷ ws) x → Reads (w ∷ ws) y
    → Reads (w ∷ ws) (cond (eqb w n) x y)
on_word n w ws x y h k = at (eqb w n) refl
  where
    at : (b : Bool) → eqb w n ≡ b → Reads (w ∷ ws) (cond b x y)
    at true e = let z : w ≡ n = eqb-true w n e in rw z h
    at false e = k

reads_numeral : {w : ℕ} {f : ℕ → Value} → Numeral w f → (ws : List ℕ) → Reads (w ∷ ws) (numbered f ws)
unfolding numbered
reads_numeral {w} k [] = r_none (w ∷ []) [] (omega arith)
reads_numeral {w} k (n ∷ ws) = r_num k

reads_pkg : (r : List ℕ → Got) → ((us : List ℕ) → Reads us (r us)) → (ws : List ℕ) → Reads (5 ∷ ws) (packaged r ws)
reads_pkg r h ws =
    by_below (length ws) head_size (λ l. rw (package_none r ws l) (r_none (5 ∷ ws) [] (omega arith)))
    (λ l. subst (λ us. Reads (5 ∷ us) (packaged r ws)) (head_whole ws l)
    (rw (package_some r ws l) (r_pkg _ (h (drop head_size ws)))))

reads_tagged : (r : List ℕ → Got) → ((us : List ℕ) → Reads us (r us)) → (w : ℕ) (ws : List ℕ)
    → Reads (w ∷ ws) (tagged r w ws)
unfolding tagged paired
reads_tagged r h w ws =
    on_word 1 w ws _ _ (reads_numeral num_int ws)
    (on_word 2 w ws _ _ (reads_numeral num_err ws)
    (on_word 3 w ws _ _ (r_side to_left (h ws))
    (on_word 4 w ws _ _ (r_side to_right (h ws))
    (on_word 5 w ws _ _ (reads_pkg r h ws)
    (on_word 6 w ws _ _ (r_pair (h ws) (h (r ws).1))
    (r_none (w ∷ ws) ws (omega arith)))))))

reads : (k : ℕ) (ws : List ℕ) → Reads ws (read k ws)
unfolding read
reads zero ws = r_none ws ws (le_refl (length ws))
reads (suc k) [] = r_none [] [] (le_refl 0)
reads (suc k) (w ∷ ws) = reads_tagged (λ us. read k us) (λ us. reads k us) w ws

-- two words of a value at most for each word that is read, and one more: a part before which the words end is blank
reads_size : {ws : List ℕ} {g : Got} → Reads ws g → size g.0 + 2 * length g.1 ≤ 2 * length ws + 1
unfolding size wrap
reads_size (r_none ws us h) = omega arith
reads_size (r_num num_int) = omega arith
reads_size (r_num num_err) = omega arith
reads_size (r_side to_left r) = omega (arith, reads_size r)
reads_size (r_side to_right r) = omega (arith, reads_size r)
reads_size (r_pkg h {ws} r) = omega (arith, length_head h ws, reads_size r)
reads_size (r_pair r k) = omega (arith, reads_size r, reads_size k)

pub read_size : (ws : List ℕ) → size (value_of ws) + 2 * length (read_of ws).1 ≤ 2 * length ws + 1
unfolding read_of
read_size ws = reads_size (reads (length ws) ws)

-- r leaves no more words than it is given
abbrev Shortens : (List ℕ → Got) → Type 0
Shortens r = (us : List ℕ) → length (r us).1 ≤ length us

read_shortens : (k : ℕ) → Shortens (λ us. read k us)
read_shortens k us = omega (arith, reads_size (reads k us), size_pos (read k us).0)

-- ---- reading: more words allowed than there are change nothing

module _ (r r' : List ℕ → Got) (s : Shortens r) (ws : List ℕ)
    (h : (us : List ℕ) → length us ≤ length ws → r us ≡ r' us) where
  paired_same : paired r ws ≡ paired r' ws
  unfolding paired
  paired_same = rw (h (r ws).1 (s ws), h ws (le_refl (length ws))) refl

  tagged_same : (w : ℕ) → tagged r w ws ≡ tagged r' w ws
  unfolding tagged
  tagged_same w = rw (h ws (le_refl (length ws)), packaged_same r r' ws h, paired_same) refl

read_any : (k j : ℕ) (ws : List ℕ) → length ws ≤ k → length ws ≤ j → read k ws ≡ read j ws
unfolding read
read_any zero zero ws h h' = refl
read_any zero (suc j) [] h h' = refl
read_any zero (suc j) (w ∷ ws) h h' = absurd (omega arith)
read_any (suc k) zero [] h h' = refl
read_any (suc k) zero (w ∷ ws) h h' = absurd (omega arith)
read_any (suc k) (suc j) [] h h' = refl
read_any (suc k) (suc j) (w ∷ ws) h h' = tagged_same (λ us. read k us) (λ us. read j us) (read_shortens k) ws
    (λ us l. read_any k j us (omega arith) (omega arith)) w

-- ---- reading, by the first word

-- a word that starts no value: what a match on the first words leaves for its last arm
abbrev pub Other : ℕ → Type 0
Other w = (((((Unit {0} × (w ≡ 1 → ⊥)) × (w ≡ 2 → ⊥)) × (w ≡ 3 → ⊥)) × (w ≡ 4 → ⊥)) × (w ≡ 5 → ⊥)) × (w ≡ 6 → ⊥)

module _ (ws : List ℕ) where
  pub read_numeral : {w : ℕ} {f : ℕ → Value} → Numeral w f → read_of (w ∷ ws) ≡ numbered f ws
  unfolding read_of read tagged
  read_numeral num_int = refl
  read_numeral num_err = refl

  pub read_side : {w : ℕ} {f : Value → Value} → Side w f → read_of (w ∷ ws) ≡ wrap f (read_of ws)
  unfolding read_of read tagged
  read_side to_left = refl
  read_side to_right = refl

  pub read_package : read_of (5 ∷ ws) ≡ packaged read_of ws
  unfolding read_of read tagged
  read_package = packaged_same (λ us. read (length ws) us) read_of ws
      (λ us h. read_any (length ws) (length us) us h (le_refl (length us)))

  pub read_pair : read_of (6 ∷ ws) ≡ paired read_of ws
  unfolding read_of read tagged
  read_pair = paired_same (λ us. read (length ws) us) read_of (read_shortens (length ws)) ws
      (λ us h. read_any (length ws) (length us) us h (le_refl (length us)))

  pub read_none : (w : ℕ) → Other w → read_of (w ∷ ws) ≡ (blank, ws)
  unfolding read_of read tagged
  read_none w ((((((_, n1), n2), n3), n4), n5), n6) =
      simp (ne_eqb w 1 n1, ne_eqb w 2 n2, ne_eqb w 3 n3, ne_eqb w 4 n4, ne_eqb w 5 n5, ne_eqb w 6 n6)

-- ---- reading the words of a value

pub read_enc : (v : Value) (rest : List ℕ) → read_of (enc v rest) ≡ (v, rest)
unfolding enc wrap numbered paired
read_enc (int n) rest = read_numeral (n ∷ rest) num_int
read_enc (err e) rest = read_numeral (e ∷ rest) num_err
read_enc (inl v) rest = read_side (enc v rest) to_left ∙ ap (wrap inl) (read_enc v rest)
read_enc (inr v) rest = read_side (enc v rest) to_right ∙ ap (wrap inr) (read_enc v rest)
read_enc (pkg h v) rest =
    read_package (head_words h (enc v rest)) ∙ package_head read_of h (enc v rest) ∙ ap (wrap (pkg h)) (read_enc v rest)
read_enc (pair v w) rest =
    read_pair (enc v (enc w rest)) ∙ rw (read_enc v (enc w rest)) (ap (wrap (pair v)) (read_enc w rest))
read_enc blank rest =
    read_none rest 0 (
      (((((tt, λ h. omega arith), λ h. omega arith), λ h. omega arith), λ h. omega arith), λ h. omega arith),
      λ h. omega arith,
    )

pub value_enc : (v : Value) (rest : List ℕ) → value_of (enc v rest) ≡ v
value_enc v rest = ap (λ (g : Got). g.0) (read_enc v rest)

-- the value that starts at a place ends after its words
pub end_enc : (ws : List ℕ) (at : ℕ) (v : Value) (rest : List ℕ) → drop at ws ≡ enc v rest → end_of ws at ≡ at + size v
unfolding end_of
end_enc ws at v rest e =
    let n : length (read_of (enc v rest)).1 ≡ length rest = ap (λ (g : Got). length g.1) (read_enc v rest) in
    rw e (omega (arith, n, length-enc v rest))

pub value_cell : (v : Value) → value_of (cell v) ≡ v
unfolding cell
value_cell v = value_enc v (zeros (cell_words - size v))

pub cell_inj : (v w : Value) → cell v ≡ cell w → v ≡ w
cell_inj v w e = sym (value_cell v) ∙ ap value_of e ∙ value_cell w

-- ---- words that are read as a proper value are the words of that value

exact : (labels : ℕ) {ws : List ℕ} {g : Got} → Reads ws g → proper labels g.0 ≡ true → enc g.0 g.1 ≡ ws
unfolding proper enc wrap
exact labels (r_none ws us h) p = absurd (absurd_false p)
exact labels (r_num num_int) p = refl
exact labels (r_num num_err) p = refl
exact labels (r_side to_left h) p = ap (λ (us : List ℕ). 3 ∷ us) (exact labels h p)
exact labels (r_side to_right h) p = ap (λ (us : List ℕ). 4 ∷ us) (exact labels h p)
exact labels (r_pkg h r) p = ap (λ (us : List ℕ). 5 ∷ head_words h us) (exact labels r (both_right _ _ p))
exact labels (r_pair {g = g} r k) p =
    ap (λ (us : List ℕ). 6 ∷ us)
    (ap (enc g.0) (exact labels k (both_right _ _ p)) ∙ exact labels r (both_left _ _ p))

pub read_exact : (labels : ℕ) (ws : List ℕ) → proper labels (value_of ws) ≡ true
    → enc (read_of ws).0 (read_of ws).1 ≡ ws
unfolding read_of
read_exact labels ws p = exact labels (reads (length ws) ws) p

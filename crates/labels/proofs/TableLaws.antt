-- Labels in a table of words: one that stands there is read back, one is stored where it fits, and so is a policy, in
-- place.
use mathlib.Core.Path.{◌≡◌, refl, sym, ap, ap₂, ◌∙◌, subst}
use mathlib.Core.Bool.{true}
use mathlib.Core.Logic.{◌≢◌}
use mathlib.Core.List.{List, ◌++◌, append_assoc}
use Prim.Native.Nat.{ℕ, ◌+◌, ◌<◌, ◌≤◌}
use native.Mathlib.Nat.{add_assoc}
use native.Mathlib.Omega.{arith}
use lib.ListN.{length, get_or, set, take, drop, length-append, length-drop, length-set, take-append-drop}
use lib.ListN.{get_or-append, get_or-eq_default}
use lib.Seq.{paste, take-paste, drop-paste, take_all, drop-drop, get_or-append-add, take_at, drop_at, length-take-le}
use lib.Seq.{get_or-take, get_or-drop, get_or-set_other, drop-set-add, take-set-lt, take-set-le, drop-set-lt, take-add}
use lib.Seq.{set_out}
use borrow.Author.Tests.{le-leb, lt-leb}
use Rattle.sets.specs.Sets.{union, single, tab}
use Rattle.sets.proofs.Walks.{length-tab, get_d_tab, tab_ext, tab_get_d}
use Rattle.labels.specs.declared.Label.{Label}
use Rattle.labels.specs.Labels.{owners, policy_of, whole_of}
use Rattle.labels.specs.Internal.Tables.{label_size, label_words, sets_at, label_at, label_put}
use Rattle.labels.proofs.OrderLaws.{label_path, whole_lengths}

pub length_words : (a : Label) → whole_of a ≡ true → length (label_words a) ≡ label_size
unfolding label_words
length_words a h =
    length-append a.readers a.writers ∙ ap₂ (λ (x y : ℕ). x + y) (whole_lengths a h).0 (whole_lengths a h).1

-- ---- the sets of a table: the word at a place, and none past the last owner
pub set_there : (t : List ℕ) (at o : ℕ) → o < owners → get_or (sets_at t at) o 0 ≡ get_or t (at + o) 0
unfolding sets_at
set_there t at o l = get_d_tab owners (λ (k : ℕ). get_or t (at + k) 0) o 0 l

pub set_beyond : (t : List ℕ) (at o : ℕ) → owners ≤ o → get_or (sets_at t at) o 0 ≡ 0
unfolding sets_at
set_beyond t at o l =
    let f : ℕ → ℕ = λ k. get_or t (at + k) 0 in
    let m : length (tab owners f) ≤ o = omega (arith, length-tab owners f) in
    get_or-eq_default (tab owners f) 0 m

-- ---- what stands in the midst of a table is read back
sets_are : (t : List ℕ) (at : ℕ) (row : List ℕ) → length row ≡ owners
    → ((o : ℕ) → o < owners → get_or t (at + o) 0 ≡ get_or row o 0) → sets_at t at ≡ row
unfolding sets_at
sets_are t at row h e =
    tab_ext owners (λ (o : ℕ). get_or t (at + o) 0) (λ (o : ℕ). get_or row o 0) e
    ∙ ap (λ (n : ℕ). tab n (λ (o : ℕ). get_or row o 0)) (sym h) ∙ tab_get_d row 0

sets_read : (xs row ys : List ℕ) → length row ≡ owners → sets_at (xs ++ (row ++ ys)) (length xs) ≡ row
sets_read xs row ys h =
    sets_are (xs ++ (row ++ ys)) (length xs) row h
    (λ o l. get_or-append-add xs (row ++ ys) o 0 ∙ get_or-append row ys 0 o (subst (λ (n : ℕ). o < n) (sym h) l))

pub label_read : (xs ys : List ℕ) (a : Label) → whole_of a ≡ true → label_at (xs ++ label_words a ++ ys) (length xs) ≡ a
unfolding label_at label_words
label_read xs ys a h =
    let r = a.readers in
    let w = a.writers in
    let here : xs ++ (r ++ w) ++ ys ≡ xs ++ (r ++ (w ++ ys)) = simp append_assoc in
    let there : xs ++ (r ++ w) ++ ys ≡ (xs ++ r) ++ (w ++ ys) = simp append_assoc in
    let past : length xs + owners ≡ length (xs ++ r) =
    sym (length-append xs r ∙ ap (λ (n : ℕ). length xs + n) (whole_lengths a h).0) in
    label_path (label_at (xs ++ (r ++ w) ++ ys) (length xs)) a
    (ap (λ (t : List ℕ). sets_at t (length xs)) here ∙ sets_read xs r (w ++ ys) (whole_lengths a h).0)
    (ap₂ sets_at there past ∙ sets_read (xs ++ r) w ys (whole_lengths a h).1)

-- ---- a label is stored where it fits
module _ (t : List ℕ) (at : ℕ) (a : Label) where
  pub put_fits : at + label_size ≤ length t → label_put t at a ≡ take at t ++ label_words a ++ drop (at + label_size) t
  unfolding label_put
  put_fits l = rw (le-leb (at + label_size) (length t) l)

  pub put-short : length t < at + label_size → label_put t at a ≡ t
  unfolding label_put
  put-short l = rw (lt-leb (at + label_size) (length t) l)

-- a label takes the place of label_size words
pub put_middle : (xs old ys : List ℕ) (a : Label) → length old ≡ label_size
    → label_put (xs ++ old ++ ys) (length xs) a ≡ xs ++ label_words a ++ ys
put_middle xs old ys a h =
    let whole = xs ++ old ++ ys in
    let far : length (xs ++ old) ≡ length xs + label_size = length-append xs old ∙ ap (λ (n : ℕ). length xs + n) h in
    put_fits whole (length xs) a (omega (arith, far, length-append (xs ++ old) ys))
    ∙ ap₂ (λ (x y : List ℕ). x ++ label_words a ++ y)
    (ap (take (length xs)) (append_assoc xs old ys) ∙ take_at xs (old ++ ys) (length xs) refl)
    (drop_at (xs ++ old) ys (length xs + label_size) far)

-- a store of the readers and then of the writers stores the label
pub put_rows : (t : List ℕ) (at : ℕ) (a : Label) → whole_of a ≡ true → at + label_size ≤ length t
    → paste (paste t at a.readers owners) (at + owners) a.writers owners ≡ label_put t at a
unfolding label_words
put_rows t at a h l =
    let r = a.readers in
    let w = a.writers in
    let p = paste t at r owners in
    let long : owners ≤ length r = omega (arith, (whole_lengths a h).0) in
    let front : take (at + owners) p ≡ take at t ++ r =
    take-paste t at r owners (omega arith) long
    ∙ ap (λ (x : List ℕ). take at t ++ x) (take_all owners r (omega (arith, (whole_lengths a h).0))) in
    let back : drop (at + owners + owners) p ≡ drop (at + label_size) t =
    sym (drop-drop owners (at + owners) p) ∙ ap (drop owners) (drop-paste t at r owners (omega arith) long)
    ∙ drop-drop owners (at + owners) t ∙ ap (λ (k : ℕ). drop k t) (add_assoc at owners owners) in
    ap₂ (λ (x y : List ℕ). x ++ take owners w ++ y) front back
    ∙ ap (λ (x : List ℕ). take at t ++ r ++ x ++ drop (at + label_size) t)
    (take_all owners w (omega (arith, (whole_lengths a h).1)))
    ∙ ap (λ (x : List ℕ). x ++ drop (at + label_size) t) (append_assoc (take at t) r w)
    ∙ sym (put_fits t at a l)

-- ---- a policy is stored in place

-- one set for each owner, where all their words stand in the table
sets_there : (t : List ℕ) (at : ℕ) → at + owners ≤ length t → sets_at t at ≡ take owners (drop at t)
sets_there t at l =
    sets_are t at (take owners (drop at t)) (length-take-le owners (drop at t) (omega (arith, length-drop at t)))
    (λ o k. sym (get_or-take owners (drop at t) o 0 k ∙ get_or-drop at t o 0))

-- after a store in one of these words, and after one elsewhere
sets_set : (t : List ℕ) (at o v : ℕ) → at + owners ≤ length t → o < owners
    → sets_at (set t (at + o) v) at ≡ set (sets_at t at) o v
sets_set t at o v l k =
    sets_there (set t (at + o) v) at (omega (arith, length-set t (at + o) v))
    ∙ ap (take owners) (drop-set-add at t o v)
    ∙ take-set-lt owners (drop at t) o v k
    ∙ ap (λ (x : List ℕ). set x o v) (sym (sets_there t at l))

sets_apart : (t : List ℕ) (at j v : ℕ) → ((o : ℕ) → o < owners → at + o ≢ j) → sets_at (set t j v) at ≡ sets_at t at
unfolding sets_at
sets_apart t at j v h =
    tab_ext owners (λ (o : ℕ). get_or (set t j v) (at + o) 0) (λ (o : ℕ). get_or t (at + o) 0)
    (λ o k. get_or-set_other t j (at + o) v 0 (h o k))

-- the label that stands in u, stored in a table that is as u elsewhere, gives u
put_from : (t u : List ℕ) (at : ℕ) → at + label_size ≤ length t → length u ≡ length t
    → take at t ≡ take at u → drop (at + label_size) t ≡ drop (at + label_size) u
    → label_put t at (label_at u at) ≡ u
unfolding label_at label_words
put_from t u at l e front back =
    let words : sets_at u at ++ sets_at u (at + owners) ≡ take label_size (drop at u) =
    ap₂ (λ (x y : List ℕ). x ++ y) (sets_there u at (omega arith))
    (sets_there u (at + owners) (omega arith) ∙ ap (take owners) (sym (drop-drop owners at u)))
    ∙ sym (take-add owners owners (drop at u)) in
    put_fits t at (label_at u at) l
    ∙ ap₂ (λ (x y : List ℕ). x ++ label_words (label_at u at) ++ y) front back
    ∙ ap (λ (x : List ℕ). take at u ++ x ++ drop (at + label_size) u) words
    ∙ ap (λ (x : List ℕ). x ++ drop (at + label_size) u) (sym (take-add at label_size u))
    ∙ take-append-drop (at + label_size) u

-- a label with one policy more, stored where it stood
module _ (t : List ℕ) (at : ℕ) (l : at + label_size ≤ length t) (o r w : ℕ) where
  pub put-policy : o < owners
      → label_put t at (policy_of (label_at t at) o r w)
      ≡ set (set t (at + o) (union r (single o))) (at + owners + o) (union w (single o))
  unfolding policy_of label_at
  put-policy k =
      let x = union r (single o) in
      let y = union w (single o) in
      let first = set t (at + o) x in
      let both = set first (at + owners + o) y in
      let same : length first ≡ length t = length-set t (at + o) x in
      let label : policy_of (label_at t at) o r w ≡ label_at both at =
      label_path (policy_of (label_at t at) o r w) (label_at both at)
      (sym (sets_apart first at (at + owners + o) y (λ i j e. omega arith) ∙ sets_set t at o x (omega arith) k))
      (sym (sets_set first (at + owners) o y (omega arith) k
      ∙ ap (λ (row : List ℕ). set row o y) (sets_apart t (at + owners) (at + o) x (λ i j e. omega arith)))) in
      ap (label_put t at) label
      ∙ put_from t both at l (length-set first (at + owners + o) y ∙ same)
      (sym (take-set-le at first (at + owners + o) y (omega arith) ∙ take-set-le at t (at + o) x (omega arith)))
      (sym (drop-set-lt (at + label_size) first (at + owners + o) y (omega arith)
      ∙ drop-set-lt (at + label_size) t (at + o) x (omega arith)))

  -- an owner without a place
  pub put-policy_past : owners ≤ o → label_put t at (policy_of (label_at t at) o r w) ≡ t
  unfolding policy_of label_at sets_at
  put-policy_past k =
      ap (label_put t at)
      (label_path (policy_of (label_at t at) o r w) (label_at t at)
      (set_out (sets_at t at) o (union r (single o))
      (omega (arith, length-tab owners (λ (i : ℕ). get_or t (at + i) 0))))
      (set_out (sets_at t (at + owners)) o (union w (single o))
      (omega (arith, length-tab owners (λ (i : ℕ). get_or t (at + owners + i) 0)))))
      ∙ put_from t t at l refl refl refl

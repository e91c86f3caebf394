-- One value made of another in the accumulator: a law for each way through each function.
use Rattle.std.proofs.Common.{◌≡◌, ℕ, suc, ◌+◌, ◌-◌, ◌%◌, ◌^◌, ◌<◌, ◌≤◌, Bool, true, false, cond, eqb, List, []}
use Rattle.std.proofs.Common.{◌∷◌, ◌++◌, length, get_or, take, drop, sym, refl, ap, ◌∙◌, subst, ap₂, arith}
use Rattle.std.proofs.Common.{take-append-drop, get_or-take, le-leb}
use borrow.Author.Tests.{lt-leb}
use Rattle.language.specs.Syntax.{Head, head_of, head_size, Value, int, err, inl, inr, pkg, pair, blank, Part, first}
use Rattle.language.specs.Syntax.{second, pick, size, has}
use Rattle.language.specs.World.{World, cell_words, wanted}
use Rattle.language.specs.Evaluation.{Res, ok, long, fit_if, fit, add_to, add, packed, opened, unpacked}
use Rattle.language.specs.Evaluation.{part_of}
use Rattle.sheet.specs.Internal.Tables.{labels_in, left_in, below_in}
use Rattle.sheet.specs.Internal.Powers.{may_write, may_read}
use Rattle.sheet.specs.Internal.TypeTest.{has_no}
use Rattle.memory.specs.Words.{head_words, enc, zeros, cell, value_of}
use Rattle.memory.specs.Internal.Post.{end_of}
use Rattle.memory.specs.Memory.{cell_of}
use Rattle.memory.proofs.WordLaws.{length-cell, enc-append, value_enc, end_enc}
use Rattle.cells.specs.Internal.Cells.{accumulator, load_of, store_of, push_of, pushes_of, pop_of, pops_of, cut_of}
use Rattle.script.specs.declared.Row.{Row}
use Rattle.script.proofs.Rows.{NoneOf, none_between}
use Rattle.evaluator.specs.declared.nodes.Failure.{Failure}
use Rattle.evaluator.specs.declared.nodes.Failure.TheVariants.{InsufficientAuth, IllegalFlow, TypeMismatch}
use Rattle.evaluator.specs.Internal.Records.{Setting}
use Rattle.evaluator.specs.Internal.Nodes.{Yields, Turns, Applies, error_number, error_of, error_in, Tells, Sums}
use Rattle.evaluator.specs.Internal.Nodes.{Tagged}
use Rattle.evaluator.specs.Internal.Nodes.{Packs, Unpacks, Projects, Op, o_left, o_right, o_pack}
use Rattle.evaluator.specs.Internal.Nodes.{o_unpack, o_part, op_kind, MadeBy, Applied, Pairs}
use Rattle.cells.proofs.CellLaws.{there, load_there, length_load, length_push, length_pushes, length_pop, length_pops}
use Rattle.cells.proofs.CellLaws.{length_cut, store_there, cell-stored, rest_kept}
use Rattle.evaluator.proofs.ValueLaws.{cell_size, tags_left, push_tag, push_package, pop_package, push_pair}
use Rattle.evaluator.proofs.ValueLaws.{pop_first, pop_second}

-- ---- what is in the accumulator

-- the words start with those of the accumulator's value
pub words_here : (work : List ℕ) (v : Value) → cell_of work accumulator ≡ cell v
    → work ≡ enc v (zeros (cell_words - size v) ++ drop cell_words work)
unfolding cell_of cell
words_here work v e =
    sym (take-append-drop 16 work) ∙ ap (λ (l : List ℕ). l ++ drop 16 work) e
    ∙ enc-append v (zeros (16 - size v)) (drop 16 work)

size_here : (work : List ℕ) (v : Value) (n : ℕ) → n ≡ end_of work 0 → cell_of work accumulator ≡ cell v → n ≡ size v
size_here work v n s e = omega (arith, end_enc work 0 v _ (words_here work v e))

pub load_here : (work : List ℕ) (v : Value) → cell_words ≤ length work → cell_of work accumulator ≡ cell v
    → load_of work accumulator ≡ cell v
load_here work v h e = load_there work 0 (there work 0 (omega arith)) ∙ e

-- the second word
pub second_here : (work : List ℕ) (v : Value) → cell_of work accumulator ≡ cell v
    → get_or work 1 0 ≡ get_or (cell v) 1 0
unfolding cell_of
second_here work v e = sym (get_or-take 16 work 1 0 (omega arith)) ∙ ap (λ (l : List ℕ). get_or l 1 0) e

-- ---- answers

module _ (f : Value → Res) (before : List ℕ) (state : ℕ) where
  -- a new value is stored
  turns_put : (words : List ℕ) → length words ≡ cell_words
      → ((u : Value) → cell_words ≤ length before → cell_of before accumulator ≡ cell u → Yields (f u) state words)
      → Turns f before state (store_of before accumulator words)
  turns_put words n k u h a = rw (cell-stored before 0 words n (there before 0 (omega arith))) (k u h a)

applies-put : {Means : Type 0} {before after : List ℕ} (words : List ℕ) → length words ≡ cell_words
    → after ≡ store_of before accumulator words → Means → Applies before after Means
applies-put {before = before} words n e m = record {
  kept = ap (drop 16) e ∙ rest_kept before words n;
  means = m;
}

applies_keep : {Means : Type 0} {before : List ℕ} → Means → Applies before before Means
applies_keep m = record { kept = refl; means = m }

-- ---- values that fit, and that don't

fits : (v : Value) → size v ≤ cell_words → fit v ≡ ok v
unfolding fit fit_if
fits v h = simp (le-leb (size v) 16 h)

too_long : (v : Value) → cell_words < size v → fit v ≡ long
unfolding fit fit_if
too_long v h = simp (lt-leb (size v) 16 h)

answers_ok : (r : Res) (v : Value) (words : List ℕ) → r ≡ ok v → words ≡ cell v → Yields r 0 words
unfolding Yields
answers_ok r v words e w = rw e (refl, w)

answers-long : (r : Res) (words : List ℕ) → r ≡ long → Yields r 10 words
unfolding Yields
answers-long r words e = rw e refl

pub length-int : (n : ℕ) → length (cell (int n)) ≡ cell_words
unfolding size
length-int n = length-cell (int n) (omega arith)

length-error : (e : ℕ) → length (cell (inr (err e))) ≡ cell_words
unfolding size
length-error e = length-cell (inr (err e)) (omega arith)

loaded : (work words : List ℕ) → words ≡ load_of work accumulator → length words ≡ cell_words
loaded work words l = ap (λ (u : List ℕ). length u) l ∙ length_load work 0

-- ---- plus

add-answer : (u w : Value) (n m s : ℕ) (words : List ℕ) → words ≡ cell (int s) → n ≡ get_or (cell u) 1 0
    → m ≡ get_or (cell w) 1 0 → s ≡ (n + m) % 2 ^ 32 → Yields (add u w) 0 words
unfolding Yields add add_to fit fit_if size cell enc
add-answer (int a) (int b) n m s words e p q r =
    let sum = r ∙ ap (λ (i : ℕ). (i + m) % 2 ^ 32) p ∙ ap (λ (i : ℕ). (a + i) % 2 ^ 32) q in
    (refl, e ∙ ap (λ (i : ℕ). cell (int i)) sum)
add-answer (int a) (err b) n m s words e p q r = tt
add-answer (int a) (inl w) n m s words e p q r = tt
add-answer (int a) (inr w) n m s words e p q r = tt
add-answer (int a) (pkg h w) n m s words e p q r = tt
add-answer (int a) (pair w x) n m s words e p q r = tt
add-answer (int a) blank n m s words e p q r = tt
add-answer (err a) w n m s words e p q r = tt
add-answer (inl u) w n m s words e p q r = tt
add-answer (inr u) w n m s words e p q r = tt
add-answer (pkg h u) w n m s words e p q r = tt
add-answer (pair u x) w n m s words e p q r = tt
add-answer blank w n m s words e p q r = tt

module _ {before : List ℕ} where
  pub sum_done : {n m : ℕ} {after : List ℕ} → m ≡ get_or before 1 0
      → after ≡ store_of before accumulator (cell (int ((n + m) % 2 ^ 32))) → Sums n before 0 after
  sum_done {n} {m} q e =
      let s = (n + m) % 2 ^ 32 in
      applies-put (cell (int s)) (length-int s) e
      (λ u p. rw e (turns_put (add u) before 0 (cell (int s)) (length-int s)
      (λ w h a. add-answer u w n m s (cell (int s)) refl p (q ∙ second_here before w a) refl)))

  -- ---- left and right

  pub tagged-long : {w end : ℕ} → end ≡ end_of before 0 → cell_words ≤ end → Tagged w before 10 before
  tagged-long {end = end} s h =
      applies_keep
      (λ f t u g a. answers-long (fit (f u)) (cell_of before 0)
      (too_long (f u) (omega (arith, t.longer u, size_here before u end s a))))

  pub tagged_done : {w end : ℕ} {words after : List ℕ} → end ≡ end_of before 0 → end < cell_words
      → words ≡ load_of before accumulator → after ≡ store_of before accumulator (push_of w words)
      → Tagged w before 0 after
  tagged_done {w} {end} {words} s h l e =
      let n = length_push w words (loaded before words l) in
      applies-put (push_of w words) n e
      (λ f t. rw e (turns_put (λ u. fit (f u)) before 0 (push_of w words) n
      (λ u g q. let m = size_here before u end s q in
      answers_ok (fit (f u)) (f u) (push_of w words) (fits (f u) (omega (arith, t.longer u)))
      (ap (push_of w) (l ∙ load_here before u g q) ∙ push_tag t u (omega arith)))))

  -- ---- pack

  module _ (powers l : ℕ) {may : Bool} (w : may ≡ may_write powers l) where
    pub pack-error : {after : List ℕ} → may ≡ false → after ≡ store_of before accumulator (cell (inr (err 1)))
        → Packs powers l before 0 after
    unfolding packed
    pack-error n e =
        applies-put (cell (inr (err 1))) (length-error 1) e
        (rw (e, ← w, n) (turns_put (packed false l) before 0 (cell (inr (err 1))) (length-error 1)
        (λ u h a. answers_ok (packed false l u) (inr (err 1)) (cell (inr (err 1))) refl refl)))

    pub pack-long : {end : ℕ} → may ≡ true → end ≡ end_of before 0 → 13 < end → Packs powers l before 10 before
    unfolding packed size
    pack-long {end} y s h =
        applies_keep
        (rw (← w, y) (λ u g a. answers-long (packed true l u) (cell_of before 0)
        (too_long (inl (pkg (head_of l) u)) (omega (arith, size_here before u end s a)))))

    pub pack-done : {end : ℕ} {words after : List ℕ} → may ≡ true → end ≡ end_of before 0 → end ≤ 13
        → words ≡ load_of before accumulator
        → after ≡ store_of before accumulator (push_of 3 (push_of 5 (push_of l words)))
        → Packs powers l before 0 after
    unfolding packed size
    pack-done {end} {words} y s h ld e =
        let left : List ℕ = push_of 3 (push_of 5 (push_of l words)) in
        let n : length left ≡ 16 =
        length_push 3 _ (length_push 5 _ (length_push l words (loaded before words ld))) in
        applies-put left n e
        (rw (e, ← w, y) (turns_put (packed true l) before 0 left n
        (λ u g a. let m = size_here before u end s a in
        answers_ok (packed true l u) (inl (pkg (head_of l) u)) left
        (fits (inl (pkg (head_of l) u)) (omega arith))
        (ap (λ (x : List ℕ). push_of 3 (push_of 5 (push_of l x))) (ld ∙ load_here before u g a)
        ∙ ap (push_of 3) (push_package l u (omega arith)) ∙ push_tag tags_left (pkg (head_of l) u) (omega arith)))))

-- ---- unpack

opened-error : (a b c : Bool) (v : Value) (e : ℕ) → e ≡ error_of a b c → (e ≡ 0 → ⊥)
    → opened a b c v ≡ ok (inr (err e))
unfolding opened error_of
opened-error false b c v e p n = rw p refl
opened-error true false c v e p n = rw p refl
opened-error true true false v e p n = rw p refl
opened-error true true true v e p n = absurd (n p)

opened_fine : (a b c : Bool) (v : Value) → 0 ≡ error_of a b c → opened a b c v ≡ fit (inl v)
unfolding opened error_of
opened_fine false b c v p = absurd (omega arith)
opened_fine true false c v p = absurd (omega arith)
opened_fine true true false v p = absurd (omega arith)
opened_fine true true true v p = refl

-- an error's number is never that of no error
error_some : (e : Failure) → error_number e ≡ 0 → ⊥
error_some InsufficientAuth z = omega arith
error_some IllegalFlow z = omega arith
error_some TypeMismatch z = omega arith

-- the first word tells a package
no_package : (W : World) (t l : ℕ) (work : List ℕ) (v : Value) (state : ℕ) → (get_or work 0 0 ≡ 5 → ⊥)
    → cell_of work accumulator ≡ cell v
    → Yields (unpacked W t l v) state (cell_of work accumulator)
unfolding Yields unpacked enc
no_package W t l work (int n) state ne e = tt
no_package W t l work (err n) state ne e = tt
no_package W t l work (inl v) state ne e = tt
no_package W t l work (inr v) state ne e = tt
no_package W t l work (pkg h v) state ne e = absurd (ne (first_word work (pkg h v) e))
  where
    first_word : (work : List ℕ) (v : Value) → cell_of work accumulator ≡ cell v
        → get_or work 0 0 ≡ get_or (enc v (zeros (16 - size v) ++ drop 16 work)) 0 0
    first_word work v e = ap (λ (l : List ℕ). get_or l 0 0) (words_here work v e)
no_package W t l work (pair v w) state ne e = tt
no_package W t l work blank state ne e = tt

module _ {S : Setting} (before : List ℕ) (t l : ℕ) where
  -- what the three tests say of the package
  tested : (e : ℕ)
      → e ≡ error_in S l (get_or before 1 0) (has_no S.table (value_of (drop 2 before)) (left_in S.table t))
      → (W : World) → Tells S W → l < labels_in S.table → (h : Head) (u : Value)
      → cell_of before accumulator ≡ cell (pkg h u)
      → e ≡ error_of (W.reads l) (W.below h.label l) (has u (wanted (W.ty t)))
  unfolding error_in head_words enc
  tested e p W tells there h u a =
      let c = words_here before (pkg h u) a in
      let z : List ℕ = zeros (16 - size (pkg h u)) ++ drop 16 before in
      let l' : get_or before 1 0 ≡ h.label = ap (λ (ws : List ℕ). get_or ws 1 0) c in
      let u' : value_of (drop 2 before) ≡ u = ap (λ (ws : List ℕ). value_of (drop 2 ws)) c ∙ value_enc u z in
      p ∙ rw (l', u', tells.reads_is l there, tells.below_is h.label l, tells.type_is u t) refl

  module _ (e : ℕ) (ne : e ≡ 0 → ⊥)
      (p : e ≡ error_in S l (get_or before 1 0) (has_no S.table (value_of (drop 2 before)) (left_in S.table t))) where
    unpack-error_at : (W : World) → Tells S W → l < labels_in S.table → (u : Value)
        → cell_of before accumulator ≡ cell u
        → Yields (unpacked W t l u) 0 (cell (inr (err e)))
    unfolding Yields unpacked
    unpack-error_at W tells there (int n) a = tt
    unpack-error_at W tells there (err n) a = tt
    unpack-error_at W tells there (inl u) a = tt
    unpack-error_at W tells there (inr u) a = tt
    unpack-error_at W tells there (pkg h u) a =
        answers_ok _ (inr (err e)) (cell (inr (err e)))
        (opened-error _ _ _ u e (tested e p W tells there h u a) ne) refl
    unpack-error_at W tells there (pair u w) a = tt
    unpack-error_at W tells there blank a = tt

    unpack-error_by : {after : List ℕ} → after ≡ store_of before accumulator (cell (inr (err e)))
        → Unpacks S t l before 0 after
    unpack-error_by s =
        applies-put (cell (inr (err e))) (length-error e) s
        (λ W tells there. rw s (turns_put (unpacked W t l) before 0 (cell (inr (err e))) (length-error e)
        (λ u h a. unpack-error_at W tells there u a)))

  pub unpack-error : (e : Failure)
      → error_number e
      ≡ error_in S l (get_or before 1 0) (has_no S.table (value_of (drop 2 before)) (left_in S.table t))
      → {after : List ℕ} → after ≡ store_of before accumulator (cell (inr (err (error_number e))))
      → Unpacks S t l before 0 after
  unpack-error e p s = unpack-error_by (error_number e) (error_some e) p s

  module _
      (p : 0 ≡ error_in S l (get_or before 1 0) (has_no S.table (value_of (drop 2 before)) (left_in S.table t))) where
    unpack_done_at : (W : World) → Tells S W → l < labels_in S.table → (u : Value) (content : List ℕ)
        → cell_of before accumulator ≡ cell u
        → content ≡ push_of 3 (pop_of (pop_of (cell u))) → Yields (unpacked W t l u) 0 content
    unfolding Yields unpacked size
    unpack_done_at W tells there (int n) content a c = tt
    unpack_done_at W tells there (err n) content a c = tt
    unpack_done_at W tells there (inl u) content a c = tt
    unpack_done_at W tells there (inr u) content a c = tt
    unpack_done_at W tells there (pkg h u) content a c =
        let n : suc (head_size + size u) ≤ 16 = cell_size before 0 (pkg h u) a in
        answers_ok _ (inl u) content
        (opened_fine _ _ _ u (tested 0 p W tells there h u a) ∙ fits (inl u) (omega arith))
        (c ∙ ap (push_of 3) (pop_package h u (omega arith)) ∙ push_tag tags_left u (omega arith))
    unpack_done_at W tells there (pair u w) content a c = tt
    unpack_done_at W tells there blank content a c = tt

    pub unpack_done : {words after : List ℕ} → words ≡ load_of before accumulator
        → after ≡ store_of before accumulator (push_of 3 (pop_of (pop_of words)))
        → Unpacks S t l before 0 after
    unpack_done {words} ld s =
        let left : List ℕ = push_of 3 (pop_of (pop_of words)) in
        let n : length left ≡ 16 = length_push 3 _ (length_pop _ (length_pop words (loaded before words ld))) in
        applies-put left n s
        (λ W tells there. rw s (turns_put (unpacked W t l) before 0 left n
        (λ u h a. unpack_done_at W tells there u left a
        (ap (λ (ws : List ℕ). push_of 3 (pop_of (pop_of ws))) (ld ∙ load_here before u h a)))))

  pub unpack_none : {w : ℕ} (state : ℕ) → w ≡ get_or before 0 0 → (w ≡ 5 → ⊥) → Unpacks S t l before state before
  unpack_none state p ne =
      applies_keep (λ W tells there u g a. no_package W t l before u _ (λ q. ne (p ∙ q)) a)

-- the error of an unpack, by the tests that are made in order
module _ (S : Setting) (l m : ℕ) (fits : Bool) {may : Bool} (r : may ≡ may_read S.powers l) where
  pub error_reads : may ≡ false → 1 ≡ error_in S l m fits
  unfolding error_in error_of
  error_reads n = rw (sym r ∙ n) refl

  module _ {flows : Bool} {w : ℕ} (y : may ≡ true) (e : w ≡ m) (b : flows ≡ below_in S.table w l) where
    flow_is : flows ≡ below_in S.table m l
    flow_is = b ∙ ap (λ (i : ℕ). below_in S.table i l) e

    pub error-flow : flows ≡ false → 2 ≡ error_in S l m fits
    unfolding error_in error_of
    error-flow n = rw (sym r ∙ y, sym flow_is ∙ n) refl

    pub error-type : flows ≡ true → fits ≡ false → 3 ≡ error_in S l m fits
    unfolding error_in error_of
    error-type f n = rw (sym r ∙ y, sym flow_is ∙ f, n) refl

    pub error_none : flows ≡ true → fits ≡ true → 0 ≡ error_in S l m fits
    unfolding error_in error_of
    error_none f g = rw (sym r ∙ y, sym flow_is ∙ f, g) refl

-- ---- the parts of a pair

-- the first word tells a pair
no_pair : (p : Part) (work : List ℕ) (v : Value) (state : ℕ) → (get_or work 0 0 ≡ 6 → ⊥)
    → cell_of work accumulator ≡ cell v
    → Yields (part_of p v) state (cell_of work accumulator)
unfolding Yields part_of enc
no_pair p work (int n) state ne e = tt
no_pair p work (err n) state ne e = tt
no_pair p work (inl v) state ne e = tt
no_pair p work (inr v) state ne e = tt
no_pair p work (pkg h v) state ne e = tt
no_pair p work (pair v w) state ne e = absurd (ne (ap (λ (l : List ℕ). get_or l 0 0) (words_here work (pair v w) e)))
no_pair p work blank state ne e = tt

-- what stands in the accumulator for a part that is taken of a value
part_answer : (p : Part) (u : Value) (words : List ℕ) → ((v w : Value) → u ≡ pair v w → words ≡ cell (pick p v w))
    → Yields (part_of p u) 0 words
unfolding Yields part_of
part_answer p (int n) words k = tt
part_answer p (err n) words k = tt
part_answer p (inl u) words k = tt
part_answer p (inr u) words k = tt
part_answer p (pkg h u) words k = tt
part_answer p (pair v w) words k = (refl, k v w refl)
part_answer p blank words k = tt

-- where the first part ends once the pair's word is popped, and where the second starts before
first_end : (work popped : List ℕ) (u w : Value) → cell_words ≤ length work
    → popped ≡ store_of work accumulator (pop_of (cell (pair u w)))
    → end_of popped 0 ≡ size u
unfolding pop_of cell enc
first_end work popped u w h p =
    let rest : List ℕ = enc w (zeros (16 - size (pair u w))) in
    let e : popped ≡ enc u ((rest ++ (0 ∷ [])) ++ drop 16 work) =
    p ∙ store_there work 0 (pop_of (cell (pair u w))) (there work 0 (omega arith))
    ∙ ap (λ (l : List ℕ). l ++ drop 16 work) (enc-append u rest (0 ∷ []))
    ∙ enc-append u (rest ++ (0 ∷ [])) (drop 16 work) in
    omega (arith, end_enc popped 0 u _ e)

second_start : (work : List ℕ) (u w : Value) → cell_of work accumulator ≡ cell (pair u w) → end_of work 1 ≡ suc (size u)
unfolding enc
second_start work u w a = omega (arith, end_enc work 1 u _ (ap (drop 1) (words_here work (pair u w) a)))

module _ {before : List ℕ} where
  pub part_none : (p : Part) {w : ℕ} (state : ℕ) → w ≡ get_or before 0 0 → (w ≡ 6 → ⊥) → Projects p before state before
  part_none p state q ne = applies_keep (λ u g a. no_pair p before u _ (λ r. ne (q ∙ r)) a)

  module _ {words : List ℕ} (ld : words ≡ load_of before accumulator) where
    -- a part is stored
    part_put : (p : Part) {out after : List ℕ} → length out ≡ cell_words → after ≡ store_of before accumulator out
        → ((u w : Value) → cell_words ≤ length before → cell_of before accumulator ≡ cell (pair u w)
        → words ≡ cell (pair u w) → out ≡ cell (pick p u w))
        → Projects p before 0 after
    part_put p {out} n e k =
        applies-put out n e
        (rw e (turns_put (part_of p) before 0 out n
        (λ u h a. part_answer p u out
        (λ x y q. k x y h (a ∙ ap cell q) (ld ∙ load_here before u h a ∙ ap cell q)))))

    pub part_first : {popped after : List ℕ} {end : ℕ}
        → popped ≡ store_of before accumulator (pop_of words) → end ≡ end_of popped 0
        → after ≡ store_of before accumulator (cut_of end (pop_of words)) → Projects first before 0 after
    unfolding pick size
    part_first {popped = popped} {end = end} p s e =
        part_put first (length_cut end _ (length_pop words (loaded before words ld))) e
        (λ u w h a q.
        ap₂ cut_of
        (s ∙ first_end before popped u w h (p ∙ ap (λ (l : List ℕ). store_of before accumulator (pop_of l)) q))
        (ap pop_of q)
        ∙ pop_first u w (omega (arith, cell_size before 0 (pair u w) a)))

    pub part_second : {after : List ℕ} {end : ℕ} → end ≡ end_of before 1
        → after ≡ store_of before accumulator (pops_of end words) → Projects second before 0 after
    unfolding pick size
    part_second {end = end} s e =
        part_put second (length_pops end words (loaded before words ld)) e
        (λ u w h a q. ap₂ pops_of (s ∙ second_start before u w a) q
        ∙ pop_second u w (omega (arith, cell_size before 0 (pair u w) a)))

-- ---- a pair

-- the size of a value whose cell's words these are
words_size : (words : List ℕ) (u : Value) (n : ℕ) → n ≡ end_of words 0 → words ≡ cell u → n ≡ size u
unfolding cell
words_size words u n s p = omega (arith, end_enc words 0 u (zeros (16 - size u)) p)

module _ {before words : List ℕ} {n : ℕ} (s : n ≡ end_of words 0) where
  pub pair-long : {m : ℕ} → m ≡ end_of before 0 → cell_words ≤ n + m → Pairs words before 10 before
  unfolding size
  pair-long {m} t h =
      applies_keep
      (λ u p w g a. answers-long (fit (pair u w)) (cell_of before 0)
      (too_long (pair u w) (omega (arith, words_size words u n s p, size_here before w m t a))))

  pub pair_done : {m k : ℕ} {held after : List ℕ} → m ≡ end_of before 0 → n + m < cell_words
      → held ≡ load_of before accumulator → k ≡ n
      → after ≡ store_of before accumulator (push_of 6 (pushes_of (take k words) held))
      → Pairs words before 0 after
  unfolding size
  pair_done {m} {k} {held} t h ld whole e =
      let out : List ℕ = push_of 6 (pushes_of (take k words) held) in
      let long : length out ≡ 16 = length_push 6 _ (length_pushes (take k words) held (loaded before held ld)) in
      applies-put out long e
      (λ u p. rw e (turns_put (λ w. fit (pair u w)) before 0 out long
      (λ w g a.
      let size_is = words_size words u n s p in
      let l = size_here before w m t a in
      answers_ok (fit (pair u w)) (pair u w) out (fits (pair u w) (omega arith))
      (rw (whole, size_is, p, ld, load_here before w g a) (push_pair u w (omega arith))))))

-- ---- what a line makes, by its kind

-- the line of a kind's number
op_of : ℕ → Op
op_of n =
    cond (eqb n 10) o_left (cond (eqb n 11) o_right (cond (eqb n 12) o_pack (cond (eqb n 13) o_unpack
    (o_part (cond (eqb n 15) first second)))))

op_back : (o : Op) → op_of (op_kind o) ≡ o
unfolding op_of op_kind pick
op_back o_left = refl
op_back o_right = refl
op_back o_pack = refl
op_back o_unpack = refl
op_back (o_part first) = refl
op_back (o_part second) = refl

module _ (S : Setting) (row : Row) (before : List ℕ) (state : ℕ) (after : List ℕ) where
  pub applied_by : (o : Op) → row.kind ≡ op_kind o → MadeBy o S row before state after
      → Applied S row before state after
  applied_by o k y = λ j q.
      subst (λ i. MadeBy i S row before state after) (sym (op_back o) ∙ ap op_of (sym k ∙ q) ∙ op_back j) y

  -- a row of another kind
  pub applied_none : NoneOf row.kind 10 4 → (row.kind ≡ 15 → ⊥) → (row.kind ≡ 16 → ⊥) → Applied S row before state after
  unfolding op_kind pick
  applied_none f no-first no_second = other
    where
      low : 10 ≤ row.kind → row.kind < 14 → ⊥
      low = none_between 10 4 f

      other : Applied S row before state after
      other o_left q = absurd (low (omega arith) (omega arith))
      other o_right q = absurd (low (omega arith) (omega arith))
      other o_pack q = absurd (low (omega arith) (omega arith))
      other o_unpack q = absurd (low (omega arith) (omega arith))
      other (o_part first) q = absurd (no-first q)
      other (o_part second) q = absurd (no_second q)

-- What holds of every table of numbers, by induction over its rows.
use mathlib.Core.Logic.{◌↔◌, inl, inr, ⊎_elim}
use mathlib.Core.Path.{◌≡◌, refl, sym, ap, ◌∙◌, subst}
use mathlib.Core.Bool.{Bool, true, false, cond, true≢false}
use mathlib.Core.List.{List, [], ◌∷◌, ◌++◌}
use Prim.Native.Nat.{ℕ}
use borrow.Author.Tests.{eq-eqb}
use lib.Dec.{eqb}
use lib.ListN.{get_or}
use Rattle.numbers.specs.Rows.{Row, ◌when◌, numbers, None, First, Among, here, later, FirstToApply, GivenInOrder}
use Rattle.numbers.specs.Calls.{Table, AnswerBy}
use Rattle.numbers.specs.Theorems.{InOrder, refuses, none_applies, FirstThatAppliesIsGiven, Settled}
use Rattle.numbers.specs.Theorems.{ExactlyOneAnswer, DemandByTable, EveryTable}

-- a row that does not apply, before one that does
below : {P : Type 0} {rows : List Row} {j : ℕ} (k : ℕ) → ¬ P → FirstToApply rows j → FirstToApply ((k when P) ∷ rows) j
unfolding None
below {P} k n g = record {
  before = (k when P) ∷ g.before;
  Condition = g.Condition;
  after = g.after;
  order = ap (λ (rs : List Row). (k when P) ∷ rs) g.order;
  applies = g.applies;
  none_before = (n, g.none_before);
}

module _ {A : Type 0} (refuse : ℕ → A) (Else : A → Type 0) where
  -- what holds of each refusal, and of each answer where none applies, holds of the answer by the table
  pub by_rows {ℓ} : (Q : A → Type ℓ) (rows : List Row)
      → ((k : ℕ) → Among (numbers rows) k → FirstToApply rows k → Q (refuse k))
      → ((r : A) → None rows → Else r → Q r) → (r : A) → First refuse Else rows r → Q r
  unfolding First numbers None
  by_rows Q [] p q r h = q r tt h
  by_rows Q ((k when P) ∷ rows) p q r (inl (a, e)) =
      subst Q (sym e)
      (p k here (record { before = []; Condition = P; after = rows; order = refl; applies = a; none_before = tt }))
  by_rows Q ((k when P) ∷ rows) p q r (inr (n, h)) =
      by_rows Q rows (λ j i g. p j (later i) (below k n g)) (λ x m. q x (n, m)) r h

  -- f is the answer by the table, and the only one, if that is so where none applies
  pub exactly : (Else' : A → Type 0) (f : A) (rows : List Row) → (None rows → Else f → (r : A) → (f ≡ r) ↔ Else' r)
      → First refuse Else rows f
      → (r : A) → (f ≡ r) ↔ First refuse Else' rows r
  unfolding First None
  exactly Else' f [] k h r = k tt h r
  exactly Else' f ((n when P) ∷ rows) k (inl (a, e)) r =
      (λ z. inl (a, sym z ∙ e), ⊎_elim (λ d. e ∙ sym d.1) (λ d. absurd (d.0 a)))
  exactly Else' f ((n when P) ∷ rows) k (inr (a, h)) r =
      let later = exactly Else' f rows (λ m. k (a, m)) h r in
      (λ z. inr (a, later.0 z), ⊎_elim (λ d. absurd (a d.0)) (λ d. later.1 d.1))

  -- ---- in order

  at_row : (k : ℕ) {P : Type 0} (after : List Row) → P → (before : List Row) → None before
      → First refuse Else (before ++ ((k when P) ∷ after)) (refuse k)
  unfolding First None
  at_row k after a [] n = inl (a, refl)
  at_row k after a ((j when Q) ∷ rows) n = inr (n.0, at_row k after a rows n.1)

  past_all : (r : A) (rows : List Row) → None rows → Else r → First refuse Else rows r
  unfolding First None
  past_all r [] n e = e
  past_all r ((j when Q) ∷ rows) n e = inr (n.0, past_all r rows n.1 e)

judged : {A : Type 0} (T : Table A) {r : A} → InOrder T r → AnswerBy T r
judged T (refuses {k} g) =
    subst (λ (rows : List Row). First T.refuse T.Else rows (T.refuse k)) (sym g.order)
    (at_row T.refuse T.Else k g.after g.applies g.before g.none_before)
judged T (none_applies {r} n e) = past_all T.refuse T.Else r T.rows n e

-- ---- one answer

-- the rows of a table that is settled are judged to the end
some_answer : {A : Type 0} (refuse : ℕ → A) (Else : A → Type 0) (rows : List Row) → Settled rows
    → (None rows → (r : A) × Else r) → (r : A) × First refuse Else rows r
unfolding First None Settled
some_answer refuse Else [] s e = e tt
some_answer refuse Else ((k when P) ∷ rows) (inl a) e = (refuse k, inl (a, refl))
some_answer refuse Else ((k when P) ∷ rows) (inr (n, s)) e =
    let f = some_answer refuse Else rows s (λ m. e (n, m)) in (f.0, inr (n, f.1))

one_answer : ExactlyOneAnswer
one_answer A T s e =
    let f = some_answer T.refuse T.Else T.rows s (λ n. ((e n).0, (e n).1)) in (
      f.0,
      f.1,
      λ r. (exactly T.refuse T.Else T.Else f.0 T.rows
          (λ n d x. (λ z. subst T.Else z d, λ d'. sym ((e n).2 f.0 d) ∙ (e n).2 x d')) f.1 r).1,
    )

-- ---- every table

-- what holds of each refusal, and of each answer where none applies, holds of the answer by the table
by_table {ℓ} : {A : Type 0} (T : Table A) (Q : A → Type ℓ)
    → ((k : ℕ) → Among (numbers T.rows) k → FirstToApply T.rows k → Q (T.refuse k))
    → ((r : A) → None T.rows → T.Else r → Q r)
    → (r : A) → AnswerBy T r → Q r
by_table T Q = by_rows T.refuse T.Else Q T.rows

first_given : FirstThatAppliesIsGiven
first_given A T number h =
    by_table T (λ r. GivenInOrder T.rows (number r))
    (λ k i g. subst (GivenInOrder T.rows) (sym (h.of_refusal k))
    (record { refused = λ _. g; not_refused = λ n. absurd (n i) }))
    (λ r n e. record { refused = λ i. absurd (h.not_of_table r e i); not_refused = λ _. n })

by_its_table : DemandByTable
by_its_table A c o b =
    let T = c.table in
    let h = o.numbered in
    record {
      order = first_given A T c.number h c.gives b;
      by_table = b;
      one_of = by_table T (λ r. Among c.may_give (c.number r))
          (λ k i g. subst (Among c.may_give) (sym (h.of_refusal k)) (o.table_given k i))
          (λ r n e. o.else_given r e) c.gives b;
      whole_refusal = by_table T (λ r. Among (numbers T.rows) (c.number r) → r ≡ T.refuse (c.number r))
          (λ k i g j. sym (ap T.refuse (h.of_refusal k))) (λ r n e j. absurd (h.not_of_table r e j)) c.gives b;
      zero = by_table T (λ r. ¬ (c.number r ≡ 0) → ¬ (c.number r ≡ 9) → ¬ (c.number r ≡ 10)
          → (i : ℕ) → get_or (c.besides r) i 0 ≡ 0)
          (λ k i g x y z. o.refusal_zero k) (λ r n e. o.else_zero r e) c.gives b;
      kept = by_table T (λ r. ¬ (c.number r ≡ 0) → c.leaves r ≡ c.lent)
          (λ k i g n. o.refusal_keeps k) (λ r n e. o.else_keeps r e) c.gives b;
    }

pub every_table : EveryTable
every_table = record {
  first_that_applies = first_given;
  answers_in_order =
      λ A T r. (by_table T (InOrder T) (λ k i g. refuses g) (λ x n e. none_applies n e) r, judged T);
  refused_by_a_number = λ A T. by_table T _ (λ k i g. inl (k, i, refl)) (λ r n e. inr (n, e));
  exactly_one_answer = one_answer;
  demand_by_table = by_its_table;
}

-- ---- the numbers of a table

-- n is none of these, by computing
abbrev pub free : ℕ → List ℕ → Bool
free n [] = true
free n (m ∷ ms) = cond (eqb m n) false (free n ms)

pub not_one : (n : ℕ) {k : ℕ} {ns : List ℕ} → Among ns k → free n ns ≡ true → ¬ (k ≡ n)
not_one n (here {x} {xs}) h e = true≢false (sym h ∙ ap (λ (b : Bool). cond b false (free n xs)) (eq-eqb x n e))
not_one n (later {y = y} {xs = xs} i) h e = not_one n i (rest (eqb y n) h) e
  where
    rest : (b : Bool) → cond b false (free n xs) ≡ true → free n xs ≡ true
    rest true d = absurd (true≢false (sym d))
    rest false d = d

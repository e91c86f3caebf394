-- Demand 1 of a call, from the numbers of its answers.
use mathlib.Core.Path.{◌≡◌, refl, sym, subst}
use mathlib.Core.Bool.{Bool, true, false, cond, true≢false}
use mathlib.Core.List.{List, [], ◌∷◌}
use Prim.Native.Nat.{ℕ}
use borrow.Author.Tests.{eqb-true}
use lib.Dec.{eqb}
use lib.ListN.{get_or}
use Rattle.numbers.specs.Rows.{numbers, Among, here, later}
use Rattle.numbers.specs.Calls.{Call, Demand1Of, Demand2Of}
use Rattle.numbers.specs.Theorems.{Orderly}
use Rattle.numbers.proofs.RowLaws.{free, not_one, every_table}

-- ---- lists of numbers

-- the lists have no number in common, and the first are among the second, by computing
abbrev pub apart : List ℕ → List ℕ → Bool
apart [] ms = true
apart (n ∷ ns) ms = cond (free n ms) (apart ns ms) false

abbrev pub all_in : List ℕ → List ℕ → Bool
all_in [] ms = true
all_in (n ∷ ns) ms = cond (free n ms) false (all_in ns ms)

not_both : {k : ℕ} (ns ms : List ℕ) → apart ns ms ≡ true → Among ns k → ¬ Among ms k
not_both {k = k} [] ms h x = elim x [ ]
not_both (n ∷ ns) ms h here = both (free n ms) refl h
  where
    both : (b : Bool) → free n ms ≡ b → cond b (apart ns ms) false ≡ true → ¬ Among ms n
    both true e d j = not_one n j e refl
    both false e d j = true≢false (sym d)
not_both (n ∷ ns) ms h (later i) = not_both ns ms (rest (free n ms) h) i
  where
    rest : (b : Bool) → cond b (apart ns ms) false ≡ true → apart ns ms ≡ true
    rest true d = d
    rest false d = absurd (true≢false (sym d))

-- what isn't free is one of these
taken : (n : ℕ) (ns : List ℕ) → free n ns ≡ false → Among ns n
taken n [] h = absurd (true≢false h)
taken n (m ∷ ns) h = go (eqb m n) refl h (taken n ns)
  where
    go : (b : Bool) → eqb m n ≡ b → cond b false (free n ns) ≡ false → (free n ns ≡ false → Among ns n)
        → Among (m ∷ ns) n
    go true e d k = subst (Among (m ∷ ns)) (eqb-true m n e) here
    go false e d k = later (k d)

in_all : {k : ℕ} (ns ms : List ℕ) → all_in ns ms ≡ true → Among ns k → Among ms k
in_all {k = k} [] ms h x = elim x [ ]
in_all (n ∷ ns) ms h here = go (free n ms) refl h
  where
    go : (b : Bool) → free n ms ≡ b → cond b false (all_in ns ms) ≡ true → Among ms n
    go true e d = absurd (true≢false (sym d))
    go false e d = taken n ms e
in_all (n ∷ ns) ms h (later i) = in_all ns ms (rest (free n ms) h) i
  where
    rest : (b : Bool) → cond b false (all_in ns ms) ≡ true → all_in ns ms ≡ true
    rest true d = absurd (true≢false (sym d))
    rest false d = d

-- ---- calls

-- a number that is 0, 9 or 10 isn't another
another : {k : ℕ} → Among (0 ∷ 9 ∷ 10 ∷ []) k → ¬ (k ≡ 0) → ¬ (k ≡ 9) → ¬ (k ≡ 10) → ⊥
another here x y z = x refl
another (later here) x y z = y refl
another (later (later here)) x y z = z refl
another (later (later (later i))) x y z = elim i [ ]

-- A call whose answers have one of the numbers ns, of 0, 9 and 10, where no row applies: these and the table's are
-- apart, and it may give all of them.
module _ {A : Type 0} (c : Call A) (ns : List ℕ) (of_three : all_in ns (0 ∷ 9 ∷ 10 ∷ []) ≡ true)
    (a : apart ns (numbers c.table.rows) ≡ true)
    (given : all_in ns c.may_give ≡ true) (table : all_in (numbers c.table.rows) c.may_give ≡ true)
    (of_refusal : (k : ℕ) → c.number (c.table.refuse k) ≡ k)
    (zero : (k i : ℕ) → get_or (c.besides (c.table.refuse k)) i 0 ≡ 0)
    (keeps : (k : ℕ) → c.leaves (c.table.refuse k) ≡ c.lent) where
  pub orderly : ((r : A) → c.table.Else r → Among ns (c.number r))
      → ((r : A) → c.table.Else r → ¬ (c.number r ≡ 0) → c.leaves r ≡ c.lent) → Orderly c
  orderly else stops = record {
    numbered = record {
      of_refusal = of_refusal;
      not_of_table = λ r e. not_both ns (numbers c.table.rows) a (else r e);
    };
    table_given = λ k. in_all (numbers c.table.rows) c.may_give table;
    else_given = λ r e. in_all ns c.may_give given (else r e);
    refusal_zero = zero;
    else_zero = λ r e x y z. absurd (another (in_all ns (0 ∷ 9 ∷ 10 ∷ []) of_three (else r e)) x y z);
    refusal_keeps = keeps;
    else_keeps = stops;
  }

  -- and the number is 0 wherever no row applies
  pub orderly_done : Among ns 0 → ((r : A) → c.table.Else r → c.number r ≡ 0) → Orderly c
  orderly_done z done = orderly (λ r e. subst (Among ns) (sym (done r e)) z) (λ r e n. absurd (n (done r e)))

-- demand 1 of a call of which demand 2 is known
pub by_second : {A : Type 0} (c : Call A) → Orderly c → Demand2Of c → Demand1Of c
by_second {A} c o d = every_table.demand_by_table A c o ((d c.gives).0 refl)

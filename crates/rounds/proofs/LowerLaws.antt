-- The lower of two numbers, and the lowest over all scripts.
use mathlib.Core.Logic.{◌⊎◌, inl, inr, ⊎_elim}
use mathlib.Core.Path.{◌≡◌, refl, sym, ap, ◌∙◌}
use mathlib.Core.List.{List, [], ◌∷◌}
use mathlib.Core.Option.{Option, none, some}
use Prim.Native.Nat.{ℕ, zero, suc, ◌≤◌, ◌<◌}
use native.Mathlib.Omega.{arith}
use lib.Dec.{leb}
use borrow.Author.Tests.{leb-true, leb-false, ltb-true, ltb-false, le-leb, lt-leb}
use Rattle.logic.proofs.BooleanLaws.{cases}
use Rattle.sets.proofs.Walks.{by_below}
use Rattle.language.specs.Syntax.{Script}
use Rattle.stages.specs.Calls.{on_script}
use Rattle.stages.specs.Internal.Stages.{OfVerdict, number_in}
use Rattle.stages.proofs.StageLaws.{refusing_verdict}
use Rattle.std.proofs.Common.{cond, ltb, pos}
use Rattle.std.specs.Prelude.{ℤ}
use Rattle.std.specs.Ordering.{ord_min, is_lt, int_cmp}
use denote.Enum.Declared.{tag_of}
use lib.ListN.{get_or}
use Rattle.stages.specs.contracts.refusal.Refusal.{the_type}
use Rattle.stages.specs.declared.refusal.Refusal.TheVariants as reasons
use Rattle.stages.specs.declared.refusal.Refusal.{Refusal}
use Rattle.stages.specs.contracts.refusal.RefusalOrd.TheImpl.{cmp-value}
use Rattle.stages.specs.Refusals.{refusal_number}
use Rattle.stages.proofs.StageLaws.{refuses}
use Rattle.rounds.specs.Calls.{lower, lowest}
use Rattle.rounds.specs.Internal.Stages.{lowest_in}

-- 0 is none
pub lower_right : (j k : ℕ) → j ≡ 0 → lower j k ≡ k
unfolding lower
lower_right zero k e = refl
lower_right (suc j) k e = absurd (omega arith)

pub lower_left : (j k : ℕ) → k ≡ 0 → lower j k ≡ j
unfolding lower
lower_left zero k e = e
lower_left (suc j) zero e = refl
lower_left (suc j) (suc k) e = absurd (omega arith)

pub lower_first : (j k : ℕ) → ¬ (j ≡ 0) → j ≤ k → lower j k ≡ j
unfolding lower
lower_first zero k n l = absurd (n refl)
lower_first (suc j) zero n l = absurd (omega arith)
lower_first (suc j) (suc k) n l = let h : j ≤ k = omega arith in rw (le-leb j k h) refl

pub lower_second : (j k : ℕ) → ¬ (k ≡ 0) → k < j → lower j k ≡ k
unfolding lower
lower_second zero k n l = absurd (omega arith)
lower_second (suc j) zero n l = absurd (n refl)
lower_second (suc j) (suc k) n l = let h : k < j = omega arith in rw (lt-leb j k h) refl

-- none is given where neither is
pub lower_none : (j k : ℕ) → lower j k ≡ 0 → (j ≡ 0) × (k ≡ 0)
unfolding lower
lower_none zero k e = (refl, e)
lower_none (suc j) zero e = absurd (omega arith)
lower_none (suc j) (suc k) e =
    cases (leb j k)
    (λ h. let z = lower_first (suc j) (suc k) (λ w. omega arith) (let l : j ≤ k = leb-true _ _ h in omega arith) in
    absurd (omega arith))
    (λ h. let z = lower_second (suc j) (suc k) (λ w. omega arith) (let l : k < j = leb-false _ _ h in omega arith) in
    absurd (omega arith))

pub lower_assoc : (i j k : ℕ) → lower (lower i j) k ≡ lower i (lower j k)
unfolding lower
lower_assoc zero j k = refl
lower_assoc (suc i) zero k = refl
lower_assoc (suc i) (suc j) zero = lower_left (lower (suc i) (suc j)) 0 refl
lower_assoc (suc i) (suc j) (suc k) =
    cases (leb i j)
    (λ p.
    let l : i ≤ j = leb-true _ _ p in
    rw (p) (cases (leb j k)
    (λ q. let m : j ≤ k = leb-true _ _ q in let n : i ≤ k = omega arith in rw (q, p, le-leb i k n) refl)
    (λ q. rw q refl)))
    (λ p.
    let l : j < i = leb-false _ _ p in
    rw (p) (cases (leb j k)
    (λ q. rw (q, p) refl)
    (λ q. let m : k < j = leb-false _ _ q in let n : k < i = omega arith in rw (q, lt-leb i k n) refl)))

-- it is one of the two, whichever stands first
pub lower_one : (j k : ℕ) → (lower j k ≡ j) ⊎ (lower j k ≡ k)
unfolding lower
lower_one zero k = inr refl
lower_one (suc j) zero = inl refl
lower_one (suc j) (suc k) = cases (leb j k) (λ p. inl (rw p refl)) (λ p. inr (rw p refl))

lower_swap : (j k : ℕ) → lower j k ≡ lower k j
lower_swap zero k = lower_right 0 k refl ∙ sym (lower_left k 0 refl)
lower_swap (suc j) zero = lower_left (suc j) 0 refl ∙ sym (lower_right 0 (suc j) refl)
lower_swap (suc j) (suc k) =
    let some : (i : ℕ) → ¬ (suc i ≡ 0) = λ i w. omega arith in
    by_below (suc j) (suc k)
    (λ l. lower_first (suc j) (suc k) (some j) (omega arith) ∙ sym (lower_second (suc k) (suc j) (some j) l))
    (λ l.
    by_below (suc k) (suc j)
    (λ m. lower_second (suc j) (suc k) (some k) m ∙ sym (lower_first (suc k) (suc j) (some k) l))
    (λ m. let e : j ≡ k = omega arith in rw e refl))

-- ---- over all scripts

module _ (number : List ℕ → ℕ) where
  pub lowest_more : (t : List ℕ) (ts : List (List ℕ)) → lowest number (t ∷ ts) ≡ lower (number t) (lowest number ts)
  unfolding lowest
  lowest_more t ts = refl

  pub lowest_over : lowest number [] ≡ 0
  unfolding lowest
  lowest_over = refl

  -- one script more: the lower of what was found before it and its own number goes on with those after it
  pub lowest_on : (k : ℕ) (t : List ℕ) (ts : List (List ℕ))
      → lower k (lowest number (t ∷ ts)) ≡ lower (lower k (number t)) (lowest number ts)
  unfolding lowest
  lowest_on k t ts = sym (lower_assoc k (number t) (lowest number ts))

-- ---- by a table

-- the lower of two verdicts' numbers is one
pub lower-verdict : (j k : ℕ) → OfVerdict j → OfVerdict k → OfVerdict (lower j k)
lower-verdict j k (v, e) (w, f) = ⊎_elim (λ p. (v, p ∙ e)) (λ p. (w, p ∙ f)) (lower_one j k)

-- 4 is lower than each of them
by_verdict : (o : Option Script) (v : ℕ) → OfVerdict v
    → on_script (λ k. k) o (λ _. v) ≡ lower (on_script (λ k. k) o (λ _. 0)) v
unfolding on_script
by_verdict none v of =
    sym (⊎_elim (λ z. lower_left 4 v z) (λ l. lower_first 4 v (λ w. omega arith) l) (refusing_verdict of))
by_verdict (some p) v of = sym (lower_right 0 v refl)

module _ (t : List ℕ) where
  pub lowest_in_first : (ts : List (List ℕ)) → lower 0 (lowest (number_in 0 t) ts) ≡ lowest_in 0 t ts
  unfolding lowest_in
  lowest_in_first ts = lower_swap 0 (lowest (number_in 0 t) ts)

  -- one script more, of which a verdict w is found
  pub lowest_in_on : (k v w : ℕ) → OfVerdict w → (script : List ℕ) (ts here all : List (List ℕ)) → here ≡ script ∷ ts
      → lower k (lowest (number_in 0 t) here) ≡ lowest_in v t all
      → lower (lower k (number_in w t script)) (lowest (number_in 0 t) ts) ≡ lowest_in (lower v w) t all
  unfolding lowest_in number_in
  lowest_in_on k v w of script ts here all p e =
      let n : ℕ = number_in 0 t script in
      let left : ℕ = lowest (number_in 0 t) ts in
      ap (λ (m : ℕ). lower (lower k m) left) (by_verdict _ w of)
      ∙ ap (λ (m : ℕ). lower m left) (sym (lower_assoc k n w))
      ∙ lower_assoc (lower k n) w left
      ∙ ap (lower (lower k n)) (lower_swap w left)
      ∙ sym (lower_assoc (lower k n) left w)
      ∙ ap (λ (m : ℕ). lower m w) (sym (lowest_on (number_in 0 t) k script ts)
      ∙ ap (λ (us : List (List ℕ)). lower k (lowest (number_in 0 t) us)) (sym p) ∙ e)
      ∙ lower_assoc (lowest (number_in 0 t) all) v w

-- ---- of refusals

-- the order of refusals is that of their numbers
abbrev numbers : List ℤ
numbers = pos 1 ∷ pos 2 ∷ pos 3 ∷ pos 4 ∷ pos 5 ∷ pos 6 ∷ pos 7 ∷ pos 8 ∷ pos 9 ∷ pos 10 ∷ pos 11 ∷ pos 12 ∷ []

number_at : (r : Refusal) → get_or numbers (tag_of the_type r) (pos 0) ≡ pos (refusal_number r)
number_at reasons.SheetMalformed = refl
number_at reasons.SheetRepeats = refl
number_at reasons.PrincipalUnknown = refl
number_at reasons.ScriptMalformed = refl
number_at reasons.IllTyped = refl
number_at reasons.IllLabelled = refl
number_at reasons.SliceSize = refl
number_at reasons.MemoryIllFormed = refl
number_at reasons.Spent = refl
number_at reasons.TooLong = refl
number_at reasons.TooManyScripts = refl
number_at reasons.NotListed = refl

cmp-numbers : (x y : Refusal) → cmp-value.it x y ≡ int_cmp (pos (refusal_number x)) (pos (refusal_number y))
cmp-numbers x y =
    ap (λ (p : ℤ). int_cmp p (get_or numbers (tag_of the_type y) (pos 0))) (number_at x)
    ∙ ap (int_cmp (pos (refusal_number x))) (number_at y)

is_less : (j k : ℕ) → is_lt (int_cmp (pos j) (pos k)) ≡ ltb j k
is_less j k = cases (ltb j k) (λ p. rw p refl) (λ p. rw p (cases (ltb k j) (λ q. rw q refl) (λ q. rw q refl)))

lower_by : (x y : Refusal) → refusal_number (cond (ltb (refusal_number y) (refusal_number x)) y x)
    ≡ lower (refusal_number x) (refusal_number y)
lower_by x y =
    cases (ltb (refusal_number y) (refusal_number x))
    (λ p. rw p (sym (lower_second _ _ (refuses y) (ltb-true _ _ p))))
    (λ p. rw p (sym (lower_first _ _ (refuses x) (ltb-false _ _ p))))

pub min_number : (x y : Refusal)
    → refusal_number (ord_min cmp-value.it x y) ≡ lower (refusal_number x) (refusal_number y)
min_number x y = rw (cmp-numbers y x, is_less (refusal_number y) (refusal_number x)) (lower_by x y)

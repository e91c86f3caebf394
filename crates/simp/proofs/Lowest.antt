-- The lowest number over several scripts, as a stage of a call.
use mathlib.Core.Logic.{◌⊎◌, inl, inr, ⊎_elim}
use mathlib.Core.Path.{◌≡◌, refl, ap, ◌∙◌}
use mathlib.Core.List.{List, [], ◌∷◌, ◌++◌}
use Prim.Native.Nat.{ℕ, ◌≤◌, ◌<◌}
use native.Mathlib.Omega.{arith}
use Rattle.stages.specs.Calls.{unless}
use Rattle.stages.proofs.StageLaws.{stops}
use Rattle.rounds.specs.Calls.{lower, lowest}
use Rattle.rounds.proofs.LowerLaws.{lower_left, lower_right, lower_first, lower_second, lowest_more, lowest_over}
use Rattle.numbers.specs.Rows.{Row, ◌when◌, First}
use Rattle.simp.specs.Rounds.{OneOf}

-- a number that is judged by a table
abbrev pub Judged : List Row → ℕ → Type 0
Judged = First (λ k. k) (λ r. r ≡ 0)

-- the table of these numbers
abbrev pub table : List ℕ → (ℕ → Type 0) → List Row
table [] P = []
table (k ∷ ks) P = k when P k ∷ table ks P

-- the numbers rise from above b
abbrev pub Rising : ℕ → List ℕ → Type 0
Rising b [] = Unit {0}
Rising b (k ∷ ks) = (b < k) × Rising k ks

-- the lower of two where the other is none, or not lower
first_of : (x y : ℕ) → 0 < x → (y ≡ 0) ⊎ (x ≤ y) → lower x y ≡ x
first_of x y p (inl e) = lower_left x y e
first_of x y p (inr l) = lower_first x y (λ z. omega arith) l

second_of : (x y : ℕ) → 0 < y → (x ≡ 0) ⊎ (y < x) → lower x y ≡ y
second_of x y p (inl e) = lower_right x y e
second_of x y p (inr l) = lower_second x y (λ z. omega arith) l

above : (b : ℕ) (ks : List ℕ) → Rising b ks → (P : ℕ → Type 0) (x : ℕ) → Judged (table ks P) x → (x ≡ 0) ⊎ (b < x)
unfolding First
above b [] u P x h = inl h
above b (k ∷ ks) u P x (inl (p, e)) = let l = u.0 in inr (omega (arith, l, e))
above b (k ∷ ks) u P x (inr (n, h)) =
    ⊎_elim inl (λ g. let l = u.0 in inr (omega (arith, l, g))) (above k ks u.1 P x h)

-- the lower of two judged numbers is judged by either
merged : (b : ℕ) (ks : List ℕ) → Rising b ks → (P Q : ℕ → Type 0) (x y : ℕ) → Judged (table ks P) x
    → Judged (table ks Q) y
    → Judged (table ks (λ k. P k ⊎ Q k)) (lower x y)
unfolding First
merged b [] u P Q x y h h' = lower_right x y h ∙ h'
merged b (k ∷ ks) u P Q x y (inl (p, e)) (inl (q, d)) =
    let l = u.0 in inl (inl p, first_of x y (omega (arith, l, e)) (inr (omega (arith, e, d))) ∙ e)
merged b (k ∷ ks) u P Q x y (inl (p, e)) (inr (n, d)) =
    let l = u.0 in
    inl (
      inl p,
      first_of x y (omega (arith, l, e)) (⊎_elim inl (λ g. inr (omega (arith, e, g))) (above k ks u.1 Q y d)) ∙ e,
    )
merged b (k ∷ ks) u P Q x y (inr (n, h)) (inl (q, d)) =
    let l = u.0 in
    inl (
      inr q,
      second_of x y (omega (arith, l, d)) (⊎_elim inl (λ g. inr (omega (arith, d, g))) (above k ks u.1 P x h)) ∙ d,
    )
merged b (k ∷ ks) u P Q x y (inr (n, h)) (inr (m, d)) = inr (⊎_elim n m, merged k ks u.1 P Q x y h d)

none_of : (ks : List ℕ) (P : ℕ → Type 0) → ((k : ℕ) → ¬ P k) → Judged (table ks P) 0
unfolding First
none_of [] P n = refl
none_of (k ∷ ks) P n = inr (n k, none_of ks P n)

pub over_all : (ks : List ℕ) → Rising 0 ks → (P : ℕ → List ℕ → Type 0) (f : List ℕ → ℕ)
    → ((t : List ℕ) → Judged (table ks (λ k. P k t)) (f t))
    → (ts : List (List ℕ)) → Judged (table ks (λ k. OneOf (P k) ts)) (lowest f ts)
unfolding OneOf
over_all ks u P f j [] = rw (lowest_over f) (none_of ks _ (λ k h. h))
over_all ks u P f j (t ∷ ts) = rw (lowest_more f t ts)
    (merged 0 ks u (λ k. P k t) (λ k. OneOf (P k) ts) (f t) (lowest f ts) (j t) (over_all ks u P f j ts))

-- a judged number is a stage of a call: its rows, and then the rows after it
pub stage : {A : Type 0} (refuse : ℕ → A) (Else : A → Type 0) (b : ℕ) (ks : List ℕ) → Rising b ks
    → (P : ℕ → Type 0) (rows : List Row) (k : ℕ) (go : A)
    → Judged (table ks P) k → (k ≡ 0 → First refuse Else rows go)
    → First refuse Else (table ks P ++ rows) (unless refuse k go)
unfolding First unless
stage refuse Else b [] u P rows k go h g = rw h (g h)
stage refuse Else b (j ∷ js) u P rows k go (inl (p, e)) g =
    let l = u.0 in inl (p, stops refuse k go (λ z. omega (arith, l, e, z)) ∙ ap refuse e)
stage refuse Else b (j ∷ js) u P rows k go (inr (n, h)) g = inr (n, stage refuse Else j js u.1 P rows k go h g)

-- Lists that grow at their end: a sum, a label, a policy of the last label or a location more.
use mathlib.Core.Path.{◌≡◌, refl, ap}
use mathlib.Core.Bool.{true}
use mathlib.Core.List.{List, [], ◌∷◌, ◌++◌}
use Prim.Native.Nat.{ℕ, suc, ◌+◌, ◌<◌, ◌≤◌}
use native.Mathlib.Omega.{arith}
use native.Mathlib.Nat.{add-zero}
use lib.ListN.{length}
use borrow.Author.Tests.{lt-ltb}
use Rattle.logic.proofs.BooleanLaws.{both_left, both_right, both_true}
use Rattle.labels.specs.Labels.{Policy, policy}
use Rattle.sheet.specs.Sheet.{Compound, Location, earlier_types, rising, each_rising, each_named}
use Rattle.sheet_text.specs.declared.line.SheetLine.{SheetLine}
use Rattle.sheet_text.specs.declared.line.SheetLine.TheVariants.{L}
use Rattle.sheet_text.specs.Lines.{policy_line, each, label_lines}
use Rattle.sheet.specs.Internal.Growth.{to_last}
use Rattle.sheet_text.specs.Internal.Building.{last_of, least_after}

pub no_entries : {A : Type 0} (xs : List A) → length xs ≡ 0 → xs ≡ []
no_entries [] h = refl
no_entries (x ∷ xs) h = absurd (omega arith)

-- ---- lines

pub each_more : {A : Type 0} (line : A → SheetLine) (xs : List A) (x : A) (rest : List SheetLine)
    → each line (xs ++ (x ∷ [])) rest ≡ each line xs (line x ∷ rest)
unfolding each
each_more line [] x rest = refl
each_more line (y ∷ xs) x rest = ap (◌∷◌ (line y)) (each_more line xs x rest)

pub labels_more : (pss : List (List Policy)) (rest : List SheetLine)
    → label_lines (pss ++ ([] ∷ [])) rest ≡ label_lines pss (L ∷ rest)
unfolding label_lines each
labels_more [] rest = refl
labels_more (ps ∷ pss) rest = ap (λ ls. L ∷ each policy_line ps ls) (labels_more pss rest)

pub policies_more : (p : Policy) (pss : List (List Policy)) (rest : List SheetLine) → 1 ≤ length pss
    → label_lines (to_last p pss) rest ≡ label_lines pss (policy_line p ∷ rest)
unfolding label_lines to_last
policies_more p [] rest h = absurd (omega arith)
policies_more p (ps ∷ []) rest h = ap (◌∷◌ L) (each_more policy_line ps p rest)
policies_more p (ps ∷ qs ∷ pss) rest h =
    ap (λ ls. L ∷ each policy_line ps ls) (policies_more p (qs ∷ pss) rest (omega arith))

-- ---- the last label

pub last_more : (pss : List (List Policy)) (ps : List Policy) → last_of (pss ++ (ps ∷ [])) ≡ ps
unfolding last_of
last_more [] ps = refl
last_more (qs ∷ []) ps = refl
last_more (qs ∷ rs ∷ pss) ps = last_more (rs ∷ pss) ps

pub least_more : (from : ℕ) (ps : List Policy) (o r w : ℕ) → least_after from (ps ++ (policy o r w ∷ [])) ≡ suc o
unfolding least_after
least_more from [] o r w = refl
least_more from (policy o' r' w' ∷ ps) o r w = least_more (suc o') ps o r w

-- ---- the form

pub earlier_more : (k : ℕ) (ss : List Compound) (x : Compound) → earlier_types k ss ≡ true → x.left < k + length ss
    → x.right < k + length ss
    → earlier_types k (ss ++ (x ∷ [])) ≡ true
unfolding earlier_types
earlier_more k [] x e h i =
    both_true (both_true (lt-ltb _ _ (rw (add-zero k) at h)) (lt-ltb _ _ (rw (add-zero k) at i))) refl
earlier_more k (s ∷ ss) x e h i =
    both_true (both_left _ _ e) (earlier_more (suc k) ss x (both_right _ _ e) (omega arith) (omega arith))

pub rising_more : (n from : ℕ) (ps : List Policy) (p : Policy) → rising n from ps ≡ true
    → rising n (least_after from ps) (p ∷ []) ≡ true
    → rising n from (ps ++ (p ∷ [])) ≡ true
unfolding rising least_after
rising_more n from [] p e h = h
rising_more n from (policy o r w ∷ ps) p e h =
    let sets = both_right _ _ e in
    both_true (both_left _ _ e) (both_true (both_left _ _ sets) (rising_more n (suc o) ps p (both_right _ _ sets) h))

pub each_rising_more : (n : ℕ) (pss : List (List Policy)) → each_rising n pss ≡ true
    → each_rising n (pss ++ ([] ∷ [])) ≡ true
unfolding each_rising rising
each_rising_more n [] e = both_true refl refl
each_rising_more n (ps ∷ pss) e = both_true (both_left _ _ e) (each_rising_more n pss (both_right _ _ e))

pub each_rising_last : (n : ℕ) (p : Policy) (pss : List (List Policy)) → each_rising n pss ≡ true
    → rising n (least_after 0 (last_of pss)) (p ∷ []) ≡ true → each_rising n (to_last p pss) ≡ true
unfolding each_rising to_last last_of
each_rising_last n p [] e h = e
each_rising_last n p (ps ∷ []) e h = both_true (rising_more n 0 ps p (both_left _ _ e) h) refl
each_rising_last n p (ps ∷ qs ∷ pss) e h =
    both_true (both_left _ _ e) (each_rising_last n p (qs ∷ pss) (both_right _ _ e) h)

pub each_named_more : (types labels : ℕ) (xs : List Location) (x : Location) → each_named types labels xs ≡ true
    → x.type < types → x.label < labels → each_named types labels (xs ++ (x ∷ [])) ≡ true
unfolding each_named
each_named_more types labels [] x e h i = both_true (both_true (lt-ltb _ _ h) (lt-ltb _ _ i)) refl
each_named_more types labels (y ∷ xs) x e h i =
    both_true (both_left _ _ e) (each_named_more types labels xs x (both_right _ _ e) h i)

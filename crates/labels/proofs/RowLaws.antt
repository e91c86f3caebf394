-- Rows of sets, one set for each owner: what a chain over a row tests or gathers, and an array made by a call at each
-- place, in the words of the definitions.
use denote.Param.Members.{Mut}
use lib.Seq.{ext_get_or}
use native.Mathlib.Nat.{le_of_suc-le-suc}
use Rattle.std.proofs.Common.{◌≡◌, ℕ, zero, suc, ◌+◌, ◌<◌, ◌≤◌, Bool, true, false, ◌&&◌, List, [], ◌∷◌}
use Rattle.std.proofs.Common.{length, get_or, take, drop, refl, sym, ap, ◌∙◌, arith, add-one}
use Rattle.std.proofs.Math.ListN.{get_or-eq_default}
use Rattle.std.proofs.Math.Seq.{take-suc}
use Rattle.std.proofs.lemmas.List.{get_or-take, get_or-drop, take_all, length-take, length-take-le}
use Rattle.std.proofs.lemmas.List.Sums.{fold_push}
use Rattle.std.specs.Array.{IsFromFnResult, IsFromFnResultFrom}
use Rattle.std.specs.Fn.{Called}
use Rattle.std.specs.List.{fold, list_all, zip}
use Rattle.logic.specs.Booleans.{both}
use Rattle.sets.specs.Sets.{width, intersection, everyone, restrict, every, tab}
use Rattle.sets.proofs.Walks.{by_below, length-tab, get_d_tab, tab_ext, tab_get_d}
use Rattle.labels.specs.Labels.{owners}
use Rattle.labels.specs.Internal.Tables.{sets_at}
use Rattle.labels.specs.Internal.Sole.{common_of}
use Rattle.labels.proofs.SoleLaws.{common_start, common_more}
use Rattle.labels.proofs.TableLaws.{set_there, set_beyond}

-- ---- tests
and_both : (a b : Bool) → (a && b) ≡ both a b
unfolding both
and_both true b = refl
and_both false b = refl

and_assoc : (a b c : Bool) → ((a && b) && c) ≡ (a && (b && c))
and_assoc true b c = refl
and_assoc false b c = refl

and_true : (a : Bool) → (a && true) ≡ a
and_true true = refl
and_true false = refl

-- a test of each item that goes on after one fails
pub fold_all : {A : Type 0} (p : A → Bool) (b : Bool) (xs : List A) → fold (λ a x. a && p x) b xs ≡ (b && list_all p xs)
fold_all p b [] = sym (and_true b)
fold_all p b (x ∷ xs) = fold_all p (b && p x) xs ∙ and_assoc b (p x) (list_all p xs)

-- a test of the first n items
pub all_every : (p : ℕ → Bool) (n : ℕ) (xs : List ℕ) → n ≤ length xs
    → list_all p (take n xs) ≡ every n (λ (o : ℕ). p (get_or xs o 0))
unfolding every
all_every p zero xs l = refl
all_every p (suc n) [] l = absurd (omega arith)
all_every p (suc n) (x ∷ xs) l =
    and_both (p x) (list_all p (take n xs)) ∙ ap (both (p x)) (all_every p n xs (le_of_suc-le-suc l))

pub row_every : (p : ℕ → Bool) (xs : List ℕ) → length xs ≡ owners
    → list_all p xs ≡ every owners (λ (o : ℕ). p (get_or xs o 0))
row_every p xs h =
    ap (list_all p) (sym (take_all owners xs (omega (arith, h)))) ∙ all_every p owners xs (omega (arith, h))

-- a test of the items of two rows, place by place
pub pairs_every : (t : ℕ → ℕ → Bool) (n : ℕ) (xs ys : List ℕ) → length xs ≡ n → length ys ≡ n
    → list_all (λ (p : ℕ × ℕ). t p.0 p.1) (zip xs ys) ≡ every n (λ (o : ℕ). t (get_or xs o 0) (get_or ys o 0))
unfolding every
pairs_every t zero [] ys h k = refl
pairs_every t zero (x ∷ xs) ys h k = absurd (omega arith)
pairs_every t (suc n) [] ys h k = absurd (omega arith)
pairs_every t (suc n) (x ∷ xs) [] h k = absurd (omega arith)
pairs_every t (suc n) (x ∷ xs) (y ∷ ys) h k =
    and_both (t x y) (list_all (λ (p : ℕ × ℕ). t p.0 p.1) (zip xs ys))
    ∙ ap (both (t x y)) (pairs_every t n xs ys (omega arith) (omega arith))

-- ---- what the first n items have in common
pub fold_common : (n : ℕ) (xs : List ℕ) → n ≤ length xs
    → fold intersection (restrict width (everyone width)) (take n xs) ≡ common_of n (λ (o : ℕ). get_or xs o 0)
fold_common zero xs l = common_start _
fold_common (suc n) xs l =
    ap (fold intersection (restrict width (everyone width))) (take-suc xs n 0 l)
    ∙ fold_push intersection _ (take n xs) (get_or xs n 0)
    ∙ common_more n (λ (o : ℕ). get_or xs o 0) (fold_common n xs (omega arith)) refl
    ∙ ap (λ (k : ℕ). common_of k (λ (o : ℕ). get_or xs o 0)) (add-one n)

-- ---- an array made by a call at each place, which changes nothing of its closure, is the table of what it gives
module _ {F : Type 0} (g : Mut F (ℕ × Unit {0}) ℕ) (f : F) (n : ℕ) (h : ℕ → ℕ)
    (gives : (i y : ℕ) (q : F) → i < n → Called g f (i, tt) y q → (q ≡ f) × (y ≡ h i)) where
  made_at : (ys : List ℕ) (i k : ℕ) (q : F) → q ≡ f → i + k ≤ n → IsFromFnResultFrom g q ys i k
      → (j : ℕ) → i ≤ j → j < i + k → get_or ys j 0 ≡ h j
  made_at ys i zero q s l r j a b = absurd (omega arith)
  made_at ys i (suc k) q s l r j a b =
      let (q', y, e, c, rest) = r in
      let m = gives i y q' (omega arith) (rw s at c) in
      by_below i j
      (λ u. made_at ys (i + 1) k q' m.0 (omega arith) rest j (omega arith) (omega arith))
      (λ u. let z : j ≡ i = omega arith in rw z (e.1 0 ∙ m.1))

  pub made_tab : (ys : List ℕ) → IsFromFnResult g f ys n → ys ≡ tab n h
  made_tab ys r =
      ext_get_or 0 ys (tab n h) (r.long ∙ sym (length-tab n h))
      (λ o l. let k : o < n = omega (arith, r.long) in
      made_at ys 0 n f refl (omega arith) r.each o (omega arith) (omega arith) ∙ sym (get_d_tab n h o 0 k))

-- ---- a row as a table
pub row_tab : (t : List ℕ) (at : ℕ) → tab owners (λ (o : ℕ). get_or (drop at t) o 0) ≡ sets_at t at
unfolding sets_at
row_tab t at = tab_ext owners _ _ (λ o l. get_or-drop at t o 0)

pub row_whole : (xs : List ℕ) → owners ≤ length xs → take owners xs ≡ tab owners (λ (o : ℕ). get_or xs o 0)
row_whole xs l =
    sym (tab_get_d (take owners xs) 0)
    ∙ ap (λ (n : ℕ). tab n (λ (o : ℕ). get_or (take owners xs) o 0)) (length-take-le owners xs l)
    ∙ tab_ext owners _ _ (λ o k. get_or-take owners xs o 0 k)

-- the sets of a table, or as many as stand in it, place by place
pub row_places : (t : List ℕ) (at : ℕ)
    → ◌≡◌ {A = ℕ → ℕ} (λ o. get_or (take owners (drop at t)) o 0) (λ o. get_or (sets_at t at) o 0)
row_places t at = λ i o. place o i
  where
    place : (o : ℕ) → get_or (take owners (drop at t)) o 0 ≡ get_or (sets_at t at) o 0
    place o =
        by_below o owners
        (λ l. get_or-take owners (drop at t) o 0 l ∙ get_or-drop at t o 0 ∙ sym (set_there t at o l))
        (λ l. get_or-eq_default (take owners (drop at t)) 0 (omega (arith, length-take owners (drop at t)))
        ∙ sym (set_beyond t at o l))

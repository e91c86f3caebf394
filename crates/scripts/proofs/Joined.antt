-- A text is its scripts' texts joined by empty lines, and parted in no other way.
use Prim.Native.Nat.{ℕ}
use native.Mathlib.Omega.{arith}
use mathlib.Core.Path.{◌≡◌, refl, sym, ap, ◌∙◌}
use mathlib.Core.Bool.{Bool, true, false, not}
use mathlib.Core.List.{List, [], ◌∷◌, ◌++◌}
use lib.Dec.{eqb}
use borrow.Author.Tests.{eqb-true}
use Rattle.logic.specs.Booleans.{both}
use Rattle.logic.proofs.BooleanLaws.{cases, both_left, both_right, both_true, absurd_false}
use Rattle.parts.specs.Parts.{no_empty_line, line_ended, joined}
use Rattle.parts.specs.Theorems.{AllWhole}
use Rattle.scripts.specs.Parting.{to_first, script_texts_from, script_texts}
use Rattle.scripts.specs.Theorems.{PartingExact}

-- whole texts and a last one, without empty lines; the first of them goes on from `start`
Whole : Bool → List (List ℕ) → List ℕ → Type 0
Whole start [] end = no_empty_line start end ≡ true
Whole start (t ∷ ts) end = (no_empty_line start t ≡ true) × (line_ended start t ≡ true) × Whole true ts end

-- ---- what is joined is parted so

-- a byte of a text without empty lines parts nothing
no_parting : (start : Bool) (b : ℕ) (t : List ℕ) → no_empty_line start (b ∷ t) ≡ true
    → (both start (eqb b 10) ≡ false) × (no_empty_line (eqb b 10) t ≡ true)
unfolding no_empty_line
no_parting start b t e = (inside (both start (eqb b 10)) (both_left _ _ e), both_right _ _ e)
  where
    inside : (x : Bool) → not x ≡ true → x ≡ false
    inside true h = absurd (absurd_false h)
    inside false h = refl

parted_last : (start : Bool) (end : List ℕ) → no_empty_line start end ≡ true → script_texts_from start end ≡ end ∷ []
unfolding script_texts_from to_first
parted_last start [] e = refl
parted_last start (b ∷ t) e = let h = no_parting start b t e in rw (h.0, parted_last (eqb b 10) t h.1) refl

parted_next : (start : Bool) (t u : List ℕ) → no_empty_line start t ≡ true → line_ended start t ≡ true
    → script_texts_from start (t ++ (10 ∷ u)) ≡ t ∷ script_texts_from true u
unfolding script_texts_from to_first line_ended both
parted_next start [] u e f = rw f refl
parted_next start (b ∷ t) u e f = let h = no_parting start b t e in rw (h.0, parted_next (eqb b 10) t u h.1 f) refl

parted : (start : Bool) (ts : List (List ℕ)) (end : List ℕ) → Whole start ts end
    → script_texts_from start (joined ts end) ≡ ts ++ (end ∷ [])
unfolding joined Whole
parted start [] end w = parted_last start end w
parted start (t ∷ ts) end w =
    parted_next start t (joined ts end) w.0 w.1 ∙ ap (λ (ps : List (List ℕ)). t ∷ ps) (parted true ts end w.2)

-- ---- what is parted is joined so

record Texts (start : Bool) (text : List ℕ) : Type 0 where
  before : List (List ℕ)
  end : List ℕ
  texts : script_texts_from start text ≡ before ++ (end ∷ [])
  text_is : text ≡ joined before end
  whole : Whole start before end

-- an empty line in front
behind_empty : (start : Bool) (b : ℕ) (t : List ℕ) → both start (eqb b 10) ≡ true → Texts true t → Texts start (b ∷ t)
unfolding script_texts_from joined Whole no_empty_line line_ended
behind_empty start b t e p =
    let q : b ≡ 10 = eqb-true _ _ (both_right _ _ e) in
    record {
      before = [] ∷ p.before;
      end = p.end;
      texts = rw e (ap (λ (ps : List (List ℕ)). [] ∷ ps) p.texts);
      text_is = rw q (ap (λ (u : List ℕ). 10 ∷ u) p.text_is);
      whole = (refl, both_left _ _ e, p.whole);
    }

-- another byte in front
behind_byte : (start : Bool) (b : ℕ) (t : List ℕ) → both start (eqb b 10) ≡ false → Texts (eqb b 10) t
    → Texts start (b ∷ t)
unfolding script_texts_from joined Whole no_empty_line line_ended to_first
behind_byte start b t e p = go p.before p.texts p.text_is p.whole
  where
    more : (u : List ℕ) → no_empty_line (eqb b 10) u ≡ true
        → both (not (both start (eqb b 10))) (no_empty_line (eqb b 10) u) ≡ true
    more u h = both_true (rw e refl) h

    go : (ts : List (List ℕ)) → script_texts_from (eqb b 10) t ≡ ts ++ (p.end ∷ []) → t ≡ joined ts p.end
        → Whole (eqb b 10) ts p.end → Texts start (b ∷ t)
    go [] d i w = record {
      before = [];
      end = b ∷ p.end;
      texts = rw (e, d) refl;
      text_is = ap (λ (u : List ℕ). b ∷ u) i;
      whole = more p.end w;
    }
    go (u ∷ ts) d i w = record {
      before = (b ∷ u) ∷ ts;
      end = p.end;
      texts = rw (e, d) refl;
      text_is = ap (λ (v : List ℕ). b ∷ v) i;
      whole = (more u w.0, w.1, w.2);
    }

its_texts : (start : Bool) (text : List ℕ) → Texts start text
unfolding script_texts_from joined Whole no_empty_line
its_texts start [] = record { before = []; end = []; texts = refl; text_is = refl; whole = refl }
its_texts start (b ∷ t) =
    cases (both start (eqb b 10)) (λ e. behind_empty start b t e (its_texts true t))
    (λ e. behind_byte start b t e (its_texts (eqb b 10) t))

-- ---- in one way

-- no list with a last text is empty
not_empty : {P : Type 0} (t : List ℕ) (us : List (List ℕ)) → ◌≡◌ {A = List (List ℕ)} [] (t ∷ us) → P
not_empty t us h = let z : ◌≡◌ {A = ℕ} 0 1 = cc in absurd (omega arith)

last_one : (ts us : List (List ℕ)) (t u : List ℕ) → ts ++ (t ∷ []) ≡ us ++ (u ∷ []) → (ts ≡ us) × (t ≡ u)
last_one [] [] t u h = (refl, cc)
last_one [] (v ∷ []) t u h = let z : [] ≡ u ∷ [] = cc in not_empty u [] z
last_one [] (v ∷ w ∷ us) t u h = let z : [] ≡ w ∷ (us ++ (u ∷ [])) = cc in not_empty w (us ++ (u ∷ [])) z
last_one (v ∷ []) [] t u h = let z : [] ≡ t ∷ [] = cc in not_empty t [] z
last_one (v ∷ w ∷ ts) [] t u h = let z : [] ≡ w ∷ (ts ++ (t ∷ [])) = cc in not_empty w (ts ++ (t ∷ [])) z
last_one (v ∷ ts) (w ∷ us) t u h =
    let d : v ≡ w = cc in
    let e : ts ++ (t ∷ []) ≡ us ++ (u ∷ []) = cc in
    let r = last_one ts us t u e in
    (rw (d, r.0) refl, r.1)

all_whole : (ts : List (List ℕ)) (end : List ℕ) → Whole true ts end → AllWhole ts × (no_empty_line true end ≡ true)
unfolding Whole AllWhole
all_whole [] end w = (tt, w)
all_whole (t ∷ ts) end w = let r = all_whole ts end w.2 in ((record { no_empty = w.0; whole = w.1 }, r.0), r.1)

whole_all : (ts : List (List ℕ)) (end : List ℕ) → AllWhole ts → no_empty_line true end ≡ true → Whole true ts end
unfolding Whole AllWhole
whole_all [] end a e = e
whole_all (t ∷ ts) end a e = (a.0.no_empty, a.0.whole, whole_all ts end a.1 e)

joined_so : (text : List ℕ) (ts : List (List ℕ)) (end : List ℕ) → script_texts text ≡ ts ++ (end ∷ [])
    → (text ≡ joined ts end) × AllWhole ts × (no_empty_line true end ≡ true)
unfolding script_texts
joined_so text ts end h =
    let p = its_texts true text in
    let o = last_one p.before ts p.end end (sym p.texts ∙ h) in
    let w = all_whole ts end (rw (← o.0, ← o.1) p.whole) in
    (p.text_is ∙ rw (o.0, o.1) refl, w.0, w.1)

parted_so : (text : List ℕ) (ts : List (List ℕ)) (end : List ℕ)
    → (text ≡ joined ts end) × AllWhole ts × (no_empty_line true end ≡ true)
    → script_texts text ≡ ts ++ (end ∷ [])
unfolding script_texts
parted_so text ts end (i, a, e) = ap (script_texts_from true) i ∙ parted true ts end (whole_all ts end a e)

pub parting_exact : PartingExact
unfolding script_texts
parting_exact = record {
  exact = λ text ts end. (joined_so text ts end, parted_so text ts end);
  some_last = λ text. let p = its_texts true text in (p.before, p.end, p.texts);
}

-- Where the scripts of a text stand in it.
use Prim.Native.Nat.{ℕ, suc, ◌+◌, ◌-◌, ◌≤◌, ◌<◌, min}
use native.Mathlib.Omega.{arith}
use native.Mathlib.Numerals.{add-one}
use mir.Val.{bool_byte}
use mathlib.Core.Path.{◌≡◌, refl, sym, ap, ◌∙◌}
use mathlib.Core.Bool.{Bool, true, false, cond}
use mathlib.Core.Logic.{◌⊎◌, inl, inr}
use mathlib.Core.List.{List, [], ◌∷◌, ◌++◌}
use lib.Dec.{eqb, leb, ltb, leb-zero, leb-suc-suc}
use lib.ListN.{length, take, drop, get_or, set, replicate, length-drop, length-replicate, drop_of_length-le}
use lib.ListN.{get_or-append}
use lib.Seq.{set_out, sets, sets-eq, length-take-le, drop-drop, get_or-drop}
use borrow.Author.Tests.{ltb-true, leb-true, leb-false, lt-ltb, le-leb, lt-leb, eq-eqb, ne_eqb}
use Rattle.logic.specs.Booleans.{both}
use Rattle.logic.proofs.BooleanLaws.{cases, bool_ext, both_true, both_no_left, both_no_right}
use Rattle.text.proofs.Readings.{drop-step}
use Rattle.scripts.specs.declared.Parting.{Parting}
use Rattle.scripts.specs.Parting.{to_first, script_texts_from, script_texts, most_scripts}
use Rattle.scripts.specs.Internal.Places.{script_length, script_end, script_texts_after, ends_from, kept_ends}
use Rattle.scripts.specs.Internal.Places.{scripts_counted}

-- ---- the first script of a text, and the others

-- the texts after the first n bytes and the byte that parts
others : List ℕ → ℕ → List (List ℕ)
others t n = cond (ltb n (length t)) (script_texts_from true (drop (suc n) t)) []

first_text : (start : Bool) (t : List ℕ)
    → script_texts_from start t ≡ take (script_length start t) t ∷ others t (script_length start t)
unfolding script_texts_from script_length others to_first
first_text start [] = refl
first_text start (b ∷ t) =
    cases (both start (eqb b 10))
    (λ e. rw (e, leb-suc-suc 0 (length t), leb-zero (length t)) refl)
    (λ e.
    let n = script_length (eqb b 10) t in
    rw (e, first_text (eqb b 10) t, leb-suc-suc (suc n) (length t)) refl)

text_fits : (start : Bool) (t : List ℕ) → script_length start t ≤ length t
unfolding script_length
text_fits start [] = omega arith
text_fits start (b ∷ t) =
    cases (both start (eqb b 10))
    (λ e. rw e (omega arith))
    (λ e. rw e (omega (arith, text_fits (eqb b 10) t)))

-- ---- by place

-- The part that starts at a place: its end lies within the text, and the parts after it start behind the
-- byte at its end.
pub record TextAt (text : List ℕ) (at end : ℕ) : Type 0 where
  pub rises : at ≤ end
  pub inside : end ≤ length text
  pub texts : script_texts_after text at ≡ take (end - at) (drop at text) ∷ script_texts_after text (end + 1)

pub text_at : (text : List ℕ) (at end : ℕ) → at ≤ length text → end ≡ script_end text at → TextAt text at end
unfolding script_texts_after script_end script_texts others
text_at text at end l e =
    let d : List ℕ = drop at text in
    let n : ℕ = script_length true d in
    let w : at + n - at ≡ n = omega arith in
    let k : length d ≡ length text - at = length-drop at text in
    let z : ltb n (length d) ≡ leb (at + n + 1) (length text) =
    bool_ext _ _
    (λ h. let g : n < length d = ltb-true _ _ h in le-leb (at + n + 1) (length text) (omega arith))
    (λ h. let g : at + n + 1 ≤ length text = leb-true _ _ h in lt-ltb n (length d) (omega arith)) in
    let j : at + suc n ≡ at + n + 1 = omega arith in
    let p : drop (suc n) d ≡ drop (at + n + 1) text = drop-drop (suc n) at text ∙ ap (λ (i : ℕ). drop i text) j in
    rw e (record {
      rises = omega arith;
      inside = omega (arith, text_fits true d);
      texts = rw (le-leb _ _ l) (first_text true d ∙ rw (w, z, p) refl);
    })

texts_past : (text : List ℕ) (at : ℕ) → length text < at → script_texts_after text at ≡ []
unfolding script_texts_after
texts_past text at l = rw (lt-leb _ _ l) refl

pub texts_all : (text : List ℕ) → script_texts_after text 0 ≡ script_texts text
unfolding script_texts_after
texts_all text = rw (le-leb 0 (length text) (omega arith)) refl

-- ---- from script to script

-- Part n starts at a place: those before it and those from it on are all, and so are their ends. Past the
-- last, none is left.
pub record StartsAt (text : List ℕ) (n at : ℕ) : Type 0 where
  pub near : at ≤ length text + 1
  pub counted : n + length (script_texts_after text at) ≡ length (script_texts text)
  pub ends : ends_from at (script_texts_after text at) ≡ drop n (ends_from 0 (script_texts text))

pub first_starts : (text : List ℕ) → StartsAt text 0 0
first_starts text = record {
  near = omega arith;
  counted = omega (arith, ap length (texts_all text));
  ends = rw (texts_all text) refl;
}

pub first_kept : (text : List ℕ)
    → sets (replicate most_scripts 0) 0 (ends_from 0 (script_texts_after text 0)) ≡ kept_ends text
unfolding kept_ends
first_kept text = rw (texts_all text) refl

module _ {text : List ℕ} {n at end : ℕ} (s : StartsAt text n at) (p : TextAt text at end) where
  -- its end, and those of the scripts after it
  its_ends : ends_from at (script_texts_after text at) ≡ end ∷ ends_from (end + 1) (script_texts_after text (end + 1))
  unfolding ends_from
  its_ends =
      let l : length (take (end - at) (drop at text)) ≡ end - at =
      length-take-le (end - at) (drop at text) (omega (arith, length-drop at text, p.inside)) in
      let e : at + (end - at) ≡ end = omega (arith, p.rises) in
      rw (p.texts, l, e) refl

  pub next_starts : StartsAt text (n + 1) (end + 1)
  next_starts = record {
    near = omega (arith, p.inside);
    counted = omega (arith, ap length p.texts, s.counted);
    ends = drop_more (sym its_ends ∙ s.ends);
  }
    where
      drop_more : end ∷ ends_from (end + 1) (script_texts_after text (end + 1))
          ≡ drop n (ends_from 0 (script_texts text))
          → ends_from (end + 1) (script_texts_after text (end + 1)) ≡ drop (n + 1) (ends_from 0 (script_texts text))
      drop_more h = ap (drop 1) h ∙ drop-drop 1 n (ends_from 0 (script_texts text))

  -- one more is kept
  pub next_kept : (es : List ℕ) → sets es n (ends_from at (script_texts_after text at)) ≡ kept_ends text
      → sets (set es n end) (n + 1) (ends_from (end + 1) (script_texts_after text (end + 1))) ≡ kept_ends text
  next_kept es h = rw (add-one n) (ap (sets es n) (sym its_ends) ∙ h)

  pub has_place : n < length (script_texts text)
  has_place = omega (arith, ap length p.texts, s.counted)

-- the end of a script, as it is kept
module _ (text : List ℕ) (n at : ℕ) (s : StartsAt text n at) (few : length (script_texts text) ≤ most_scripts)
    (l : at ≤ length text) where
  ends_length : (k : ℕ) (ps : List (List ℕ)) → length (ends_from k ps) ≡ length ps
  unfolding ends_from
  ends_length k [] = refl
  ends_length k (p ∷ ps) = ap suc (ends_length (k + length p + 1) ps)

  kept_all : kept_ends text
      ≡ ends_from 0 (script_texts text) ++ drop (length (script_texts text)) (replicate most_scripts 0)
  unfolding kept_ends
  kept_all =
      let k = ends_length 0 (script_texts text) in
      let z : 0 + length (ends_from 0 (script_texts text)) ≡ length (script_texts text) = omega (arith, k) in
      sets-eq (ends_from 0 (script_texts text)) (replicate most_scripts 0) 0
      (omega (arith, k, length-replicate {A = ℕ} most_scripts 0)) ∙ rw z refl

  pub kept_end : get_or (kept_ends text) n 0 ≡ script_end text at
  kept_end =
      let p = text_at text at (script_end text at) l refl in
      let z : n + 0 ≡ n = omega arith in
      rw kept_all
      (get_or-append (ends_from 0 (script_texts text))
      (drop (length (script_texts text)) (replicate most_scripts 0)) 0 n
      (omega (arith, ends_length 0 (script_texts text), has_place s p))
      ∙ ap (λ (k : ℕ). get_or (ends_from 0 (script_texts text)) k 0) (sym z)
      ∙ sym (get_or-drop n (ends_from 0 (script_texts text)) 0 0)
      ∙ ap (λ (es : List ℕ). get_or es 0 0) (sym s.ends ∙ its_ends s p))

-- past the last script, the ends are all
module _ (text : List ℕ) (n at : ℕ) (s : StartsAt text n at) (l : length text < at) where
  pub none_left : script_texts_after text at ≡ []
  none_left = texts_past text at l

  all_kept : (es : List ℕ) → sets es n (ends_from at (script_texts_after text at)) ≡ kept_ends text
      → es ≡ kept_ends text
  unfolding ends_from
  all_kept es h = sym (ap (λ (ps : List (List ℕ)). sets es n (ends_from at ps)) (texts_past text at l)) ∙ h

  pub parted_all : (es : List ℕ) → n ≤ most_scripts
      → sets es n (ends_from at (script_texts_after text at)) ≡ kept_ends text
      → ◌≡◌ {A = Parting} (record { count = n; ends = es })
      (record { count = scripts_counted text; ends = kept_ends text })
  unfolding scripts_counted
  parted_all es few h =
      let c : n ≡ min (suc most_scripts) (length (script_texts text)) =
      omega (arith, ap length (texts_past text at l), s.counted) in
      rw (c, all_kept es h) refl

-- what has no place is not stored
sets_past : (vs es : List ℕ) (n : ℕ) → length es ≤ n → sets es n vs ≡ es
sets_past [] es n l = refl
sets_past (v ∷ vs) es n l = rw (set_out es n v l) (sets_past vs es (suc n) (omega arith))

-- a script more than have a place
module _ (text : List ℕ) (n at : ℕ) (s : StartsAt text n at) (l : at ≤ length text) where
  pub parted_many : (es : List ℕ) → length es ≡ most_scripts → n ≡ most_scripts
      → sets es n (ends_from at (script_texts_after text at)) ≡ kept_ends text
      → ◌≡◌ {A = Parting} (record { count = suc most_scripts; ends = es })
      (record { count = scripts_counted text; ends = kept_ends text })
  unfolding scripts_counted
  parted_many es k e h =
      let p = text_at text at (script_end text at) l refl in
      let c : suc most_scripts ≡ min (suc most_scripts) (length (script_texts text)) =
      omega (arith, has_place s p, e) in
      rw (sym (sets_past (ends_from at (script_texts_after text at)) es n (omega arith)) ∙ h, ← c) refl

-- all places are full: there is one more script, or none is left
pub parted_full : (text : List ℕ) (n at : ℕ) (s : StartsAt text n at) (es : List ℕ) (more : ℕ)
    → more ≡ bool_byte (leb at (length text))
    → length es ≡ most_scripts
    → n ≡ most_scripts
    → sets es n (ends_from at (script_texts_after text at)) ≡ kept_ends text
    → ◌≡◌ {A = Parting} (record { count = most_scripts + more; ends = es })
    (record { count = scripts_counted text; ends = kept_ends text })
parted_full text n at s es more m k e h =
    cases (leb at (length text))
    (λ q. rw (m, q) (parted_many text n at s (leb-true _ _ q) es k e h))
    (λ q. rw (m, q, ← e) (parted_all text n at s (leb-false _ _ q) es (omega arith) h))

-- whether each has a place, by the count
pub few_scripts : (text : List ℕ) (n : ℕ) → n ≡ scripts_counted text → n ≤ most_scripts
    → length (script_texts text) ≤ most_scripts
unfolding scripts_counted
few_scripts text n e l = omega arith

pub many_scripts : (text : List ℕ) (n : ℕ) → n ≡ scripts_counted text → most_scripts < n
    → most_scripts < length (script_texts text)
unfolding scripts_counted
many_scripts text n e l = omega arith

-- ---- the walk to a script's end

module _ (text : List ℕ) (at : ℕ) (start : Bool) where
  -- a byte, by whether it ends an empty line
  walk : at < length text
      → at + script_length start (drop at text)
      ≡ cond (both start (eqb (get_or text at 0) 10)) at
      (at + 1 + script_length (eqb (get_or text at 0) 10) (drop (at + 1) text))
  unfolding script_length
  walk l = rw (drop-step text at l) (go (both start (eqb (get_or text at 0) 10)) (eqb (get_or text at 0) 10))
    where
      go : (x y : Bool) → at + cond x 0 (suc (script_length y (drop (at + 1) text)))
          ≡ cond x at (at + 1 + script_length y (drop (at + 1) text))
      go true y = omega arith
      go false y = omega arith

  pub walk_ends : at < length text → start ≡ true → get_or text at 0 ≡ 10 → at + script_length start (drop at text) ≡ at
  walk_ends l s e = walk l ∙ rw (both_true s (eq-eqb (get_or text at 0) 10 e)) refl

  pub walk_on : at < length text → ((start ≡ true) × (get_or text at 0 ≡ 10 → ⊥)) ⊎ (start ≡ false)
      → at + script_length start (drop at text)
      ≡ at + 1 + script_length (eqb (get_or text at 0) 10) (drop (at + 1) text)
  walk_on l (inl (s, n)) = let f = ne_eqb (get_or text at 0) 10 n in walk l ∙ rw (both_no_right start _ f) refl
  walk_on l (inr s) = walk l ∙ rw (both_no_left start (eqb (get_or text at 0) 10) s) refl

  pub walk_over : length text ≤ at → at + script_length start (drop at text) ≡ at
  unfolding script_length
  walk_over l = rw (drop_of_length-le text l) (omega arith)

pub end_past : (text : List ℕ) (from : ℕ) → length text ≤ from → script_end text from ≡ from
unfolding script_end
end_past text from l = walk_over text from true l

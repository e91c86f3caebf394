-- Laws of the type test over a value's words, by the first word.
use mathlib.Core.Path.{◌≡◌, refl, sym, ap, ◌∙◌}
use mathlib.Core.Bool.{Bool, false}
use mathlib.Core.List.{List, [], ◌∷◌}
use Prim.Native.Nat.{ℕ, ◌+◌, ◌-◌, ◌≤◌, ◌<◌}
use native.Mathlib.Omega.{arith}
use borrow.Author.Tests.{lt-ltb, le-ltb}
use lib.Dec.{eqb, ltb}
use lib.ListN.{length, get_or, drop}
use Rattle.logic.specs.Booleans.{both}
use Rattle.logic.proofs.BooleanLaws.{both_no_left, both_yes_left}
use Rattle.sets.proofs.Walks.{by_below}
use Rattle.language.specs.Syntax.{Value, int, err, blank}
use Rattle.sheet.specs.Internal.Tables.{left_in, right_in}
use Rattle.sheet.specs.Internal.TypeTest.{is_sum, is_pair, has_no}
use Rattle.memory.specs.Words.{Got, wrap, numbered, paired, read_of, value_of}
use Rattle.memory.specs.Internal.Post.{Numeral, num_int, num_err}
use Rattle.memory.proofs.WordLaws.{to_left, to_right, Other}
use Rattle.memory.proofs.PlaceLaws.{here, past, at_past, at_numeral, at_side, at_package, at_pair, at_none}
use Rattle.memory.proofs.PlaceLaws.{headed, headless}

module _ (t ws : List ℕ) (ty : ℕ) where
  -- a value that is known by one word more, and whose type doesn't depend on what follows
  after_one : (f : List ℕ → Value) (b : Bool) → f [] ≡ blank
      → ((n : ℕ) (us : List ℕ) → has_no t (f (n ∷ us)) ty ≡ b) → (i : ℕ)
      → both (ltb i (length ws)) b ≡ has_no t (f (drop i ws)) ty
  unfolding has_no
  after_one f b e h i =
      by_below i (length ws) (λ l. both_yes_left _ b (lt-ltb _ _ l) ∙ rw (here ws i _ l refl) (sym (h _ _)))
      (λ l. both_no_left _ b (le-ltb _ _ l) ∙ rw (past ws i l, e) refl)

  module _ (at : ℕ) where
    -- the test of what is read
    told : {b : Bool} {g : Got} → read_of (drop at ws) ≡ g → b ≡ has_no t g.0 ty
        → b ≡ has_no t (value_of (drop at ws)) ty
    told e k = k ∙ ap (λ (x : Got). has_no t x.0 ty) (sym e)

    pub type_past : length ws ≤ at → false ≡ has_no t (value_of (drop at ws)) ty
    unfolding has_no
    type_past h = told (at_past ws at h) refl

    module _ (h : at < length ws) where
      -- the type of the first word w that one number follows is the number w - 1
      pub type-numeral : {w : ℕ} {f : ℕ → Value} → Numeral w f → get_or ws at 0 ≡ w
          → both (ltb (at + 1) (length ws)) (eqb ty (w - 1)) ≡ has_no t (value_of (drop at ws)) ty
      unfolding has_no numbered
      type-numeral num_int e = told (at_numeral ws at h num_int e)
          (after_one (λ us. (numbered int us).0) (eqb ty 0) refl (λ n us. refl) (at + 1))
      type-numeral num_err e = told (at_numeral ws at h num_err e)
          (after_one (λ us. (numbered err us).0) (eqb ty 1) refl (λ n us. refl) (at + 1))

      pub type-pkg : get_or ws at 0 ≡ 5
          → both (ltb (at + 1) (length ws)) (eqb ty 2) ≡ has_no t (value_of (drop at ws)) ty
      unfolding has_no wrap
      type-pkg e =
          told (at_package ws at h e)
          (by_below (at + 1) (length ws)
          (λ l. both_yes_left _ _ (lt-ltb _ _ l) ∙ rw (headed ws (at + 1) (omega arith)) refl)
          (λ l. both_no_left _ _ (le-ltb _ _ l) ∙ rw (headless ws (at + 1) l) refl))

      -- a sum: the test of its part
      pub type-inl : {r : Bool} → get_or ws at 0 ≡ 3
          → r ≡ both (is_sum t ty) (has_no t (value_of (drop (at + 1) ws)) (left_in t ty))
          → r ≡ has_no t (value_of (drop at ws)) ty
      unfolding has_no wrap
      type-inl e k = told (at_side ws at h to_left e) k

      pub type-inr : {r : Bool} → get_or ws at 0 ≡ 4
          → r ≡ both (is_sum t ty) (has_no t (value_of (drop (at + 1) ws)) (right_in t ty))
          → r ≡ has_no t (value_of (drop at ws)) ty
      unfolding has_no wrap
      type-inr e k = told (at_side ws at h to_right e) k

      -- a pair: the tests of its parts
      pub type-pair : {r : Bool} → get_or ws at 0 ≡ 6
          → r ≡ both (is_pair t ty) (both (has_no t (value_of (drop (at + 1) ws)) (left_in t ty))
          (has_no t (value_of (read_of (drop (at + 1) ws)).1) (right_in t ty)))
          → r ≡ has_no t (value_of (drop at ws)) ty
      unfolding has_no paired wrap
      type-pair e k = told (at_pair ws at h e) k

      pub type-none : Other (get_or ws at 0) → false ≡ has_no t (value_of (drop at ws)) ty
      unfolding has_no
      type-none o = told (at_none ws at h o) refl

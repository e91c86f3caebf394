-- The lines of a text, for any form of lines: the cases of reading, and that a text is read exactly if it is printed
-- lines.
use Prim.Native.Nat.{ℕ, zero, suc, ◌+◌, ◌-◌, ◌≤◌, ◌<◌}
use native.Mathlib.Omega.{arith}
use mathlib.Core.Path.{◌≡◌, refl, sym, ap, ◌∙◌}
use mathlib.Core.List.{List, [], ◌∷◌}
use mathlib.Core.Option.{Option, none, some}
use lib.ListN.{length, drop, get_or, length-append, drop_of_length-le}
use Rattle.text.specs.Reading.{Read}
use Rattle.text.specs.Reading.Read.{got, bad}
use Rattle.text.specs.Lines.{front, onward, lines_up_to, all_lines, print_lines, AllGood, empty_good, more_good}
use Rattle.text.specs.Lines.{LineForm}
use Rattle.text.specs.Theorems.{LinesExact, AllLinesExact}
use Rattle.logic.proofs.OptionLaws.{none_some, some_path}
use Rattle.text.proofs.Readings.{drop-step, not_bad, ends_print}
use Rattle.text.proofs.Places.{Within}

-- ---- the cases of reading

module _ {A : Type 0} (line : List ℕ → Read A) where
  pub lines_end : (k : ℕ) → lines_up_to line k [] ≡ some []
  unfolding lines_up_to
  lines_end zero = refl
  lines_end (suc k) = refl

  lines_full : (b : ℕ) (t : List ℕ) → lines_up_to line zero (b ∷ t) ≡ none
  unfolding lines_up_to
  lines_full b t = refl

  lines-bad : (k b : ℕ) (t : List ℕ) → line (b ∷ t) ≡ bad → lines_up_to line (suc k) (b ∷ t) ≡ none
  unfolding lines_up_to onward
  lines-bad k b t e = rw e

  lines_more : line [] ≡ bad → (k : ℕ) (t : List ℕ) (l : A) (u : List ℕ) → line t ≡ got l u
      → lines_up_to line (suc k) t ≡ front l (lines_up_to line k u)
  unfolding lines_up_to onward
  lines_more n k [] l u e = not_bad l u (sym n ∙ e)
  lines_more n k (b ∷ t) l u e = rw e

  -- the same at a place of a text of at most m lines, of which n are read
  module _ (m n : ℕ) (s : List ℕ) (i : ℕ) where
    pub lines-at_end : length s ≤ i → lines_up_to line (m - n) (drop i s) ≡ some []
    lines-at_end h = rw (drop_of_length-le s h) (lines_end (m - n))

    pub lines_at_full : i < length s → m ≤ n → lines_up_to line (m - n) (drop i s) ≡ none
    lines_at_full h l =
        let z : m - n ≡ zero = omega arith in rw (z, drop-step s i h) (lines_full (get_or s i 0) (drop (i + 1) s))

    module _ (l : n < m) where
      pub lines-at-bad : i < length s → line (drop i s) ≡ bad → lines_up_to line (m - n) (drop i s) ≡ none
      lines-at-bad h e =
          let z : m - n ≡ suc (m - (n + 1)) = omega arith in
          let d : line (get_or s i 0 ∷ drop (i + 1) s) ≡ bad = rw (drop-step s i h) at e in
          rw (z, drop-step s i h) (lines-bad (m - (n + 1)) (get_or s i 0) (drop (i + 1) s) d)

      pub lines-at-more : line [] ≡ bad → (x : A) (p : ℕ) → line (drop i s) ≡ got x (drop p s)
          → lines_up_to line (m - n) (drop i s) ≡ front x (lines_up_to line (m - (n + 1)) (drop p s))
      lines-at-more o x p e =
          let z : m - n ≡ suc (m - (n + 1)) = omega arith in
          rw z (lines_more o (m - (n + 1)) (drop i s) x (drop p s) e)

module _ {A : Type 0} where
  -- where lines are read, so is the first
  onward_split : {P : Type 0} (x : Read A) (f : List ℕ → Option (List A)) (ls : List A)
      → ((l : A) (u : List ℕ) (ms : List A) → x ≡ got l u → f u ≡ some ms → ls ≡ l ∷ ms → P) → onward x f ≡ some ls → P
  unfolding onward
  onward_split {P} (got l u) f ls g e = at (f u) refl e
    where
      at : (o : Option (List A)) → f u ≡ o → front l o ≡ some ls → P
      at none h k = unfold front in none_some k
      at (some ms) h k = unfold front in g l u ms refl h (sym (some_path k))
  onward_split bad f ls g e = none_some e

  onward_same : (x : Read A) (f g : List ℕ → Option (List A)) → ((l : A) (u : List ℕ) → x ≡ got l u → f u ≡ g u)
      → onward x f ≡ onward x g
  unfolding onward
  onward_same (got l u) f g h = ap (front l) (h l u refl)
  onward_same bad f g h = refl

-- ---- lines of a form

module _ {A : Type 0} {line : List ℕ → Read A} {print : A → List ℕ → List ℕ} {Good : A → Type 0}
    (form : LineForm line print Good) where
  pub line-sound : (t : List ℕ) (l : A) (u : List ℕ) → line t ≡ got l u → (t ≡ print l u) × Good l
  line-sound t l u e = (form.exact t l u).0 e

  pub line_print : (l : A) (u : List ℕ) → Good l → line (print l u) ≡ got l u
  line_print l u g = (form.exact (print l u) l u).1 (refl, g)

  -- what follows a line is the end of the text, and shorter
  pub line_within : (t : List ℕ) → Within t (line t)
  line_within t l u e = ends_print t (print l []) u ((line-sound t l u e).0 ∙ form.ahead l u)

  print_some : (l : A) → Good l → 1 ≤ length (print l [])
  print_some l g = at (print l []) (line_print l [] g)
    where
      at : (t : List ℕ) → line t ≡ got l [] → 1 ≤ length t
      at [] e = not_bad l [] (sym form.no_end ∙ e)
      at (b ∷ t) e = omega arith

  pub line_shorter : (t : List ℕ) (l : A) (u : List ℕ) → line t ≡ got l u → length u < length t
  line_shorter t l u e =
      let r = line-sound t l u e in
      omega (arith, ap length (r.0 ∙ form.ahead l u), length-append (print l []) u, print_some l r.1)

  lines-sound : (k : ℕ) (t : List ℕ) (ls : List A) → lines_up_to line k t ≡ some ls
      → (t ≡ print_lines print ls) × AllGood Good ls × (length ls ≤ k)
  unfolding lines_up_to print_lines
  lines-sound zero [] ls e = let y : ls ≡ [] = sym (some_path e) in rw y (refl, empty_good, omega arith)
  lines-sound zero (b ∷ t) ls e = none_some e
  lines-sound (suc k) [] ls e = let y : ls ≡ [] = sym (some_path e) in rw y (refl, empty_good, omega arith)
  lines-sound (suc k) (b ∷ t) ls e =
      onward_split (line (b ∷ t)) _ ls (λ l u ms x y z.
      let r = line-sound (b ∷ t) l u x in
      let q = lines-sound k u ms y in
      let n = q.2 in
      rw z (r.0 ∙ ap (print l) q.0, more_good r.1 q.1, omega arith)) e

  lines_print : (k : ℕ) (ls : List A) → AllGood Good ls → length ls ≤ k
      → lines_up_to line k (print_lines print ls) ≡ some ls
  unfolding print_lines front
  lines_print k [] empty_good h = lines_end line k
  lines_print zero (l ∷ ls) (more_good g r) h = absurd (omega arith)
  lines_print (suc k) (l ∷ ls) (more_good g r) h =
      lines_more line form.no_end k _ l (print_lines print ls) (line_print l (print_lines print ls) g)
      ∙ rw (lines_print k ls r (omega arith))

  -- how many lines are allowed makes no difference where there are enough
  lines-enough : (k j : ℕ) (t : List ℕ) → length t ≤ k → length t ≤ j → lines_up_to line k t ≡ lines_up_to line j t
  unfolding lines_up_to
  lines-enough zero j [] h i = sym (lines_end line j)
  lines-enough zero j (b ∷ t) h i = absurd (omega arith)
  lines-enough (suc k) j [] h i = sym (lines_end line j)
  lines-enough (suc k) zero (b ∷ t) h i = absurd (omega arith)
  lines-enough (suc k) (suc j) (b ∷ t) h i =
      onward_same (line (b ∷ t)) _ _
      (λ l u e. lines-enough k j u (omega (arith, line_shorter (b ∷ t) l u e))
      (omega (arith, line_shorter (b ∷ t) l u e)))

  -- the cases of all lines
  pub all_none : all_lines line [] ≡ some []
  unfolding all_lines
  all_none = lines_end line 0

  pub all_bad : (t : List ℕ) → 1 ≤ length t → line t ≡ bad → all_lines line t ≡ none
  unfolding all_lines
  all_bad [] h e = absurd (omega arith)
  all_bad (b ∷ t) h e = lines-bad line (length t) b t e

  pub all_more : (t : List ℕ) (l : A) (u : List ℕ) → line t ≡ got l u → all_lines line t ≡ front l (all_lines line u)
  unfolding all_lines
  all_more t l u e =
      let h = line_shorter t l u e in
      lines-enough (length t) (suc (length t)) t (omega arith) (omega arith)
      ∙ lines_more line form.no_end (length t) t l u e
      ∙ ap (front l) (lines-enough (length t) (length u) u (omega arith) (omega arith))

  all_print : (ls : List A) → AllGood Good ls → all_lines line (print_lines print ls) ≡ some ls
  unfolding print_lines front
  all_print [] empty_good = all_none
  all_print (l ∷ ls) (more_good g r) =
      all_more (print l (print_lines print ls)) l (print_lines print ls) (line_print l (print_lines print ls) g)
      ∙ rw (all_print ls r)

  pub lines_exact : LinesExact line print Good
  lines_exact k t ls = (λ e. lines-sound k t ls e, λ r. ap (lines_up_to line k) r.0 ∙ lines_print k ls r.1 r.2)

  pub all_lines_exact : AllLinesExact line print Good
  unfolding all_lines
  all_lines_exact t ls =
      (λ e. let r = lines-sound (length t) t ls e in (r.0, r.1), λ r. ap (all_lines line) r.0 ∙ all_print ls r.1)

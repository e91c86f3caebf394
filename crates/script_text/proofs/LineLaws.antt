-- A line is read exactly where its printed form stands.
use mathlib.Core.Path.{◌≡◌, refl, ap, ◌∙◌}
use mathlib.Core.Bool.{Bool, true, false, cond}
use mathlib.Core.List.{List, [], ◌∷◌, ◌++◌, append_assoc}
use Prim.Native.Nat.{ℕ, ◌≤◌}
use native.Mathlib.Omega.{arith}
use lib.Dec.{eqb}
use borrow.Author.Tests.{eqb-true}
use Rattle.text.specs.Reading.Read.{got}
use Rattle.text.specs.Number.{most, opens_digit, digit}
use Rattle.text.specs.Field.{number_field, line_end, last_number, print_number_field, print_line_end}
use Rattle.text.specs.Lines.{AllGood, LineForm}
use Rattle.text.proofs.Readings.{not_bad, got_same, and_then-got, and_then_split, byte_here, byte-sound}
use Rattle.text.proofs.Fields.{number_field-sound, number_field_print, last_number-sound, last_number_print}
use Rattle.language.specs.Syntax.{Part, first, second, pick}
use Rattle.script.specs.Lines.{ScriptLine, l_skip, l_seq, l_assign, l_while, l_case, l_int, l_loc, l_var, l_plus}
use Rattle.script.specs.Lines.{l_left, l_right, l_pack, l_unpack, l_pair, l_proj}
use Rattle.script.specs.Internal.Code.{row_of}
use Rattle.script_text.specs.Bytes.{line_bytes}
use Rattle.script_text.specs.Reading.{Form, bare, one, two, other, form_of, operands_of, line_of}
use Rattle.logic.specs.Booleans.{both}

-- The form of each kind, by its byte.
data Formed : ℕ → Form → Type 0 where
  f_skip : Formed 115 (bare l_skip)
  f_seq : Formed 59 (bare l_seq)
  f_assign : Formed 61 (one l_assign)
  f_while : Formed 119 (bare l_while)
  f_case : Formed 99 (bare l_case)
  f_int : Formed 105 (one l_int)
  f_loc : Formed 120 (one l_loc)
  f_var : Formed 118 (one l_var)
  f_plus : Formed 43 (bare l_plus)
  f_left : Formed 108 (one l_left)
  f_right : Formed 114 (one l_right)
  f_pack : Formed 107 (one l_pack)
  f_unpack : Formed 117 (two l_unpack)
  f_pair : Formed 112 (one l_pair)
  f_proj : {p : Part} → Formed (pick p 102 103) (bare (l_proj p))
  f_other : {b : ℕ} → Formed b other

-- a byte is the one that is tested for, or the others are tested
chosen : (b k : ℕ) (f g : Form) → Formed k f → Formed b g → Formed b (cond (eqb b k) f g)
chosen b k f g p q = go (eqb b k) refl
  where
    go : (x : Bool) → eqb b k ≡ x → Formed b (cond x f g)
    go true e = let y : b ≡ k = eqb-true b k e in rw y p
    go false e = q

form_of_lem : (b : ℕ) → Formed b (form_of b)
unfolding form_of pick
form_of_lem b =
    chosen b 115 _ _ f_skip (chosen b 59 _ _ f_seq (chosen b 61 _ _ f_assign (chosen b 119 _ _ f_while
    (chosen b 99 _ _ f_case (chosen b 105 _ _ f_int (chosen b 120 _ _ f_loc (chosen b 118 _ _ f_var
    (chosen b 43 _ _ f_plus (chosen b 108 _ _ f_left (chosen b 114 _ _ f_right (chosen b 107 _ _ f_pack
    (chosen b 117 _ _ f_unpack
    (chosen b 112 _ _ f_pair (chosen b 102 _ _ (f_proj {p = first}) (chosen b 103 _ _ (f_proj {p = second})
    f_other)))))))))))))))

-- both operands are numbers of 32 bits
abbrev pub Fits : ScriptLine → Type 0
Fits l = ((row_of l).a ≤ most) × ((row_of l).b ≤ most)

abbrev pub AllFit : List ScriptLine → Type 0
AllFit ls = AllGood Fits ls

-- what is not there is such a number
no_operand : 0 ≤ most
no_operand = omega arith

-- what is read of a line of each form
bare-sound : (m l : ScriptLine) (t u : List ℕ) → operands_of (bare m) t ≡ got l u → (t ≡ print_line_end u) × (m ≡ l)
unfolding operands_of
bare-sound m l t u e =
    and_then_split (line_end t) _ l u
    (λ x w f g. let s = got_same m l w u g in (byte-sound 10 t w x f ∙ ap print_line_end s.1, s.0)) e

module _ (l : ScriptLine) (t u : List ℕ) (P : Type 0) where
  one_sound : (f : ℕ → ScriptLine) → operands_of (one f) t ≡ got l u
      → ((a : ℕ) → t ≡ print_number_field a (print_line_end u) → a ≤ most → f a ≡ l → P) → P
  unfolding operands_of
  one_sound f e g =
      and_then_split (last_number most t) _ l u
      (λ a w x y.
      let s = got_same (f a) l w u y in
      let n = last_number-sound most t a w x in
      g a (n.0 ∙ ap (λ v. print_number_field a (print_line_end v)) s.1) n.1 s.0) e

  two_sound : (f : ℕ → ℕ → ScriptLine) → operands_of (two f) t ≡ got l u
      → ((a b : ℕ) → t ≡ print_number_field a (print_number_field b (print_line_end u)) → a ≤ most → b ≤ most
      → f a b ≡ l → P)
      → P
  unfolding operands_of
  two_sound f e g =
      and_then_split (number_field most t) _ l u
      (λ a v x. and_then_split (last_number most v) _ l u
      (λ b w z y.
      let s = got_same (f a b) l w u y in
      let m = number_field-sound most t a v x in
      let n = last_number-sound most v b w z in
      g a b (m.0 ∙ ap (print_number_field a) (n.0 ∙ ap (λ r. print_number_field b (print_line_end r)) s.1)) m.1
      n.1 s.0)) e

formed-sound : {b : ℕ} {f : Form} (l : ScriptLine) (t u : List ℕ) → Formed b f → operands_of f t ≡ got l u
    → (b ∷ t ≡ line_bytes l u) × Fits l
unfolding line_bytes row_of
formed-sound l t u f_skip e = let r = bare-sound _ l t u e in rw (← r.1, r.0) (refl, (no_operand, no_operand))
formed-sound l t u f_seq e = let r = bare-sound _ l t u e in rw (← r.1, r.0) (refl, (no_operand, no_operand))
formed-sound l t u f_while e = let r = bare-sound _ l t u e in rw (← r.1, r.0) (refl, (no_operand, no_operand))
formed-sound l t u f_case e = let r = bare-sound _ l t u e in rw (← r.1, r.0) (refl, (no_operand, no_operand))
formed-sound l t u f_plus e = let r = bare-sound _ l t u e in rw (← r.1, r.0) (refl, (no_operand, no_operand))
formed-sound l t u f_proj e = let r = bare-sound _ l t u e in rw (← r.1, r.0) (refl, (no_operand, no_operand))
formed-sound l t u f_assign e = one_sound l t u _ _ e (λ a x h y. rw (← y, x) (refl, (h, no_operand)))
formed-sound l t u f_int e = one_sound l t u _ _ e (λ a x h y. rw (← y, x) (refl, (h, no_operand)))
formed-sound l t u f_loc e = one_sound l t u _ _ e (λ a x h y. rw (← y, x) (refl, (h, no_operand)))
formed-sound l t u f_var e = one_sound l t u _ _ e (λ a x h y. rw (← y, x) (refl, (h, no_operand)))
formed-sound l t u f_left e = one_sound l t u _ _ e (λ a x h y. rw (← y, x) (refl, (h, no_operand)))
formed-sound l t u f_right e = one_sound l t u _ _ e (λ a x h y. rw (← y, x) (refl, (h, no_operand)))
formed-sound l t u f_pack e = one_sound l t u _ _ e (λ a x h y. rw (← y, x) (refl, (h, no_operand)))
formed-sound l t u f_pair e = one_sound l t u _ _ e (λ a x h y. rw (← y, x) (refl, (h, no_operand)))
formed-sound l t u f_unpack e = two_sound l t u _ _ e (λ a b x h k y. rw (← y, x) (refl, (h, k)))
formed-sound l t u f_other e = unfold operands_of in not_bad l u e

line-sound : (t : List ℕ) (l : ScriptLine) (u : List ℕ) → line_of t ≡ got l u → (t ≡ line_bytes l u) × Fits l
unfolding line_of
line-sound [] l u e = not_bad l u e
line-sound (b ∷ t) l u e = formed-sound l t u (form_of_lem b) e

-- ---- printed lines are read

module _ (u : List ℕ) where
  bare_print : (l : ScriptLine) → operands_of (bare l) (print_line_end u) ≡ got l u
  unfolding operands_of
  bare_print l = and_then-got _ _ tt u (byte_here 10 10 u refl)

  one_print : (f : ℕ → ScriptLine) (a : ℕ) → a ≤ most
      → operands_of (one f) (print_number_field a (print_line_end u)) ≡ got (f a) u
  unfolding operands_of
  one_print f a h = and_then-got _ _ a u (last_number_print most a u h)

  two_print : (f : ℕ → ℕ → ScriptLine) (a b : ℕ) → a ≤ most → b ≤ most
      → operands_of (two f) (print_number_field a (print_number_field b (print_line_end u))) ≡ got (f a b) u
  unfolding operands_of opens_digit digit both
  two_print f a b h k =
      and_then-got _ _ a _ (number_field_print most a (print_number_field b (print_line_end u)) h refl)
      ∙ and_then-got _ _ b u (last_number_print most b u k)

line_print : (l : ScriptLine) (u : List ℕ) → Fits l → line_of (line_bytes l u) ≡ got l u
unfolding line_bytes line_of form_of row_of pick
line_print l_skip u h = bare_print u l_skip
line_print l_seq u h = bare_print u l_seq
line_print (l_assign x) u h = one_print u l_assign x h.0
line_print l_while u h = bare_print u l_while
line_print l_case u h = bare_print u l_case
line_print (l_int n) u h = one_print u l_int n h.0
line_print (l_loc x) u h = one_print u l_loc x h.0
line_print (l_var d) u h = one_print u l_var d h.0
line_print l_plus u h = bare_print u l_plus
line_print (l_left t) u h = one_print u l_left t h.0
line_print (l_right t) u h = one_print u l_right t h.0
line_print (l_pack l) u h = one_print u l_pack l h.0
line_print (l_unpack t l) u h = two_print u l_unpack t l h.0 h.1
line_print (l_pair t) u h = one_print u l_pair t h.0
line_print (l_proj first) u h = bare_print u (l_proj first)
line_print (l_proj second) u h = bare_print u (l_proj second)

-- ---- the form of lines

-- a line's bytes come before what follows it
line_before : (l : ScriptLine) (u : List ℕ) → line_bytes l u ≡ line_bytes l [] ++ u
unfolding line_bytes
line_before l_skip u = refl
line_before l_seq u = refl
line_before (l_assign x) u = simp append_assoc
line_before l_while u = refl
line_before l_case u = refl
line_before (l_int n) u = simp append_assoc
line_before (l_loc x) u = simp append_assoc
line_before (l_var d) u = simp append_assoc
line_before l_plus u = refl
line_before (l_left t) u = simp append_assoc
line_before (l_right t) u = simp append_assoc
line_before (l_pack l) u = simp append_assoc
line_before (l_unpack t l) u = simp append_assoc
line_before (l_pair t) u = simp append_assoc
line_before (l_proj p) u = refl

-- each line is read exactly where it stands printed
pub script_lines : LineForm line_of line_bytes Fits
unfolding line_of
script_lines = record {
  exact = λ t l u. (λ e. line-sound t l u e, λ r. ap line_of r.0 ∙ line_print l u r.1);
  no_end = refl;
  ahead = line_before;
}

-- A line is read exactly where its printed form stands.
use mathlib.Core.Path.{◌≡◌, refl, sym, ap, ◌∙◌}
use mathlib.Core.Bool.{true}
use mathlib.Core.List.{List, [], ◌∷◌, ◌++◌, append_assoc}
use Prim.Native.Nat.{ℕ, ◌^◌, ◌≤◌, ◌<◌}
use lib.Dec.{eqb}
use borrow.Author.Tests.{eqb-true}
use Rattle.sets.specs.Sets.{width}
use Rattle.text.specs.Reading.Read.{got}
use Rattle.text.specs.Number.{most, opens_digit, digit}
use Rattle.text.specs.Field.{number_field, set_field, line_end, last_number, print_number_field, print_set_field}
use Rattle.text.specs.Field.{print_line_end}
use Rattle.text.specs.Lines.{AllGood, LineForm}
use Rattle.logic.proofs.BooleanLaws.{cond_split}
use Rattle.text.proofs.Readings.{not_bad, got_same, and_then-got, and_then_split, byte_here, byte-sound}
use Rattle.text.proofs.Fields.{number_field-sound, number_field_print, last_number-sound, last_number_print}
use Rattle.text.proofs.Fields.{set_field-sound, set_field_print}
use Rattle.sheet_text.specs.declared.line.SheetLine.{SheetLine}
use Rattle.sheet_text.specs.declared.line.SheetLine.TheVariants.{P, R, T, Q, L, O, X}
use Rattle.sheet.specs.declared.Kind.{Kind}
use Rattle.sheet.specs.declared.Kind.TheVariants.{Sum, Pair}
use Rattle.sheet_text.specs.Lines.{type_line, line_bytes}
use Rattle.sheet_text.specs.Reading.{number_rest, numbers_rest, label_rest, policy_rest, line_of}
use Rattle.logic.specs.Booleans.{both}

-- the numbers of a line are of 32 bits, and its sets have room in a set
unfoldable pub Fits : SheetLine → Type 0
Fits (P n) = n ≤ most
Fits (R k) = k ≤ most
Fits (T a b) = (a ≤ most) × (b ≤ most)
Fits (Q a b) = (a ≤ most) × (b ≤ most)
Fits L = Unit
Fits (O o r w) = (o ≤ most) × (r < 2 ^ width) × (w < 2 ^ width)
Fits (X t l) = (t ≤ most) × (l ≤ most)

-- ---- what is read stands there, printed

-- The lines of one number that begin with a letter: how they are printed, and that they fit where their number does.
record Number (letter : ℕ) (f : ℕ → SheetLine) : Type 0 where
  bytes : (n : ℕ) (u : List ℕ) → line_bytes (f n) u ≡ letter ∷ print_number_field n (print_line_end u)
  fit : (n : ℕ) → n ≤ most → Fits (f n)

principals : Number 80 P
unfolding line_bytes Fits
principals = record { bytes = λ n u. refl; fit = λ n h. h }

rule : Number 82 R
unfolding line_bytes Fits
rule = record { bytes = λ n u. refl; fit = λ n h. h }

number-sound : {letter : ℕ} {f : ℕ → SheetLine} → Number letter f → (t : List ℕ) (l : SheetLine) (u : List ℕ)
    → number_rest f t ≡ got l u
    → (letter ∷ t ≡ line_bytes l u) × Fits l
unfolding number_rest
number-sound {letter} {f} n t l u e =
    and_then_split (last_number most t) _ l u
    (λ a v g h.
    let s = got_same (f a) l v u h in
    let x = last_number-sound most t a v g in
    rw (← s.0, ← s.1) (ap (◌∷◌ letter) x.0 ∙ sym (n.bytes a v), n.fit a x.1)) e

-- The lines of two numbers that begin with a letter: how they are printed, and that they fit where their numbers do.
record Numbers (letter : ℕ) (f : ℕ → ℕ → SheetLine) : Type 0 where
  bytes : (a b : ℕ) (u : List ℕ)
      → line_bytes (f a b) u ≡ letter ∷ print_number_field a (print_number_field b (print_line_end u))
  fit : (a b : ℕ) → a ≤ most → b ≤ most → Fits (f a b)

sums : Numbers 84 T
unfolding line_bytes Fits
sums = record { bytes = λ a b u. refl; fit = λ a b h k. (h, k) }

pairs : Numbers 81 Q
unfolding line_bytes Fits
pairs = record { bytes = λ a b u. refl; fit = λ a b h k. (h, k) }

locations : Numbers 88 X
unfolding line_bytes Fits
locations = record { bytes = λ a b u. refl; fit = λ a b h k. (h, k) }

numbers-sound : {letter : ℕ} {f : ℕ → ℕ → SheetLine} → Numbers letter f → (t : List ℕ) (l : SheetLine) (u : List ℕ)
    → numbers_rest f t ≡ got l u
    → (letter ∷ t ≡ line_bytes l u) × Fits l
unfolding numbers_rest
numbers-sound {letter} {f} n t l u e =
    and_then_split (number_field most t) _ l u
    (λ a v g. and_then_split (last_number most v) _ l u
    (λ b w h k.
    let s = got_same (f a b) l w u k in
    let x = number_field-sound most t a v g in
    let y = last_number-sound most v b w h in
    rw (
      ← s.0,
      ← s.1,
    ) (ap (◌∷◌ letter) (x.0 ∙ ap (print_number_field a) y.0) ∙ sym (n.bytes a b w), n.fit a b x.1 y.1))) e

label-sound : (t : List ℕ) (l : SheetLine) (u : List ℕ) → label_rest t ≡ got l u → (76 ∷ t ≡ line_bytes l u) × Fits l
unfolding label_rest line_bytes Fits
label-sound t l u e =
    and_then_split (line_end t) _ l u
    (λ x v f g. let s = got_same L l v u g in rw (← s.0, ← s.1) (ap (◌∷◌ 76) (byte-sound 10 t v x f), tt)) e

policy-sound : (t : List ℕ) (l : SheetLine) (u : List ℕ) → policy_rest t ≡ got l u → (79 ∷ t ≡ line_bytes l u) × Fits l
unfolding policy_rest line_bytes Fits
policy-sound t l u e =
    and_then_split (number_field most t) _ l u
    (λ o v f. and_then_split (set_field v) _ l u
    (λ r w g. and_then_split (set_field w) _ l u
    (λ q x h. and_then_split (line_end x) _ l u
    (λ z y k m.
    let s = got_same (O o r q) l y u m in
    let a = number_field-sound most t o v f in
    let b = set_field-sound v r w g in
    let c = set_field-sound w q x h in
    let d = byte-sound 10 x y z k in
    rw (← s.0, ← s.1) (
      ap (◌∷◌ 79) (a.0 ∙ ap (print_number_field o) (b.0 ∙ ap (print_set_field r) (c.0 ∙ ap (print_set_field q) d))),
      (a.1, b.1, c.1),
    ))))) e

line-sound : (t : List ℕ) (l : SheetLine) (u : List ℕ) → line_of t ≡ got l u → (t ≡ line_bytes l u) × Fits l
unfolding line_of
line-sound [] l u e = not_bad l u e
line-sound (b ∷ t) l u e =
    cond_split (eqb b 80) _ _ _ (λ h x. first 80 h (number-sound principals t l u x))
    (λ _. cond_split (eqb b 82) _ _ _ (λ h x. first 82 h (number-sound rule t l u x))
    (λ _. cond_split (eqb b 84) _ _ _ (λ h x. first 84 h (numbers-sound sums t l u x))
    (λ _. cond_split (eqb b 81) _ _ _ (λ h x. first 81 h (numbers-sound pairs t l u x))
    (λ _. cond_split (eqb b 76) _ _ _ (λ h x. first 76 h (label-sound t l u x))
    (λ _. cond_split (eqb b 79) _ _ _ (λ h x. first 79 h (policy-sound t l u x))
    (λ _. cond_split (eqb b 88) _ _ _ (λ h x. first 88 h (numbers-sound locations t l u x)) (λ _ x. not_bad l u x)))))))
    e
  where
    first : (k : ℕ) → eqb b k ≡ true → (k ∷ t ≡ line_bytes l u) × Fits l → (b ∷ t ≡ line_bytes l u) × Fits l
    first k h r = (ap (λ (x : ℕ). x ∷ t) (eqb-true b k h) ∙ r.0, r.1)

-- ---- what is printed is read

numbers_print : (f : ℕ → ℕ → SheetLine) (a b : ℕ) (u : List ℕ) → a ≤ most → b ≤ most
    → numbers_rest f (print_number_field a (print_number_field b (print_line_end u))) ≡ got (f a b) u
unfolding numbers_rest opens_digit digit both
numbers_print f a b u h k =
    and_then-got _ _ a _ (number_field_print most a (print_number_field b (print_line_end u)) h refl)
    ∙ and_then-got _ _ b u (last_number_print most b u k)

line_print : (l : SheetLine) (u : List ℕ) → Fits l → line_of (line_bytes l u) ≡ got l u
unfolding line_bytes line_of Fits number_rest label_rest policy_rest opens_digit digit both
line_print (P n) u h = and_then-got _ _ n u (last_number_print most n u h)
line_print (R k) u h = and_then-got _ _ k u (last_number_print most k u h)
line_print (T a b) u h = numbers_print T a b u h.0 h.1
line_print (Q a b) u h = numbers_print Q a b u h.0 h.1
line_print L u h = and_then-got _ _ tt u (byte_here 10 10 u refl)
line_print (O o r w) u h =
    and_then-got _ _ o _ (number_field_print most o (print_set_field r (print_set_field w (print_line_end u))) h.0 refl)
    ∙ and_then-got _ _ r _ (set_field_print r (print_set_field w (print_line_end u)) h.1)
    ∙ and_then-got _ _ w _ (set_field_print w (print_line_end u) h.2)
    ∙ and_then-got _ _ tt u (byte_here 10 10 u refl)
line_print (X t l) u h = numbers_print X t l u h.0 h.1

-- a line of a type fits
pub type-line_fits : (k : Kind) (a b : ℕ) → a ≤ most → b ≤ most → Fits (type_line k a b)
unfolding type_line
type-line_fits Sum = sums.fit
type-line_fits Pair = pairs.fit

-- ---- the form of lines

abbrev pub AllFit : List SheetLine → Type 0
AllFit ls = AllGood Fits ls

-- a line's bytes come before what follows it
bytes-front : (l : SheetLine) (u : List ℕ) → line_bytes l u ≡ line_bytes l [] ++ u
unfolding line_bytes
bytes-front (P n) u = simp append_assoc
bytes-front (R k) u = simp append_assoc
bytes-front (T a b) u = simp append_assoc
bytes-front (Q a b) u = simp append_assoc
bytes-front L u = refl
bytes-front (O o r w) u = simp append_assoc
bytes-front (X t l) u = simp append_assoc

-- each line is read exactly where it stands printed
pub sheet-lines : LineForm line_of line_bytes Fits
unfolding line_of
sheet-lines = record {
  exact = λ t l u. (λ e. line-sound t l u e, λ r. ap line_of r.0 ∙ line_print l u r.1);
  no_end = refl;
  ahead = bytes-front;
}

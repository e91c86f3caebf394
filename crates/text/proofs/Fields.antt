-- Fields and line ends: each is read exactly where its printed form stands, and what an answer in a text says.
use Prim.Native.Nat.{ℕ, ◌^◌, ◌≤◌, ◌<◌}
use native.Mathlib.Omega.{arith}
use mathlib.Core.Path.{◌≡◌, refl, sym, ap, ◌∙◌, fun_ext}
use mathlib.Core.Bool.{false}
use mathlib.Core.List.{List, [], ◌∷◌, ◌++◌, append_assoc}
use lib.ListN.{drop}
use Rattle.std.specs.Prelude.{option_and_then, option_map}
use Rattle.sets.specs.Sets.{width}
use Rattle.text.specs.Reading.{byte}
use Rattle.text.specs.Reading.Read.{got}
use Rattle.text.specs.Number.{number, decimal, opens_digit}
use Rattle.text.specs.Set.{set_digits, hex_set, hex_form}
use Rattle.text.specs.Field.{number_field, set_field, line_end, last_number, print_number_field, print_set_field}
use Rattle.text.specs.Field.{print_line_end}
use Rattle.text.specs.Internal.Place.{placed, placed_end}
use Rattle.text.specs.Theorems.{NumberFieldExact, SetFieldExact, LineEndExact, LastNumberExact}
use Rattle.text.proofs.Readings.{and_then-got, and_then_split, byte_here, byte-sound, ends_print}
use Rattle.text.proofs.Readings.{got_same}
use Rattle.text.proofs.Places.{Within, placed_then, placed_after, placed_last}
use Rattle.text.proofs.Numbers.{opens_byte, digit_low}
use Rattle.text.proofs.Decimals.{number-sound, number_print}
use Rattle.text.proofs.Sets.{digits-sound, digits_print}

pub line_end_exact : LineEndExact
line_end_exact t rest = (λ e. byte-sound 10 t rest tt e, λ r. ap (byte 10) r ∙ byte_here 10 10 rest refl)

-- the cases of the fields
module _ (t : List ℕ) where
  pub number_field_on : (bound : ℕ) (u : List ℕ) → byte 9 t ≡ got tt u → number_field bound t ≡ number bound u
  unfolding number_field
  number_field_on bound u e = and_then-got _ _ tt u e

  pub set_field_on : (u : List ℕ) → byte 9 t ≡ got tt u → set_field t ≡ hex_set u
  unfolding set_field
  set_field_on u e = and_then-got _ _ tt u e

  module _ (bound v : ℕ) (u : List ℕ) (e : number_field bound t ≡ got v u) where
    pub last_number_on : (w : List ℕ) → line_end u ≡ got tt w → last_number bound t ≡ got v w
    unfolding last_number
    last_number_on w f = and_then-got _ _ v u e ∙ and_then-got _ _ tt w f

pub number_field-sound : (bound : ℕ) (t : List ℕ) (v : ℕ) (u : List ℕ) → number_field bound t ≡ got v u
    → (t ≡ print_number_field v u) × (v ≤ bound) × (opens_digit u ≡ false)
unfolding number_field
number_field-sound bound t v u e =
    and_then_split (byte 9 t) _ v u
    (λ x w f g.
    let r = number-sound bound w v u g in
    (byte-sound 9 t w x f ∙ rw r.0, r.1, r.2)) e

pub number_field_print : (bound v : ℕ) (u : List ℕ) → v ≤ bound → opens_digit u ≡ false
    → number_field bound (print_number_field v u) ≡ got v u
number_field_print bound v u h o =
    number_field_on _ bound (decimal v ++ u) (byte_here 9 9 _ refl) ∙ number_print bound v u h o

pub number_field_exact : NumberFieldExact
number_field_exact bound v t rest = (
  λ e. number_field-sound bound t v rest e,
  λ r. ap (number_field bound) r.0 ∙ number_field_print bound v rest r.1 r.2,
)

pub last_number-sound : (bound : ℕ) (t : List ℕ) (v : ℕ) (u : List ℕ) → last_number bound t ≡ got v u
    → (t ≡ print_number_field v (print_line_end u)) × (v ≤ bound)
unfolding last_number
last_number-sound bound t v u e =
    and_then_split (number_field bound t) _ v u
    (λ a w f. and_then_split (line_end w) _ v u
    (λ x r g h.
    let z = got_same a v r u h in
    let y = number_field-sound bound t a w f in
    (y.0 ∙ rw (byte-sound 10 w r x g, z.0, z.1), rw z.0 at y.1))) e

pub last_number_print : (bound v : ℕ) (u : List ℕ) → v ≤ bound
    → last_number bound (print_number_field v (print_line_end u)) ≡ got v u
last_number_print bound v u h =
    last_number_on _ bound v (10 ∷ u)
    (number_field_print bound v (10 ∷ u) h (opens_byte 10 u ∙ digit_low 10 (omega arith))) u (byte_here 10 10 u refl)

pub last_number_exact : LastNumberExact
last_number_exact bound v t rest =
    (λ e. last_number-sound bound t v rest e, λ r. ap (last_number bound) r.0 ∙ last_number_print bound v rest r.1)

pub set_field-sound : (t : List ℕ) (m : ℕ) (u : List ℕ) → set_field t ≡ got m u
    → (t ≡ print_set_field m u) × (m < 2 ^ width)
unfolding set_field
set_field-sound t m u e =
    and_then_split (byte 9 t) _ m u
    (λ x w f g.
    let r = digits-sound set_digits w m u g in
    (byte-sound 9 t w x f ∙ rw r.0, r.1)) e

pub set_field_print : (m : ℕ) (u : List ℕ) → m < 2 ^ width → set_field (print_set_field m u) ≡ got m u
set_field_print m u h =
    set_field_on _ (hex_form set_digits m ++ u) (byte_here 9 9 _ refl) ∙ digits_print set_digits m u h

pub set_field_exact : SetFieldExact
set_field_exact m t rest = (λ e. set_field-sound t m rest e, λ r. ap set_field r.0 ∙ set_field_print m rest r.1)

-- what follows is the end of the text
pub byte_within : (b : ℕ) (t : List ℕ) → Within t (byte b t)
byte_within b t x u e = ends_print t (b ∷ []) u (byte-sound b t u x e)

pub number_field_within : (bound : ℕ) (t : List ℕ) → Within t (number_field bound t)
number_field_within bound t v u e = ends_print t (9 ∷ decimal v) u (number_field-sound bound t v u e).0

pub set_field_within : (t : List ℕ) → Within t (set_field t)
set_field_within t m u e = ends_print t (9 ∷ hex_form set_digits m) u (set_field-sound t m u e).0

pub last_number_within : (bound : ℕ) (t : List ℕ) → Within t (last_number bound t)
last_number_within bound t v u e =
    ends_print t (9 ∷ (decimal v ++ (10 ∷ []))) u
    ((last_number-sound bound t v u e).0 ∙ ap (◌∷◌ 9) (sym (append_assoc (decimal v) (10 ∷ []) u)))

-- the answers of the functions whose reading is one after another
module _ (s : List ℕ) (i : ℕ) where
  pub placed-number_field : (bound : ℕ)
      → placed s (number_field bound (drop i s))
      ≡ option_and_then (λ p. placed s (number bound (drop p s))) (placed_end s (byte 9 (drop i s)))
  unfolding number_field
  placed-number_field bound = placed_after s i _ _ (byte_within 9 (drop i s))

  pub placed-set_field :
      placed s (set_field (drop i s))
      ≡ option_and_then (λ p. placed s (hex_set (drop p s))) (placed_end s (byte 9 (drop i s)))
  unfolding set_field
  placed-set_field = placed_after s i _ _ (byte_within 9 (drop i s))

  pub placed-last_number : (bound : ℕ)
      → placed s (last_number bound (drop i s))
      ≡ option_and_then (λ r. option_map (λ q. (r.0, q)) (placed_end s (line_end (drop r.1 s))))
      (placed s (number_field bound (drop i s)))
  unfolding last_number
  placed-last_number bound =
      placed_then s i _ _ (number_field_within bound (drop i s))
      ∙ ap (λ f. option_and_then f (placed s (number_field bound (drop i s))))
      (fun_ext (λ (r : ℕ × ℕ). placed_last s r.1 (line_end (drop r.1 s)) r.0))

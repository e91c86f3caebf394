-- Label conditions that a function carries to other label conditions: the least labels go along, and the tests stay the
-- same.
use mathlib.Core.Path.{◌≡◌, refl, ap, ap₂, ◌∙◌}
use mathlib.Core.List.{List, [], ◌∷◌, map}
use Prim.Native.Nat.{ℕ, zero, suc}
use Rattle.language.specs.Syntax.{Expr, val, loc, var, plus, left, right, pack, unpack, pairing, proj, Cmd, skip}
use Rattle.language.specs.Syntax.{seq, assign, while, case}
use Rattle.language.specs.Declarations.{nth}
use Rattle.language.specs.Typing.{or_else, Conditions, least, flow_e, flow}

-- f carries the conditions K to the conditions R.
pub record Image {A B : Type 0} (K : Conditions A) (R : Conditions B) (f : A → B) : Type 0 where
  pub home_is : (x : ℕ) → f (K.home x) ≡ R.home x
  pub bot_is : f K.bot ≡ R.bot
  pub join_is : (a b : A) → f (K.join a b) ≡ R.join (f a) (f b)
  pub pack_label_is : (l : ℕ) (a : A) → f (K.pack_label l a) ≡ R.pack_label l (f a)
  pub unpack_label_is : (l : ℕ) (a : A) → f (K.unpack_label l a) ≡ R.unpack_label l (f a)
  pub may_assign_is : (x : ℕ) (a : A) → K.may_assign x a ≡ R.may_assign x (f a)
  pub may_pack_is : (l : ℕ) (a : A) → K.may_pack l a ≡ R.may_pack l (f a)
  pub may_unpack_is : (l : ℕ) (a : A) → K.may_unpack l a ≡ R.may_unpack l (f a)

module _ {A B : Type 0} (K : Conditions A) (R : Conditions B) (f : A → B) (image : Image K R f) where
  nth_image : (Γ : List A) (d : ℕ) → f (or_else K.bot (nth Γ d)) ≡ or_else R.bot (nth (map f Γ) d)
  unfolding nth or_else
  nth_image [] d = image.bot_is
  nth_image (a ∷ Γ) zero = refl
  nth_image (a ∷ Γ) (suc d) = nth_image Γ d

  pub least_image : (Γ : List A) (e : Expr) → f (least K Γ e) ≡ least R (map f Γ) e
  unfolding least
  least_image Γ (val v) = image.bot_is
  least_image Γ (loc x) = image.home_is x
  least_image Γ (var d) = nth_image Γ d
  least_image Γ (plus a b) = image.join_is _ _ ∙ ap₂ R.join (least_image Γ a) (least_image Γ b)
  least_image Γ (left t a) = least_image Γ a
  least_image Γ (right t a) = least_image Γ a
  least_image Γ (pack l a) = image.pack_label_is l _ ∙ ap (R.pack_label l) (least_image Γ a)
  least_image Γ (unpack t l a) = image.unpack_label_is l _ ∙ ap (R.unpack_label l) (least_image Γ a)
  least_image Γ (pairing t a b) = image.join_is _ _ ∙ ap₂ R.join (least_image Γ a) (least_image Γ b)
  least_image Γ (proj p a) = least_image Γ a

  flow_e_image : (Γ : List A) (e : Expr) → flow_e K Γ e ≡ flow_e R (map f Γ) e
  unfolding flow_e
  flow_e_image Γ (val v) = refl
  flow_e_image Γ (loc x) = refl
  flow_e_image Γ (var d) = refl
  flow_e_image Γ (plus a b) = rw (flow_e_image Γ a, flow_e_image Γ b)
  flow_e_image Γ (left t a) = flow_e_image Γ a
  flow_e_image Γ (right t a) = flow_e_image Γ a
  flow_e_image Γ (pack l a) = rw (flow_e_image Γ a, image.may_pack_is l (least K Γ a), least_image Γ a)
  flow_e_image Γ (unpack t l a) = rw (flow_e_image Γ a, image.may_unpack_is l (least K Γ a), least_image Γ a)
  flow_e_image Γ (pairing t a b) = rw (flow_e_image Γ a, flow_e_image Γ b)
  flow_e_image Γ (proj p a) = flow_e_image Γ a

  pub flow_image : (pc : A) (Γ : List A) (c : Cmd) → flow K pc Γ c ≡ flow R (f pc) (map f Γ) c
  unfolding flow
  flow_image pc Γ skip = refl
  flow_image pc Γ (seq a b) = rw (flow_image pc Γ a, flow_image pc Γ b)
  flow_image pc Γ (assign x e) =
      rw (flow_e_image Γ e, image.may_assign_is x (least K Γ e), image.may_assign_is x pc, least_image Γ e)
  flow_image pc Γ (while e c) =
      rw (flow_e_image Γ e, flow_image (K.join pc (least K Γ e)) Γ c, image.join_is pc (least K Γ e), least_image Γ e)
  flow_image pc Γ (case e a b) =
      let l = least K Γ e in
      rw (
        flow_e_image Γ e,
        flow_image (K.join pc l) (l ∷ Γ) a,
        flow_image (K.join pc l) (l ∷ Γ) b,
        image.join_is pc l,
        least_image Γ e,
      )

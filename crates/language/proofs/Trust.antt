-- Conditions that ask more of unpacks: passing them is passing both tests, and the tests go along with labels.
use mathlib.Core.Path.{◌≡◌, refl, sym, ap, ap₂, ◌∙◌}
use mathlib.Core.Bool.{Bool}
use mathlib.Core.List.{List, [], ◌∷◌, map}
use mathlib.Core.Option.{Option, none, some}
use Prim.Native.Nat.{ℕ}
use Rattle.logic.specs.Booleans.{both}
use Rattle.logic.proofs.BooleanLaws.{bool_ext, both_true, both_left, both_right, both_last, both_exchange}
use Rattle.language.specs.Syntax.{Expr, val, loc, var, plus, left, right, pack, unpack, pairing, proj, Cmd, skip}
use Rattle.language.specs.Syntax.{seq, assign, while, case, Script}
use Rattle.language.specs.Labels.{Labels, LeastLabelLaws}
use Rattle.language.specs.Declarations.{Declarations, start_of}
use Rattle.language.specs.Typing.{Conditions, least, flow_e, flow, conditions}
use Rattle.language.specs.Trust.{keeps_e, keeps, at_or_below, trust_keeping, whole_labels, stricter, trusting}
use Rattle.language.specs.Theorems.{StricterFlow, KeepingExact, TrustDerivable}
use Rattle.language.proofs.Exactness.{script_iff}
use Rattle.language.proofs.Images.{Image, least_image, flow_image}

module _ {L : Type 0} (K : Conditions L) (test : ℕ → L → Bool) where
  -- least labels don't go by the tests
  least_stricter : (Γ : List L) (e : Expr) → least (stricter K test) Γ e ≡ least K Γ e
  unfolding least
  least_stricter Γ (val v) = refl
  least_stricter Γ (loc x) = refl
  least_stricter Γ (var d) = refl
  least_stricter Γ (plus a b) = ap₂ K.join (least_stricter Γ a) (least_stricter Γ b)
  least_stricter Γ (left t a) = least_stricter Γ a
  least_stricter Γ (right t a) = least_stricter Γ a
  least_stricter Γ (pack l a) = ap (K.pack_label l) (least_stricter Γ a)
  least_stricter Γ (unpack t l a) = ap (K.unpack_label l) (least_stricter Γ a)
  least_stricter Γ (pairing t a b) = ap₂ K.join (least_stricter Γ a) (least_stricter Γ b)
  least_stricter Γ (proj p a) = least_stricter Γ a

  flow_e-stricter : (Γ : List L) (e : Expr) → flow_e (stricter K test) Γ e ≡ both (flow_e K Γ e) (keeps_e K test Γ e)
  unfolding flow_e keeps_e
  flow_e-stricter Γ (val v) = sym (both_true refl refl)
  flow_e-stricter Γ (loc x) = sym (both_true refl refl)
  flow_e-stricter Γ (var d) = sym (both_true refl refl)
  flow_e-stricter Γ (plus a b) = rw (flow_e-stricter Γ a, flow_e-stricter Γ b) (both_exchange _ _ _ _)
  flow_e-stricter Γ (left t a) = flow_e-stricter Γ a
  flow_e-stricter Γ (right t a) = flow_e-stricter Γ a
  flow_e-stricter Γ (pack l a) = rw (flow_e-stricter Γ a, least_stricter Γ a) (both_last _ _ _)
  flow_e-stricter Γ (unpack t l a) = rw (flow_e-stricter Γ a, least_stricter Γ a) (both_exchange _ _ _ _)
  flow_e-stricter Γ (pairing t a b) = rw (flow_e-stricter Γ a, flow_e-stricter Γ b) (both_exchange _ _ _ _)
  flow_e-stricter Γ (proj p a) = flow_e-stricter Γ a

  flow-stricter : (pc : L) (Γ : List L) (c : Cmd)
      → flow (stricter K test) pc Γ c ≡ both (flow K pc Γ c) (keeps K test Γ c)
  unfolding flow keeps
  flow-stricter pc Γ skip = sym (both_true refl refl)
  flow-stricter pc Γ (seq a b) = rw (flow-stricter pc Γ a, flow-stricter pc Γ b) (both_exchange _ _ _ _)
  flow-stricter pc Γ (assign x e) = rw (flow_e-stricter Γ e, least_stricter Γ e) (both_last _ _ _)
  flow-stricter pc Γ (while e c) =
      rw (flow_e-stricter Γ e, least_stricter Γ e, flow-stricter (K.join pc (least K Γ e)) Γ c) (both_exchange _ _ _ _)
  flow-stricter pc Γ (case e a b) =
      let l = least K Γ e in
      rw (
        flow_e-stricter Γ e,
        least_stricter Γ e,
        flow-stricter (K.join pc l) (l ∷ Γ) a,
        flow-stricter (K.join pc l) (l ∷ Γ) b,
        both_exchange (flow K (K.join pc l) (l ∷ Γ) a) (keeps K test (l ∷ Γ) a) (flow K (K.join pc l) (l ∷ Γ) b)
            (keeps K test (l ∷ Γ) b),
      )
      (both_exchange _ _ _ _)

pub stricter_flow : StricterFlow
stricter_flow L K test = flow-stricter K test

-- ---- against the figures

module _ {L : Type 0} (𝓛 : Labels L) (law : LeastLabelLaws 𝓛) (D : Declarations L) where
  whole_laws : LeastLabelLaws (whole_labels 𝓛)
  whole_laws = record {
    leq_refl = law.leq_refl;
    leq_trans = law.leq_trans;
    leq_antisym = law.leq_antisym;
    bot_leq = law.bot_leq;
    leq_join_left = law.leq_join_left;
    leq_join_right = law.leq_join_right;
    join_leq = law.join_leq;
    conf_mono = λ a b h. h;
    conf_idem = λ a. refl;
    conf_join = λ a b. refl;
    integ_leq = law.integ_leq;
    integ_idem = law.integ_idem;
  }

  -- the same conditions: what is at or below a label has its C at or below that label's
  whole_image : Image (trusting 𝓛 D) (conditions (whole_labels 𝓛) D) (λ a. a)
  whole_image = record {
    home_is = λ x. refl;
    bot_is = refl;
    join_is = λ a b. refl;
    pack_label_is = λ l a. refl;
    unpack_label_is = λ l a. refl;
    may_assign_is = λ x a. refl;
    may_pack_is = λ l a. refl;
    may_unpack_is = λ l a. bool_ext _ _ (both_right _ _) (λ h. both_true (law.conf_mono a (D.label l) h) h);
  }

  whole_start : (o : Option ℕ) → start_of (whole_labels 𝓛) D o ≡ start_of 𝓛 D o
  unfolding start_of
  whole_start none = refl
  whole_start (some l) = refl

  trust-flow : (p : Script)
      → flow (conditions (whole_labels 𝓛) D) (start_of (whole_labels 𝓛) D p.opening.start) [] p.command
      ≡ both (flow (conditions 𝓛 D) (start_of 𝓛 D p.opening.start) [] p.command) (trust_keeping 𝓛 D p)
  unfolding trust_keeping
  trust-flow p =
      ap (λ (pc : L). flow (conditions (whole_labels 𝓛) D) pc [] p.command) (whole_start p.opening.start)
      ∙ sym (flow_image _ _ (λ a. a) whole_image _ [] p.command)
      ∙ stricter_flow L (conditions 𝓛 D) (at_or_below 𝓛 D) _ [] p.command

  trust_iff : KeepingExact 𝓛 D
  trust_iff p =
      let plain = script_iff 𝓛 law D p in
      let strict = script_iff (whole_labels 𝓛) whole_laws D p in (
        λ (d, k). strict.0 ((plain.1 d).0, trust-flow p ∙ both_true (plain.1 d).1 k),
        λ d.
            let f = sym (trust-flow p) ∙ (strict.1 d).1 in
            (plain.0 ((strict.1 d).0, both_left _ _ f), both_right _ _ f),
      )

pub trust_derivable : TrustDerivable
trust_derivable L = trust_iff

-- f carries the conditions K to the conditions R, and one test to the other: each says the same of a command.
module _ {A B : Type 0} (K : Conditions A) (R : Conditions B) (f : A → B) (image : Image K R f) (test : ℕ → A → Bool)
    (other : ℕ → B → Bool)
    (same : (l : ℕ) (a : A) → test l a ≡ other l (f a)) where
  keeps_e_image : (Γ : List A) (e : Expr) → keeps_e K test Γ e ≡ keeps_e R other (map f Γ) e
  unfolding keeps_e
  keeps_e_image Γ (val v) = refl
  keeps_e_image Γ (loc x) = refl
  keeps_e_image Γ (var d) = refl
  keeps_e_image Γ (plus a b) = rw (keeps_e_image Γ a, keeps_e_image Γ b)
  keeps_e_image Γ (left t a) = keeps_e_image Γ a
  keeps_e_image Γ (right t a) = keeps_e_image Γ a
  keeps_e_image Γ (pack l a) = keeps_e_image Γ a
  keeps_e_image Γ (unpack t l a) = rw (keeps_e_image Γ a, same l (least K Γ a), least_image K R f image Γ a)
  keeps_e_image Γ (pairing t a b) = rw (keeps_e_image Γ a, keeps_e_image Γ b)
  keeps_e_image Γ (proj p a) = keeps_e_image Γ a

  pub keeps_image : (Γ : List A) (c : Cmd) → keeps K test Γ c ≡ keeps R other (map f Γ) c
  unfolding keeps
  keeps_image Γ skip = refl
  keeps_image Γ (seq a b) = rw (keeps_image Γ a, keeps_image Γ b)
  keeps_image Γ (assign x e) = keeps_e_image Γ e
  keeps_image Γ (while e c) = rw (keeps_e_image Γ e, keeps_image Γ c)
  keeps_image Γ (case e a b) =
      let l = least K Γ e in
      rw (keeps_e_image Γ e, keeps_image (l ∷ Γ) a, keeps_image (l ∷ Γ) b, least_image K R f image Γ e)

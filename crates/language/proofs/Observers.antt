-- Observers: who sees the labels of a set that is closed downward meets what noninterference asks, for the scope's
-- label conditions and for others.
use mathlib.Core.Path.{◌≡◌, refl, ap, ap₂, sym, ◌∙◌}
use mathlib.Core.Bool.{Bool, true, true≢false}
use mathlib.Core.List.{[]}
use Prim.Native.Nat.{ℕ}
use Rattle.logic.proofs.BooleanLaws.{both_right}
use Rattle.language.specs.Syntax.{Value, inl, inr, pkg, pair, Cmd}
use Rattle.language.specs.World.{World, Mem}
use Rattle.language.specs.Labels.{Labels, LeastLabelLaws}
use Rattle.language.specs.Declarations.{Declarations}
use Rattle.language.specs.View.{Equiv, ve_int, ve_err, ve_inl, ve_inr, ve_pack_in, ve_pack_lab, ve_pair, ve_blank}
use Rattle.language.specs.Transition.{done, iterate}
use Rattle.language.specs.Typing.{Conditions, conditions, flow}
use Rattle.language.specs.Trust.{trusting}
use Rattle.language.specs.Theorems.{Observer}
use Rattle.language.proofs.Masking.{equiv_refl, equiv_of_view, view_of_equiv}
use Rattle.language.proofs.Noninterference.{noninterference}

-- where every content is shown, equivalent values are equal
equal_shown : {v w : Value} → Equiv (λ l. true) v w → v ≡ w
equal_shown ve_int = refl
equal_shown ve_err = refl
equal_shown (ve_inl e) = ap inl (equal_shown e)
equal_shown (ve_inr e) = ap inr (equal_shown e)
equal_shown (ve_pack_in {h} e) = ap (pkg h) (equal_shown e)
equal_shown (ve_pack_lab e) = absurd (true≢false e)
equal_shown (ve_pair e f) = ap₂ pair (equal_shown e) (equal_shown f)
equal_shown ve_blank = refl

-- The join of two labels is at or above both.
pub record Joins {L : Type 0} (leq : L → L → Bool) (join : L → L → L) : Type 0 where
  pub left : (a b : L) → leq a (join a b) ≡ true
  pub right : (a b : L) → leq b (join a b) ≡ true

pub law_joins : {L : Type 0} (𝓛 : Labels L) → LeastLabelLaws 𝓛 → Joins 𝓛.leq 𝓛.join
law_joins 𝓛 law = record { left = law.leq_join_left; right = law.leq_join_right }

-- The world's order of label numbers is that of the labels.
abbrev pub Ordered : {L : Type 0} → Labels L → Declarations L → World → Type 0
Ordered 𝓛 D W = (m l : ℕ) → W.below m l ≡ 𝓛.leq (D.label m) (D.label l)

-- Who sees a label sees every label below it.
abbrev pub Downward : {L : Type 0} → Labels L → (L → Bool) → Type 0
Downward {L} 𝓛 vis = (a b : L) → 𝓛.leq a b ≡ true → vis b ≡ true → vis a ≡ true

module _ {L : Type 0} (𝓛 : Labels L) (D : Declarations L) (W : World) (vis : L → Bool)
    (joins : Joins 𝓛.leq 𝓛.join) (down : Downward 𝓛 vis)
    (order : Ordered 𝓛 D W) where
  below_shown : (l m : ℕ) → vis (D.label l) ≡ true → W.below m l ≡ true → vis (D.label m) ≡ true
  below_shown l m v h = down _ _ (sym (order m l) ∙ h) v

  -- Readers: who sees a label sees what has a C part at or below its own, since reading looks at C alone.
  pub reader : ((a b : L) → 𝓛.leq (𝓛.conf a) (𝓛.conf b) ≡ true → vis b ≡ true → vis a ≡ true)
      → Observer (conditions 𝓛 D) W vis (λ l. vis (D.label l))
  reader conf-down = record {
    at_assign = λ x a h. down _ _ h;
    join_left = λ a b. down _ _ (joins.left a b);
    join_right = λ a b. down _ _ (joins.right a b);
    at_pack = λ l a h _. down _ _ h;
    at_unpack = λ l a h. conf-down _ _ h;
    content = λ l m a. below_shown l m;
  }

  -- Under the conditions of trust-keeping scripts any set that is closed downward will do, such as the labels that
  -- distrusted parties do not write.
  pub truster : Observer (trusting 𝓛 D) W vis (λ l. vis (D.label l))
  truster = record {
    at_assign = λ x a h. down _ _ h;
    join_left = λ a b. down _ _ (joins.left a b);
    join_right = λ a b. down _ _ (joins.right a b);
    at_pack = λ l a h _. down _ _ h;
    at_unpack = λ l a h. down _ _ (both_right _ _ h);
    content = λ l m a. below_shown l m;
  }

-- For a rule that says on which locations a location may depend: a label is a set of locations, a pack and an unpack
-- keep their operand's, and every content is shown. No call tells dependencies; this is kept for one that does.
module _ {L : Type 0} (home : ℕ → L) (bot : L) (leq : L → L → Bool) (join : L → L → L) (W : World) (vis : L → Bool)
    (joins : Joins leq join)
    (down : (a b : L) → leq a b ≡ true → vis b ≡ true → vis a ≡ true) where
  abbrev pub dependencies : Conditions L
  dependencies = record {
    home = home;
    bot = bot;
    join = join;
    may_assign = λ x a. leq a (home x);
    pack_label = λ A a. a;
    may_pack = λ A a. true;
    unpack_label = λ A a. a;
    may_unpack = λ A a. true;
  }

  pub depender : Observer dependencies W vis (λ l. true)
  depender = record {
    at_assign = λ x a h. down _ _ h;
    join_left = λ a b. down _ _ (joins.left a b);
    join_right = λ a b. down _ _ (joins.right a b);
    at_pack = λ l a h v _. v;
    at_unpack = λ l a h v. v;
    content = λ l m a v h. refl;
  }

  -- Two done runs agree on a location that is seen, where their beginnings agree on all locations that are.
  pub depends : (pc : L) (c : Cmd) → flow dependencies pc [] c ≡ true → (b b' l l' : ℕ) (M N M' N' : Mem)
      → ((x : ℕ) → vis (home x) ≡ true → M x ≡ N x)
      → iterate W b M c ≡ done M' l → iterate W b' N c ≡ done N' l' → (y : ℕ) → vis (home y) ≡ true → M' y ≡ N' y
  depends pc c f b b' l l' M N M' N' h p q y v =
      equal_shown (equiv_of_view _ _ M' N'
      (noninterference dependencies W vis (λ n. true) depender pc c f b b' l l' M N M' N'
      (view_of_equiv _ _ M N (λ x s. rw (h x s) (equiv_refl _ (N x)))) p q) y v)

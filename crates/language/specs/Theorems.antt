-- What is claimed of the language, as types. The proofs stand in proofs/.
use Rattle.std.specs.Prelude.{◌↔◌, ◌≡◌, Bool, true, List, [], ◌∷◌, ℕ, suc, ◌+◌}
use Rattle.logic.specs.Booleans.{both}
use Rattle.language.specs.Syntax.{Ty, Value, Expr, val, Cmd, skip, Script}
use Rattle.language.specs.World.{World, Mem}
use Rattle.language.specs.Transition.{final, to, too_long, no_rule, step, Out, done, spent, over, wrong, iterate}
use Rattle.language.specs.Figures.{EStar, Step, Steps, LongExpr, LongStep, NoneLong}
use Rattle.language.specs.Labels.{Labels, LeastLabelLaws, struck}
use Rattle.language.specs.Declarations.{Shapes, WellTyped, Fitting, Declarations, unlabelled}
use Rattle.language.specs.Typing.{shape, Conditions, conditions, least, flow_e, flow, refusal}
use Rattle.language.specs.Trust.{keeps, trust_keeping, whole_labels, stricter}
use Rattle.language.specs.Rules.{LabelledType, Typed, Derivable}
use Rattle.language.specs.View.{mask, mask_mem, Equiv, EquivMem}

-- Figures 2 and 3 against `step`: they agree up to values that are too long, which the figures do not have. `LongExact`
-- says when the converse of `is_long` holds.
pub record Agreement (W : World) : Type 0 where
  pub skip_alone : (M : Mem) (c : Cmd) → step W M c ≡ final → c ≡ skip
  pub has_rule : (M M' : Mem) (c c' : Cmd) → step W M c ≡ to M' c' → Step W M c M' c'
  pub is_step : (M M' : Mem) (c c' : Cmd) → Step W M c M' c' → ¬ (step W M c ≡ too_long) → step W M c ≡ to M' c'
  pub has_none : (M M' : Mem) (c c' : Cmd) → step W M c ≡ no_rule → ¬ Step W M c M' c'
  pub is_long : (M : Mem) (c : Cmd) → step W M c ≡ too_long → LongStep W M c

-- Lemma 2: a configuration has at most one trace of each length, and skip ends it.
pub record Determinacy (W : World) : Type 0 where
  pub one_step : (M M₁ M₂ : Mem) (c c₁ c₂ : Cmd) → Step W M c M₁ c₁ → Step W M c M₂ c₂ → (M₁ ≡ M₂) × (c₁ ≡ c₂)
  pub one_trace : (k : ℕ) (M M₁ M₂ : Mem) (c c₁ c₂ : Cmd) → Steps W k M c M₁ c₁ → Steps W k M c M₂ c₂
      → (M₁ ≡ M₂) × (c₁ ≡ c₂)
  pub one_end : (j k : ℕ) (M M₁ M₂ : Mem) (c : Cmd) → Steps W j M c M₁ skip → Steps W k M c M₂ skip
      → (j ≡ k) × (M₁ ≡ M₂)

-- How a run within the budget b ends, by the figures: skip is reached after k transitions, and l is the rest; it is
-- not reached after b; a step within the budget, after k transitions, meets a value that is too long. The scope's
-- numbers 0, 9 and 10.
pub data RunEnds (W : World) (b : ℕ) (M : Mem) (c : Cmd) : Out → Type 0 where
  ends_done : {k l : ℕ} {M' : Mem} → k + l ≡ b → Steps W k M c M' skip → NoneLong W k M c → RunEnds W b M c (done M' l)
  ends_spent : {M' : Mem} {c' : Cmd} → Steps W b M c M' c' → ¬ (c' ≡ skip) → NoneLong W b M c → RunEnds W b M c spent
  ends_over : {k l : ℕ} {M' : Mem} {c' : Cmd} → k + suc l ≡ b → Steps W k M c M' c' → LongStep W M' c'
      → NoneLong W k M c
      → RunEnds W b M c (over (suc l))

-- The world's types are the sheet's.
abbrev pub SameTypes : Shapes → World → Type 0
SameTypes S W = (t : ℕ) → W.ty t ≡ S.ty t

-- In every configuration that a command which passes `shape` reaches from a well-typed memory whose values fit, `step`
-- is too long exactly if the next step meets a value that is too long. In others it need not be: a `plus` of an unbound
-- variable and of a part that is too long has no rule, and a value that is too long already, in the memory or in the
-- command, is copied.
abbrev pub LongExact : Shapes → World → Type 0
LongExact S W = (c : Cmd) → shape S [] c ≡ true → (M : Mem) → WellTyped S M → Fitting M → (k : ℕ) (M' : Mem) (c' : Cmd)
    → Steps W k M c M' c' → NoneLong W k M c → (step W M' c' ≡ too_long) ↔ LongStep W M' c'

-- `iterate` is the run of the figures: its outcome is the one by which the run ends.
abbrev pub Outcome : Shapes → World → Type 0
Outcome S W = (c : Cmd) → shape S [] c ≡ true → (M : Mem) → WellTyped S M → Fitting M → (b : ℕ) (o : Out)
    → (iterate W b M c ≡ o) ↔ RunEnds W b M c o

-- A command that passes `shape`, in a well-typed memory, is never stuck, and every memory that it reaches is
-- well-typed, as long as no step meets a value that is too long.
pub record TypeSoundness (S : Shapes) (W : World) : Type 0 where
  pub never_wrong : (c : Cmd) → shape S [] c ≡ true → (M : Mem) → WellTyped S M → (b : ℕ) → ¬ (iterate W b M c ≡ wrong)
  pub done_typed : (c : Cmd) → shape S [] c ≡ true → (M : Mem) → WellTyped S M → (b l : ℕ) (M' : Mem)
      → iterate W b M c ≡ done M' l → WellTyped S M'
  pub reached_typed : (c : Cmd) → shape S [] c ≡ true → (M : Mem) → WellTyped S M → (k : ℕ) (M' : Mem) (c' : Cmd)
      → Steps W k M c M' c' → NoneLong W k M c → WellTyped S M' × ¬ (step W M' c' ≡ no_rule)

-- The checker accepts exactly what has a derivation, and refuses by the scope's numbers.
pub record Exactness {L : Type 0} (𝓛 : Labels L) (D : Declarations L) : Type 0 where
  pub accepted : (p : Script) → (refusal 𝓛 D p ≡ 0) ↔ Derivable 𝓛 D p
  pub refused_5 : (p : Script) → (refusal 𝓛 D p ≡ 5) ↔ (¬ Derivable struck (unlabelled D) p)
  pub refused_6 : (p : Script) → (refusal 𝓛 D p ≡ 6) ↔ (Derivable struck (unlabelled D) p × ¬ Derivable 𝓛 D p)

-- The labels of Γ, innermost first.
unfoldable pub labels_bound : {L : Type 0} → List (LabelledType L) → List L
labels_bound [] = []
labels_bound (g ∷ Γ) = g.label ∷ labels_bound Γ

-- `least` is the least label that figure 4 gives an expression: figure 4 types it at a label exactly if it types it at
-- the least one and that is at or below the label.
abbrev pub LeastLabel : {L : Type 0} → Labels L → Declarations L → Type 0
LeastLabel {L} 𝓛 D = (Γ : List (LabelledType L)) (e : Expr) (τ : Ty) (ℓ : L)
    → Typed 𝓛 D Γ e τ ℓ
    ↔ (Typed 𝓛 D Γ e τ (least (conditions 𝓛 D) (labels_bound Γ) e)
    × (𝓛.leq (least (conditions 𝓛 D) (labels_bound Γ) e) ℓ ≡ true))

-- of any labels with these laws, whatever is declared
abbrev pub LeastLabels : Type 1
LeastLabels = (L : Type 0) (𝓛 : Labels L) → LeastLabelLaws 𝓛 → (D : Declarations L) → LeastLabel 𝓛 D

-- Figure 6 and definition 1 against masks: two values have the same mask exactly if they are equivalent, and so
-- have two memories.
pub record Masking : Type 0 where
  pub values : (shows : ℕ → Bool) (v w : Value) → (mask shows v ≡ mask shows w) ↔ Equiv shows v w
  pub memories : (sees shows : ℕ → Bool) (M N : Mem)
      → ((x : ℕ) → mask_mem sees shows M x ≡ mask_mem sees shows N x) ↔ EquivMem sees shows M N

-- What noninterference asks of an observer that sees the labels vis, and the content of packages at the label numbers
-- shows. Nothing is asked of the join of two labels that are seen.
pub record Observer {L : Type 0} (K : Conditions L) (W : World) (vis : L → Bool) (shows : ℕ → Bool) : Type 0 where
  pub at_assign : (x : ℕ) (a : L) → K.may_assign x a ≡ true → vis (K.home x) ≡ true → vis a ≡ true
  pub join_left : (a b : L) → vis (K.join a b) ≡ true → vis a ≡ true
  pub join_right : (a b : L) → vis (K.join a b) ≡ true → vis b ≡ true
  pub at_pack : (l : ℕ) (a : L) → K.may_pack l a ≡ true → vis (K.pack_label l a) ≡ true → shows l ≡ true → vis a ≡ true
  pub at_unpack : (l : ℕ) (a : L) → K.may_unpack l a ≡ true → vis (K.unpack_label l a) ≡ true → vis a ≡ true
  pub content : (l m : ℕ) (a : L) → vis (K.unpack_label l a) ≡ true → W.below m l ≡ true → shows m ≡ true

-- Two memories give the observer the same view.
abbrev pub SameMask : {L : Type 0} → Conditions L → (L → Bool) → (ℕ → Bool) → Mem → Mem → Type 0
SameMask K vis shows M N = (x : ℕ) → mask_mem (λ y. vis (K.home y)) shows M x ≡ mask_mem (λ y. vis (K.home y)) shows N x

-- Theorem 1 (expression noninterference): the values that an expression has in two memories that look the same are
-- equivalent, if its label conditions hold and the observer sees its least label. It differs from the paper's as
-- theorem 2 does: it is about one expression instead of two that are equivalent, and no part of it may be too long.
abbrev pub ExpressionNoninterference : {L : Type 0} → Conditions L → World → (L → Bool) → (ℕ → Bool) → Type 0
ExpressionNoninterference K W vis shows =
    (e : Expr) → flow_e K [] e ≡ true → vis (least K [] e) ≡ true → (M N : Mem) → SameMask K vis shows M N
    → (v w : Value) → EStar W M e (val v) → ¬ LongExpr W M e → EStar W N e (val w) → ¬ LongExpr W N e → Equiv shows v w

-- Theorem 2 (command noninterference): two done runs of a command that passes `flow`, in one world, from memories
-- that look the same, leave memories that look the same, whatever the budgets and the steps. It differs from the
-- paper's in this:
-- * both runs are of one command, the paper's of two that are equivalent, that is alike but for equivalent values in
--   them. A script's only values are integers, so equivalent scripts are the same;
-- * a run is done by `iterate`, so no step of it makes a value that is too long; the paper has no such limit;
-- * the observer is any that meets `Observer`, instead of a label ℓ. Who goes by C alone, and sees with a label all
--   that have a C at or below its own, meets it, as a group of readers does; who goes by writers too need not, since an
--   unpack compares C alone;
-- * neither a well-typed memory nor types are asked for: a run that is stuck is not done.
abbrev pub Noninterference : {L : Type 0} → Conditions L → World → (L → Bool) → (ℕ → Bool) → Type 0
Noninterference {L} K W vis shows = (pc : L) (c : Cmd) → flow K pc [] c ≡ true → (b b' l l' : ℕ) (M N M' N' : Mem)
    → SameMask K vis shows M N → iterate W b M c ≡ done M' l → iterate W b' N c ≡ done N' l'
    → SameMask K vis shows M' N'

-- Under a surrounding label that the observer does not see, what it sees stays, however far a run goes.
abbrev pub Confinement : {L : Type 0} → Conditions L → World → (L → Bool) → Type 0
Confinement {L} K W vis =
    (pc : L) (c : Cmd) → flow K pc [] c ≡ true → ¬ (vis pc ≡ true) → (k : ℕ) (M M' : Mem) (c' : Cmd)
    → Steps W k M c M' c' → (x : ℕ) → vis (K.home x) ≡ true → M' x ≡ M x

-- All of it, with what each claim assumes.
pub record Theorems : Type 1 where
  pub agreement : (W : World) → Agreement W
  pub determinacy : (W : World) → Determinacy W
  pub long_exact : (S : Shapes) (W : World) → SameTypes S W → LongExact S W
  pub outcome : (S : Shapes) (W : World) → SameTypes S W → Outcome S W
  pub type_soundness : (S : Shapes) (W : World) → SameTypes S W → TypeSoundness S W
  pub exactness : (L : Type 0) (𝓛 : Labels L) → LeastLabelLaws 𝓛 → (D : Declarations L) → Exactness 𝓛 D
  pub masking : Masking
  pub expression_noninterference : (L : Type 0) (K : Conditions L) (W : World) (vis : L → Bool) (shows : ℕ → Bool)
      → Observer K W vis shows
      → ExpressionNoninterference K W vis shows
  pub noninterference : (L : Type 0) (K : Conditions L) (W : World) (vis : L → Bool) (shows : ℕ → Bool)
      → Observer K W vis shows
      → Noninterference K W vis shows
  pub confinement : (L : Type 0) (K : Conditions L) (W : World) (vis : L → Bool) (shows : ℕ → Bool)
      → Observer K W vis shows → Confinement K W vis

-- Beside them, for request (e): a command passes the stricter conditions exactly if it passes the conditions and each
-- of its unpacks passes the test besides. So noninterference holds of an accepted, trust-keeping script for every
-- observer that meets `Observer` under the conditions `trusting`.
abbrev pub StricterFlow : Type 1
StricterFlow = (L : Type 0) (K : Conditions L) (test : ℕ → L → Bool) (pc : L) (Γ : List L) (c : Cmd)
    → flow (stricter K test) pc Γ c ≡ both (flow K pc Γ c) (keeps K test Γ c)

-- And against the figures: a script has a derivation and is trust-keeping exactly if figures 4 and 5 give it one where
-- the rule of unpack compares whole labels instead of C alone.
abbrev pub KeepingExact : {L : Type 0} → Labels L → Declarations L → Type 0
KeepingExact 𝓛 D = (p : Script) → (Derivable 𝓛 D p × (trust_keeping 𝓛 D p ≡ true)) ↔ Derivable (whole_labels 𝓛) D p

abbrev pub TrustDerivable : Type 1
TrustDerivable = (L : Type 0) (𝓛 : Labels L) → LeastLabelLaws 𝓛 → (D : Declarations L) → KeepingExact 𝓛 D

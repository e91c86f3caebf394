-- Trust-keeping scripts (request (e)).
use Rattle.std.specs.Prelude.{Bool, true, List, [], ◌∷◌, ℕ}
use Rattle.logic.specs.Booleans.{both}
use Rattle.language.specs.Syntax.{Expr, val, loc, var, plus, left, right, pack, unpack, pairing, proj, Cmd, skip}
use Rattle.language.specs.Syntax.{seq, assign, while, case, Script}
use Rattle.language.specs.Labels.{Labels}
use Rattle.language.specs.Declarations.{Declarations}
use Rattle.language.specs.Typing.{Conditions, least, conditions}

-- Whether each unpack in an expression passes a test, which is given the label number that the unpack names and the
-- least label of its operand; Γ holds the labels of the enclosing cases' expressions, innermost first.
unfoldable pub keeps_e : {L : Type 0} → Conditions L → (ℕ → L → Bool) → List L → Expr → Bool
keeps_e K test Γ (val v) = true
keeps_e K test Γ (loc x) = true
keeps_e K test Γ (var d) = true
keeps_e K test Γ (plus a b) = both (keeps_e K test Γ a) (keeps_e K test Γ b)
keeps_e K test Γ (left t a) = keeps_e K test Γ a
keeps_e K test Γ (right t a) = keeps_e K test Γ a
keeps_e K test Γ (pack l a) = keeps_e K test Γ a
keeps_e K test Γ (unpack t l a) = both (keeps_e K test Γ a) (test l (least K Γ a))
keeps_e K test Γ (pairing t a b) = both (keeps_e K test Γ a) (keeps_e K test Γ b)
keeps_e K test Γ (proj p a) = keeps_e K test Γ a

-- Whether each unpack in a command does.
unfoldable pub keeps : {L : Type 0} → Conditions L → (ℕ → L → Bool) → List L → Cmd → Bool
keeps K test Γ skip = true
keeps K test Γ (seq a b) = both (keeps K test Γ a) (keeps K test Γ b)
keeps K test Γ (assign x e) = keeps_e K test Γ e
keeps K test Γ (while e c) = both (keeps_e K test Γ e) (keeps K test Γ c)
keeps K test Γ (case e a b) =
    let l = least K Γ e in
    both (keeps_e K test Γ e) (both (keeps K test (l ∷ Γ) a) (keeps K test (l ∷ Γ) b))

-- A label is at or below the one that a label number names, writers as well as readers.
abbrev pub at_or_below : {L : Type 0} → Labels L → Declarations L → ℕ → L → Bool
at_or_below 𝓛 D l a = 𝓛.leq a (D.label l)

-- A script is trust-keeping: each unpack's operand has a least label at or below the wanted label, the one that the
-- unpack names.
unfoldable pub trust_keeping : {L : Type 0} → Labels L → Declarations L → Script → Bool
trust_keeping 𝓛 D p = keeps (conditions 𝓛 D) (at_or_below 𝓛 D) [] p.command

-- The labels where the whole of a label stands in the place of C: over them figure 4's rule of unpack, TE-UNPACK, wants
-- an operand at or below the wanted label, and asks nothing else than it did (`TrustDerivable`).
abbrev pub whole_labels : {L : Type 0} → Labels L → Labels L
whole_labels 𝓛 = record { leq = 𝓛.leq; join = 𝓛.join; conf = λ a. a; integ = 𝓛.integ; bot = 𝓛.bot }

-- The label conditions K where an unpack must pass the test besides.
abbrev pub stricter : {L : Type 0} → Conditions L → (ℕ → L → Bool) → Conditions L
stricter K test = record {
  home = K.home;
  bot = K.bot;
  join = K.join;
  may_assign = K.may_assign;
  pack_label = K.pack_label;
  may_pack = K.may_pack;
  unpack_label = K.unpack_label;
  may_unpack = λ l a. both (K.may_unpack l a) (test l a);
}

-- The label conditions that a trust-keeping script meets where it is accepted (`StricterFlow`).
abbrev pub trusting : {L : Type 0} → Labels L → Declarations L → Conditions L
trusting 𝓛 D = stricter (conditions 𝓛 D) (at_or_below 𝓛 D)

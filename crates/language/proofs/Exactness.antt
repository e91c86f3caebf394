-- The checker accepts exactly what figures 4 and 5 derive. Nothing but `LeastLabelLaws` is assumed.
use mathlib.Core.Logic.{◌↔◌}
use mathlib.Core.Path.{◌≡◌, refl, ap, sym, ◌∙◌, subst}
use mathlib.Core.Bool.{Bool, true, false, cond, true≢false}
use mathlib.Core.Option.{some}
use mathlib.Core.List.{List, [], ◌∷◌}
use Prim.Native.Nat.{ℕ, zero, suc}
use native.Mathlib.Omega.{arith}
use Rattle.logic.proofs.BooleanLaws.{both_left, both_right, both_true, not_so}
use Rattle.language.specs.Syntax.{Ty, t_int, t_pkg, Expr, val, loc, var, plus, left, right, pack, unpack, pairing}
use Rattle.language.specs.Syntax.{proj, Cmd, skip, seq, assign, while, case, Script}
use Rattle.language.specs.Labels.{Labels, LeastLabelLaws, struck}
use Rattle.language.specs.Declarations.{Declarations, unlabelled, start_of, nth}
use Rattle.language.specs.Rules.{LabelledType, Typed, te_int, te_loc, te_var, te_plus, te_suml, te_sumr, te_pack}
use Rattle.language.specs.Rules.{te_unpack, te_pair, te_proj, te_sub, Safe, tc_skip, tc_assign, tc_seq, tc_while}
use Rattle.language.specs.Rules.{tc_case, tc_subs, Derivable}
use Rattle.language.specs.Typing.{or_else, type_of_value, type_of, shape, least, flow_e, flow, conditions, refusal}
use Rattle.language.specs.Theorems.{Exactness, LeastLabels, labels_bound}
use Rattle.language.proofs.Types.{is_ty_true, has_ty_true, given_true, left_is_true, right_is_true, pair_is_true}
use Rattle.language.proofs.Types.{part_ty_true, on_sum_true, on_sum_path, HasType, h_int, h_loc, h_var, h_plus}
use Rattle.language.proofs.Types.{h_left, h_right, h_pack, h_unpack, h_pair, h_proj, has_type, is_type_lem}
use Rattle.logic.proofs.OptionLaws.{none_some, some_path}

pub struck-laws : LeastLabelLaws struck
struck-laws = record {
  leq_refl = λ a. refl;
  leq_trans = λ a b c p q. refl;
  leq_antisym = λ a b p q. refl;
  bot_leq = λ a. refl;
  leq_join_left = λ a b. refl;
  leq_join_right = λ a b. refl;
  join_leq = λ a b c p q. refl;
  conf_mono = λ a b p. refl;
  conf_idem = λ a. refl;
  conf_join = λ a b. refl;
  integ_leq = λ a. refl;
  integ_idem = λ a. refl;
}

module _ {L : Type 0} (𝓛 : Labels L) (law : LeastLabelLaws 𝓛) (D : Declarations L) where
  unfoldable pub types : List (LabelledType L) → List Ty
  types [] = []
  types (g ∷ Γ) = g.type ∷ types Γ

  nth-types : (Γ : List (LabelledType L)) (d : ℕ) (g : LabelledType L) → nth Γ d ≡ some g
      → nth (types Γ) d ≡ some g.type
  unfolding nth types
  nth-types [] d g h = none_some h
  nth-types (k ∷ Γ) zero g h = ap (λ (o : LabelledType L). some o.type) (some_path h)
  nth-types (k ∷ Γ) (suc d) g h = nth-types Γ d g h

  -- ls are labels at or below those of Γ
  data Below : List L → List (LabelledType L) → Type 0 where
    none_below : Below [] []
    more_below : {m : L} {ls : List L} {τ : Ty} {ℓ : L} {Γ : List (LabelledType L)} → 𝓛.leq m ℓ ≡ true → Below ls Γ
        → Below (m ∷ ls) (record { type = τ; label = ℓ } ∷ Γ)

  nth_below : {ls : List L} {Γ : List (LabelledType L)} → Below ls Γ → (d : ℕ) (τ : Ty) (ℓ : L)
      → nth Γ d ≡ some (record { type = τ; label = ℓ })
      → 𝓛.leq (or_else 𝓛.bot (nth ls d)) ℓ ≡ true
  unfolding nth or_else
  nth_below none_below d τ ℓ h = law.bot_leq ℓ
  nth_below (more_below {m = m} p b) zero τ ℓ h =
      subst (λ (g : LabelledType L). 𝓛.leq m g.label ≡ true) (some_path h) p
  nth_below (more_below p b) (suc d) τ ℓ h = nth_below b d τ ℓ h

  -- What the checker says of an expression that the rules give the type τ and the label ℓ.
  pub record Passes (Γ : List (LabelledType L)) (ls : List L) (e : Expr) (τ : Ty) (ℓ : L) : Type 0 where
    pub type_is : type_of D.shapes (types Γ) e ≡ some τ
    pub flows : flow_e (conditions 𝓛 D) ls e ≡ true
    pub label_is : 𝓛.leq (least (conditions 𝓛 D) ls e) ℓ ≡ true

  integ_below : {a e ℓ : L} → a ≡ e → 𝓛.integ e ≡ 𝓛.integ ℓ → 𝓛.leq (𝓛.integ a) ℓ ≡ true
  integ_below {ℓ = ℓ} p q = rw (p, q) (law.integ_leq ℓ)

  complete : {Γ : List (LabelledType L)} {e : Expr} {τ : Ty} {ℓ : L} → Typed 𝓛 D Γ e τ ℓ → {ls : List L} → Below ls Γ
      → Passes Γ ls e τ ℓ
  unfolding type_of type_of_value flow_e least
  complete te_int b = record { type_is = refl; flows = refl; label_is = law.bot_leq _ }
  complete (te_loc p q) b = record { type_is = ap some p; flows = refl; label_is = rw q (law.leq_refl _) }
  complete (te_var h) b = record { type_is = nth-types _ _ _ h; flows = refl; label_is = nth_below b _ _ _ h }
  complete (te_plus s t) b =
      let s' = complete s b in
      let t' = complete t b in
      record {
        type_is = given_true t_int (both_true (is_ty_true t_int s'.type_is) (is_ty_true t_int t'.type_is));
        flows = both_true s'.flows t'.flows;
        label_is = law.join_leq _ _ _ s'.label_is t'.label_is;
      }
  complete (te_suml p s) b =
      let s' = complete s b in
      record {
        type_is = given_true _ (left_is_true _ _ p s'.type_is) ∙ ap some p;
        flows = s'.flows;
        label_is = s'.label_is;
      }
  complete (te_sumr p s) b =
      let s' = complete s b in
      record {
        type_is = given_true _ (right_is_true _ _ p s'.type_is) ∙ ap some p;
        flows = s'.flows;
        label_is = s'.label_is;
      }
  complete (te_pack p s q) b =
      let s' = complete s b in
      record {
        type_is = given_true _ (has_ty_true _ s'.type_is);
        flows = both_true s'.flows (rw p s'.label_is);
        label_is = integ_below p q;
      }
  complete (te_unpack p l s q) b =
      let s' = complete s b in
      record {
        type_is = given_true _ (both_true (is_ty_true t_pkg s'.type_is) (right_is_true _ _ p refl)) ∙ ap some p;
        flows = both_true s'.flows (rw (l, ← q) (law.conf_mono _ _ s'.label_is));
        label_is = rw l (law.leq_refl _);
      }
  complete (te_pair p s t) b =
      let s' = complete s b in
      let t' = complete t b in
      record {
        type_is = given_true _ (pair_is_true _ _ p s'.type_is t'.type_is) ∙ ap some p;
        flows = both_true s'.flows t'.flows;
        label_is = law.join_leq _ _ _ s'.label_is t'.label_is;
      }
  complete (te_proj {p} s) b =
      let s' = complete s b in
      record { type_is = part_ty_true p _ _ s'.type_is; flows = s'.flows; label_is = s'.label_is }
  complete (te_sub s h) b =
      let s' = complete s b in
      record { type_is = s'.type_is; flows = s'.flows; label_is = law.leq_trans _ _ _ s'.label_is h }

  nth_both : (Γ : List (LabelledType L)) (d : ℕ) (τ : Ty) → nth (types Γ) d ≡ some τ
      → nth Γ d ≡ some (record { type = τ; label = or_else 𝓛.bot (nth (labels_bound Γ) d) })
  unfolding nth types labels_bound or_else
  nth_both [] d τ h = none_some h
  nth_both (g ∷ Γ) zero τ h = ap (λ (t : Ty). some (record { type = t; label = g.label })) (some_path h)
  nth_both (g ∷ Γ) (suc d) τ h = nth_both Γ d τ h

  -- the label that TE-UNPACK's operand is raised to
  conf_absorb : (m a : L) → 𝓛.leq (𝓛.conf m) (𝓛.conf a) ≡ true → 𝓛.conf (𝓛.join m (𝓛.conf a)) ≡ 𝓛.conf a
  conf_absorb m a h = law.conf_join _ _
      ∙ rw (law.conf_idem a) (law.leq_antisym _ _ (law.join_leq _ _ _ h (law.leq_refl _)) (law.leq_join_right _ _))

  sound : (Γ : List (LabelledType L)) {e : Expr} {τ : Ty} → HasType D.shapes (types Γ) e τ
      → flow_e (conditions 𝓛 D) (labels_bound Γ) e ≡ true
      → Typed 𝓛 D Γ e τ (least (conditions 𝓛 D) (labels_bound Γ) e)
  unfolding flow_e least
  sound Γ h_int f = te_int
  sound Γ h_loc f = te_loc refl refl
  sound Γ (h_var h) f = te_var (nth_both Γ _ _ h)
  sound Γ (h_plus a b) f = te_plus (te_sub (sound Γ a (both_left _ _ f)) (law.leq_join_left _ _))
      (te_sub (sound Γ b (both_right _ _ f)) (law.leq_join_right _ _))
  sound Γ (h_left p e) f = te_suml p (sound Γ e f)
  sound Γ (h_right p e) f = te_sumr p (sound Γ e f)
  sound Γ (h_pack e) f =
      te_pack refl (te_sub (sound Γ e (both_left _ _ f)) (both_right _ _ f)) (sym (law.integ_idem _))
  sound Γ (h_unpack p e) f =
      te_unpack p refl (te_sub (sound Γ e (both_left _ _ f)) (law.leq_join_left _ _))
      (conf_absorb _ _ (both_right _ _ f))
  sound Γ (h_pair p a b) f =
      te_pair p (te_sub (sound Γ a (both_left _ _ f)) (law.leq_join_left _ _))
      (te_sub (sound Γ b (both_right _ _ f)) (law.leq_join_right _ _))
  sound Γ (h_proj e) f = te_proj (sound Γ e f)

  below_same : (Γ : List (LabelledType L)) → Below (labels_bound Γ) Γ
  unfolding labels_bound
  below_same [] = none_below
  below_same (g ∷ Γ) = more_below (law.leq_refl g.label) (below_same Γ)

  -- Figure 4 types an expression at a label exactly if it does at the least one, and that is at or below the label.
  pub least_label : (Γ : List (LabelledType L)) (e : Expr) (τ : Ty) (ℓ : L)
      → Typed 𝓛 D Γ e τ ℓ
      ↔ (Typed 𝓛 D Γ e τ (least (conditions 𝓛 D) (labels_bound Γ) e)
      × (𝓛.leq (least (conditions 𝓛 D) (labels_bound Γ) e) ℓ ≡ true))
  least_label Γ e τ ℓ = (
    (λ t. let p = complete t (below_same Γ) in (sound Γ (has_type _ _ e p.type_is) p.flows, p.label_is)),
    (λ h. te_sub h.0 h.1),
  )

  -- Commands

  leq_as : {a b c : L} → c ≡ b → 𝓛.leq a b ≡ true → 𝓛.leq a c ≡ true
  leq_as q h = rw q h

  join_mono : {a b c d : L} → 𝓛.leq a c ≡ true → 𝓛.leq b d ≡ true → 𝓛.leq (𝓛.join a b) (𝓛.join c d) ≡ true
  join_mono p q = law.join_leq _ _ _ (law.leq_trans _ _ _ p (law.leq_join_left _ _))
      (law.leq_trans _ _ _ q (law.leq_join_right _ _))

  pub record Accepts (Γ : List (LabelledType L)) (ls : List L) (pc : L) (c : Cmd) : Type 0 where
    pub shaped : shape D.shapes (types Γ) c ≡ true
    pub flows : flow (conditions 𝓛 D) pc ls c ≡ true

  complete_cmd : {pc : L} {Γ : List (LabelledType L)} {c : Cmd} → Safe 𝓛 D pc Γ c → {ls : List L} → Below ls Γ
      → {pc₀ : L} → 𝓛.leq pc₀ pc ≡ true
      → Accepts Γ ls pc₀ c
  unfolding shape flow types
  complete_cmd tc_skip b h = record { shaped = refl; flows = refl }
  complete_cmd (tc_assign s p q l) b h =
      let s' = complete s b in
      record {
        shaped = is_ty_true _ (s'.type_is ∙ ap some (sym p));
        flows = both_true s'.flows (both_true (leq_as q
            (law.leq_trans _ _ _ s'.label_is (law.leq_trans _ _ _ (law.leq_join_left _ _) l)))
            (leq_as q (law.leq_trans _ _ _ h (law.leq_trans _ _ _ (law.leq_join_right _ _) l))));
      }
  complete_cmd (tc_seq s t) b h =
      let s' = complete_cmd s b h in
      let t' = complete_cmd t b h in
      record { shaped = both_true s'.shaped t'.shaped; flows = both_true s'.flows t'.flows }
  complete_cmd (tc_while s t) b h =
      let s' = complete s b in
      let t' = complete_cmd t b (join_mono h s'.label_is) in
      record { shaped = both_true (is_ty_true _ s'.type_is) t'.shaped; flows = both_true s'.flows t'.flows }
  complete_cmd (tc_case s t u) b h =
      let s' = complete s b in
      let t' = complete_cmd t (more_below s'.label_is b) (join_mono h s'.label_is) in
      let u' = complete_cmd u (more_below s'.label_is b) (join_mono h s'.label_is) in
      record {
        shaped = on_sum_true _ _ _ s'.type_is (both_true t'.shaped u'.shaped);
        flows = both_true s'.flows (both_true t'.flows u'.flows);
      }
  complete_cmd (tc_subs s l) b h = complete_cmd s b (law.leq_trans _ _ _ h l)

  sound_cmd : (c : Cmd) (Γ : List (LabelledType L)) (pc : L) → shape D.shapes (types Γ) c ≡ true
      → flow (conditions 𝓛 D) pc (labels_bound Γ) c ≡ true
      → Safe 𝓛 D pc Γ c
  unfolding shape flow types labels_bound
  sound_cmd skip Γ pc h f = tc_skip
  sound_cmd (seq c₁ c₂) Γ pc h f = tc_seq (sound_cmd c₁ Γ pc (both_left _ _ h) (both_left _ _ f))
      (sound_cmd c₂ Γ pc (both_right _ _ h) (both_right _ _ f))
  sound_cmd (assign x e) Γ pc h f =
      let k = both_right _ _ f in
      tc_assign (sound Γ (is_type_lem _ _ h) (both_left _ _ f)) refl refl
      (law.join_leq _ _ _ (both_left _ _ k) (both_right _ _ k))
  sound_cmd (while e c) Γ pc h f = tc_while (sound Γ (is_type_lem _ _ (both_left _ _ h)) (both_left _ _ f))
      (sound_cmd c Γ _ (both_right _ _ h) (both_right _ _ f))
  sound_cmd (case e c₁ c₂) Γ pc h f =
      let o = on_sum_path _ _ h in
      let k = both_right _ _ f in
      let m = least (conditions 𝓛 D) (labels_bound Γ) e in
      tc_case (sound Γ (has_type _ _ e o.2) (both_left _ _ f))
      (sound_cmd c₁ (record { type = o.0; label = m } ∷ Γ) _ (both_left _ _ o.3) (both_left _ _ k))
      (sound_cmd c₂ (record { type = o.1; label = m } ∷ Γ) _ (both_right _ _ o.3) (both_right _ _ k))

  -- Figure 5 has a derivation exactly if the command passes both tests.
  pub safe_iff : (pc : L) (Γ : List (LabelledType L)) (c : Cmd) → Safe 𝓛 D pc Γ c ↔ Accepts Γ (labels_bound Γ) pc c
  safe_iff pc Γ c =
      ((λ s. complete_cmd s (below_same Γ) (law.leq_refl pc)), (λ a. sound_cmd c Γ pc a.shaped a.flows))

-- Over the one label every condition holds.

struck-flow_e : (D : Declarations Unit) (e : Expr) (ls : List Unit) → flow_e (conditions struck D) ls e ≡ true
unfolding flow_e
struck-flow_e D (val v) ls = refl
struck-flow_e D (loc x) ls = refl
struck-flow_e D (var d) ls = refl
struck-flow_e D (plus a b) ls = both_true (struck-flow_e D a ls) (struck-flow_e D b ls)
struck-flow_e D (left t e) ls = struck-flow_e D e ls
struck-flow_e D (right t e) ls = struck-flow_e D e ls
struck-flow_e D (pack A e) ls = both_true (struck-flow_e D e ls) refl
struck-flow_e D (unpack t A e) ls = both_true (struck-flow_e D e ls) refl
struck-flow_e D (pairing t a b) ls = both_true (struck-flow_e D a ls) (struck-flow_e D b ls)
struck-flow_e D (proj p e) ls = struck-flow_e D e ls

struck-flow : (D : Declarations Unit) (c : Cmd) (pc : Unit) (ls : List Unit) → flow (conditions struck D) pc ls c ≡ true
unfolding flow
struck-flow D skip pc ls = refl
struck-flow D (seq c₁ c₂) pc ls = both_true (struck-flow D c₁ pc ls) (struck-flow D c₂ pc ls)
struck-flow D (assign x e) pc ls = both_true (struck-flow_e D e ls) (both_true refl refl)
struck-flow D (while e c) pc ls = both_true (struck-flow_e D e ls) (struck-flow D c _ ls)
struck-flow D (case e c₁ c₂) pc ls =
    both_true (struck-flow_e D e ls) (both_true (struck-flow D c₁ _ _) (struck-flow D c₂ _ _))

-- A script has a derivation with every label condition struck out exactly if its command passes `shape`.
pub shape_iff : {L : Type 0} (D : Declarations L) (p : Script)
    → (shape D.shapes [] p.command ≡ true) ↔ Derivable struck (unlabelled D) p
unfolding types labels_bound
shape_iff D p = (
  (λ h. (safe_iff struck struck-laws (unlabelled D) _ [] p.command).1
      (record { shaped = h; flows = struck-flow (unlabelled D) p.command _ [] })),
  (λ d. ((safe_iff struck struck-laws (unlabelled D) _ [] p.command).0 d).shaped),
)

-- The number that the two tests give.

abbrev answer : Bool → Bool → ℕ
answer s f = cond s (cond f 0 6) 5

numbers : (s f : Bool) → (answer s f ≡ 0 → (s ≡ true) × (f ≡ true)) × (answer s f ≡ 5 → s ≡ false)
    × (answer s f ≡ 6 → (s ≡ true) × (f ≡ false))
numbers true true = ((λ h. (refl, refl)), (λ h. absurd (omega arith)), λ h. absurd (omega arith))
numbers true false = ((λ h. absurd (omega arith)), (λ h. absurd (omega arith)), λ h. (refl, refl))
numbers false f = ((λ h. absurd (omega arith)), (λ h. refl), λ h. absurd (omega arith))

number : {s f s' f' : Bool} → s ≡ s' → f ≡ f' → answer s f ≡ answer s' f'
number p q = rw (p, q)

module _ {L : Type 0} (𝓛 : Labels L) (law : LeastLabelLaws 𝓛) (D : Declarations L) where
  -- A command has a derivation under the surrounding label pc exactly if it passes `shape` and `flow` there.
  pub flow_iff : (pc : L) (c : Cmd)
      → ((shape D.shapes [] c ≡ true) × (flow (conditions 𝓛 D) pc [] c ≡ true)) ↔ Safe 𝓛 D pc [] c
  unfolding types labels_bound
  flow_iff pc c = (
    (λ h. (safe_iff 𝓛 law D pc [] c).1 (record { shaped = h.0; flows = h.1 })),
    (λ d. let a = (safe_iff 𝓛 law D pc [] c).0 d in (a.shaped, a.flows)),
  )

  -- what the two tests say of a script
  abbrev test_5 : Script → Bool
  test_5 p = shape D.shapes [] p.command

  abbrev test_6 : Script → Bool
  test_6 p = flow (conditions 𝓛 D) (start_of 𝓛 D p.opening.start) [] p.command

  -- A script has a derivation exactly if it passes both.
  pub script_iff : (p : Script) → ((test_5 p ≡ true) × (test_6 p ≡ true)) ↔ Derivable 𝓛 D p
  script_iff p = flow_iff (start_of 𝓛 D p.opening.start) p.command

  pub exactness : Exactness 𝓛 D
  unfolding refusal
  exactness = record {
    accepted = λ p. (
      (λ h. (script_iff p).0 ((numbers (test_5 p) _).0 h)),
      (λ d. let a = (script_iff p).1 d in number a.0 a.1),
    );
    refused_5 = λ p. (
      (λ h d. true≢false (sym ((shape_iff D p).1 d) ∙ (numbers (test_5 p) (test_6 p)).1 h)),
      (λ n. number {f = test_6 p} (not_so (test_5 p) (λ h. n ((shape_iff D p).0 h))) refl),
    );
    refused_6 = λ p. (
      (λ h. let n = (numbers (test_5 p) (test_6 p)).2 h in
          ((shape_iff D p).0 n.0, λ d. true≢false (sym ((script_iff p).1 d).1 ∙ n.1))),
      (λ n. number ((shape_iff D p).1 n.0)
          (not_so (test_6 p) (λ f. n.1 ((script_iff p).0 ((shape_iff D p).1 n.0, f))))),
    );
  }

pub least_labels : LeastLabels
least_labels L = least_label

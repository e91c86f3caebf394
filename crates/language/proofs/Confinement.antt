-- Under a surrounding label that an observer does not see, a command assigns to no location that it sees.
use mathlib.Core.Path.{◌≡◌, refl, ◌∙◌}
use mathlib.Core.Bool.{Bool, true, false, cond}
use mathlib.Core.List.{List, [], ◌∷◌}
use Prim.Native.Nat.{ℕ, zero, suc}
use lib.Dec.{eqb, eqb→eq}
use Rattle.language.specs.Syntax.{Value, Expr, Cmd, skip, seq, assign, while, case}
use Rattle.language.specs.World.{World, Mem}
use Rattle.language.specs.Substitution.{Env, close, inst, update}
use Rattle.language.specs.Figures.{Step, ec_assign, ec_seq_skip, ec_seq_struct, ec_while_false, ec_while_true}
use Rattle.language.specs.Figures.{ec_casel, ec_caser, Steps, s_none, s_more}
use Rattle.language.specs.Typing.{Conditions, least, flow}
use Rattle.language.specs.Theorems.{Observer, Confinement}
use Rattle.logic.proofs.BooleanLaws.{T_of, both_left, both_right, fails}

-- c assigns to no location that is seen
pub data Quiet (sees : ℕ → Bool) : Cmd → Type 0 where
  q_skip : Quiet sees skip
  q_seq : {a b : Cmd} → Quiet sees a → Quiet sees b → Quiet sees (seq a b)
  q_assign : {x : ℕ} {e : Expr} → ¬ (sees x ≡ true) → Quiet sees (assign x e)
  q_while : {e : Expr} {c : Cmd} → Quiet sees c → Quiet sees (while e c)
  q_case : {e : Expr} {a b : Cmd} → Quiet sees a → Quiet sees b → Quiet sees (case e a b)

put_same : (b : Bool) (v a : Value) → ¬ (b ≡ true) → cond b v a ≡ a
put_same true v a h = absurd (h refl)
put_same false v a h = refl

module _ (sees : ℕ → Bool) where
  -- an assignment to a location that is not seen
  pub update-unseen : (M : Mem) (x : ℕ) (v : Value) → ¬ (sees x ≡ true) → (y : ℕ) → sees y ≡ true → update M x v y ≡ M y
  unfolding update
  update-unseen M x v h y s = put_same (eqb x y) v (M y) λ e. h (rw (eqb→eq x y (T_of e)) s)

  quiet_close : (d : ℕ) (ρ : Env) {c : Cmd} → Quiet sees c → Quiet sees (close d ρ c)
  unfolding close
  quiet_close d ρ q_skip = q_skip
  quiet_close d ρ (q_seq a b) = q_seq (quiet_close d ρ a) (quiet_close d ρ b)
  quiet_close d ρ (q_assign h) = q_assign h
  quiet_close d ρ (q_while c) = q_while (quiet_close d ρ c)
  quiet_close d ρ (q_case a b) = q_case (quiet_close (suc d) ρ a) (quiet_close (suc d) ρ b)

  quiet_inst : (v : Value) {c : Cmd} → Quiet sees c → Quiet sees (inst v c)
  unfolding inst
  quiet_inst v q = quiet_close zero (v ∷ []) q

  -- a transition of a quiet command leaves a quiet one, and changes nothing that is seen
  quiet_step : (W : World) {M M' : Mem} {c c' : Cmd} → Step W M c M' c' → Quiet sees c
      → Quiet sees c' × ((y : ℕ) → sees y ≡ true → M' y ≡ M y)
  quiet_step W (ec_assign {M} {x} {v = v} p) (q_assign h) = (q_skip, update-unseen M x v h)
  quiet_step W ec_seq_skip (q_seq a b) = (b, λ y s. refl)
  quiet_step W (ec_seq_struct p) (q_seq a b) = let i = quiet_step W p a in (q_seq i.0 b, i.1)
  quiet_step W (ec_while_false p) (q_while c) = (q_skip, λ y s. refl)
  quiet_step W (ec_while_true p) (q_while c) = (q_seq c (q_while c), λ y s. refl)
  quiet_step W (ec_casel {v = v} p) (q_case a b) = (quiet_inst v a, λ y s. refl)
  quiet_step W (ec_caser {v = v} p) (q_case a b) = (quiet_inst v b, λ y s. refl)

  pub quiet_steps : (W : World) {k : ℕ} {M M' : Mem} {c c' : Cmd} → Quiet sees c → Steps W k M c M' c' → (x : ℕ)
      → sees x ≡ true → M' x ≡ M x
  quiet_steps W q s_none x s = refl
  quiet_steps W q (s_more p r) x s = let i = quiet_step W p q in quiet_steps W i.0 r x s ∙ i.1 x s

module _ {L : Type 0} (K : Conditions L) (W : World) (vis : L → Bool) (shows : ℕ → Bool)
    (O : Observer K W vis shows) where
  abbrev Sees : ℕ → Bool
  Sees x = vis (K.home x)

  pub unseen_quiet : (c : Cmd) (pc : L) (Γ : List L) → flow K pc Γ c ≡ true → ¬ (vis pc ≡ true) → Quiet Sees c
  unfolding flow
  unseen_quiet skip pc Γ f h = q_skip
  unseen_quiet (seq a b) pc Γ f h =
      q_seq (unseen_quiet a pc Γ (both_left _ _ f) h) (unseen_quiet b pc Γ (both_right _ _ f) h)
  unseen_quiet (assign x e) pc Γ f h = q_assign λ s. h (O.at_assign _ _ (both_right _ _ (both_right _ _ f)) s)
  unseen_quiet (while e c) pc Γ f h = q_while (unseen_quiet c _ _ (both_right _ _ f) (λ j. h (O.join_left _ _ j)))
  unseen_quiet (case e a b) pc Γ f h =
      q_case (unseen_quiet a _ _ (both_left _ _ (both_right _ _ f)) (λ j. h (O.join_left _ _ j)))
      (unseen_quiet b _ _ (both_right _ _ (both_right _ _ f)) (λ j. h (O.join_left _ _ j)))

  -- a loop whose guard is not seen
  pub while_quiet : (e : Expr) (c : Cmd) (pc : L) (Γ : List L) → flow K pc Γ (while e c) ≡ true
      → vis (least K Γ e) ≡ false → Quiet Sees (while e c)
  unfolding flow
  while_quiet e c pc Γ f h = q_while (unseen_quiet c _ _ (both_right _ _ f) (λ j. fails h (O.join_right _ _ j)))

  -- a case whose expression is not seen
  pub case_quiet : (e : Expr) (a b : Cmd) (pc : L) (Γ : List L) → flow K pc Γ (case e a b) ≡ true
      → vis (least K Γ e) ≡ false → Quiet Sees (case e a b)
  unfolding flow
  case_quiet e a b pc Γ f h =
      q_case (unseen_quiet a _ _ (both_left _ _ (both_right _ _ f)) (λ j. fails h (O.join_right _ _ j)))
      (unseen_quiet b _ _ (both_right _ _ (both_right _ _ f)) (λ j. fails h (O.join_right _ _ j)))

  pub confinement : Confinement K W vis
  confinement pc c f h k M M' c' s x v = quiet_steps Sees W (unseen_quiet c pc [] f h) s x v

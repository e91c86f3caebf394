-- Noninterference: what an observer sees of the memory that a done run leaves follows from what it sees before.
use mathlib.Core.Path.{◌≡◌, refl, sym, ◌∙◌, subst}
use mathlib.Core.Bool.{Bool, true, false, false≢true, cond}
use mathlib.Core.List.{List, [], ◌∷◌}
use Prim.Native.Nat.{ℕ, zero, suc, ◌+◌, ◌%◌, ◌^◌}
use native.Mathlib.Omega.{arith}
use lib.Dec.{eqb, eqb→eq}
use Rattle.language.specs.Syntax.{head_of, Value, int, err, inl, inr, pkg, Part, first, second, pick, has, Expr}
use Rattle.language.specs.Syntax.{val, loc, var, plus, left, right, pack, unpack, pairing, proj, Cmd}
use Rattle.language.specs.World.{World, Mem, wanted}
use Rattle.language.specs.Substitution.{Env, update}
use Rattle.language.specs.Declarations.{nth}
use Rattle.language.specs.View.{Equiv, ve_int, ve_err, ve_inl, ve_inr, ve_pack_in, ve_pack_lab, ve_pair, ve_blank}
use Rattle.language.specs.View.{EquivMem}
use Rattle.language.specs.Evaluation.{Res, ok, stuck, bind, fit, add, packed, opened, unpacked, part_of, lookup}
use Rattle.language.specs.Evaluation.{eval}
use Rattle.language.specs.Typing.{Conditions, or_else, least, flow_e, flow}
use Rattle.language.specs.Theorems.{Observer, ExpressionNoninterference, Noninterference}
use Rattle.logic.proofs.BooleanLaws.{T_of, both_left, both_right, cases, not_so}
use Rattle.language.proofs.Results.{by_fit, by_add, bind_ok}
use Rattle.language.proofs.Agreement.{star_ok}
use Rattle.language.proofs.Masking.{equiv_refl, has_equiv, equiv_of_view, view_of_equiv}
use Rattle.language.proofs.Confinement.{Quiet, q_seq, q_assign, q_while, q_case, update-unseen, while_quiet}
use Rattle.language.proofs.Confinement.{case_quiet}
use Rattle.language.proofs.Derivations.{Run, r_skip, r_seq, r_assign, r_go, r_end, r_left, r_right, derivation}

-- Results.

ok_path : {v w : Value} → ok v ≡ ok w → v ≡ w
ok_path h = cc

never : {v : Value} {A : Type 0} → stuck ≡ ok v → A
never h = absurd (let z : ◌≡◌ {A = ℕ} 0 1 = cc in omega arith)

fit_ok : (v w : Value) → fit v ≡ ok w → v ≡ w
fit_ok v w = by_fit (λ r. r ≡ ok w → v ≡ w) v (λ s h. cc) (λ s h. cc)

add_ok : (u v w : Value) → add v w ≡ ok u → (m : ℕ) × (n : ℕ) × (v ≡ int m) × (w ≡ int n) × (u ≡ int ((m + n) % 2 ^ 32))
add_ok u = by_add (λ v w r. r ≡ ok u → (m : ℕ) × (n : ℕ) × (v ≡ int m) × (w ≡ int n) × (u ≡ int ((m + n) % 2 ^ 32)))
    (λ m n h. (m, n, refl, refl, sym (fit_ok _ _ h))) (λ v w e h. never h)

-- Two results are equivalent, unless one of them is no value.
abbrev pub Agree : (ℕ → Bool) → Res → Res → Type 0
Agree shows r s = (v w : Value) → r ≡ ok v → s ≡ ok w → Equiv shows v w

module _ (shows : ℕ → Bool) where
  agree_bind : (r s : Res) (f g : Value → Res) → ((v w : Value) → r ≡ ok v → s ≡ ok w → Agree shows (f v) (g w))
      → Agree shows (bind r f) (bind s g)
  agree_bind r s f g k v w p q =
      let a = bind_ok r f v p in
      let b = bind_ok s g w q in
      k a.0 b.0 a.1 b.1 v w a.2 b.2

  agree_fit : {v w : Value} → Equiv shows v w → Agree shows (fit v) (fit w)
  agree_fit {v} {w} h a b p q = rw (← fit_ok v a p, ← fit_ok w b q) h

  same_int : {m n : ℕ} → Equiv shows (int m) (int n) → m ≡ n
  same_int ve_int = refl

  agree_add : {v w v' w' : Value} → Equiv shows v w → Equiv shows v' w' → Agree shows (add v v') (add w w')
  agree_add {v} {w} {v'} {w'} h k u z p q =
      let a = add_ok u v v' p in
      let b = add_ok z w w' q in
      let m : a.0 ≡ b.0 = same_int (rw (a.2, b.2) at h) in
      let n : a.1 ≡ b.1 = same_int (rw (a.3, b.3) at k) in
      rw (a.4, b.4, m, n) ve_int

  agree_error : {e : ℕ} → Agree shows (ok (inr (err e))) (ok (inr (err e)))
  agree_error {e} v w p q =
      subst (λ z. Equiv shows z w) (ok_path p) (subst (Equiv shows (inr (err e))) (ok_path q) (ve_inr ve_err))

  agree_pack : (b : Bool) (l : ℕ) {v w : Value} → Equiv shows (pkg (head_of l) v) (pkg (head_of l) w)
      → Agree shows (packed b l v) (packed b l w)
  unfolding packed
  agree_pack true l h = agree_fit (ve_inl h)
  agree_pack false l h = agree_error

  agree_open : (a b c : Bool) {v w : Value} → Equiv shows v w → Agree shows (opened a b c v) (opened a b c w)
  unfolding opened
  agree_open false b c h = agree_error
  agree_open true false c h = agree_error
  agree_open true true false h = agree_error
  agree_open true true true h = agree_fit (ve_inl h)

  -- an unpack whose flow is illegal tells nothing of the content
  agree_illegal : (a c d : Bool) (v w : Value) → Agree shows (opened a false c v) (opened a false d w)
  unfolding opened
  agree_illegal false c d v w = agree_error
  agree_illegal true c d v w = agree_error

  -- a package whose label is below a seen one shows its content
  agree_unpack : (W : World) (t m : ℕ) → ((l : ℕ) → W.below l m ≡ true → shows l ≡ true) → {v w : Value}
      → Equiv shows v w
      → Agree shows (unpacked W t m v) (unpacked W t m w)
  unfolding unpacked
  agree_unpack W t m s ve_int = λ a b p q. never p
  agree_unpack W t m s ve_err = λ a b p q. never p
  agree_unpack W t m s (ve_inl h) = λ a b p q. never p
  agree_unpack W t m s (ve_inr h) = λ a b p q. never p
  agree_unpack W t m s (ve_pack_in {h} {v₂ = w} e) =
      rw (has_equiv shows e (wanted (W.ty t)))
      (agree_open (W.reads m) (W.below h.label m) (has w (wanted (W.ty t))) e)
  agree_unpack W t m s (ve_pack_lab {h} {v₁} {v₂} e) =
      rw (not_so (W.below h.label m) (λ b. false≢true (sym e ∙ s h.label b)))
      (agree_illegal (W.reads m) (has v₁ (wanted (W.ty t))) (has v₂ (wanted (W.ty t))) v₁ v₂)
  agree_unpack W t m s (ve_pair h k) = λ a b p q. never p
  agree_unpack W t m s ve_blank = λ a b p q. never p

  equiv_part : (p : Part) {v w v' w' : Value} → Equiv shows v w → Equiv shows v' w'
      → Equiv shows (pick p v v') (pick p w w')
  unfolding pick
  equiv_part first h k = h
  equiv_part second h k = k

  agree_part : (p : Part) {v w : Value} → Equiv shows v w → Agree shows (part_of p v) (part_of p w)
  unfolding part_of
  agree_part p ve_int = λ a b q r. never q
  agree_part p ve_err = λ a b q r. never q
  agree_part p (ve_inl h) = λ a b q r. never q
  agree_part p (ve_inr h) = λ a b q r. never q
  agree_part p (ve_pack_in h) = λ a b q r. never q
  agree_part p (ve_pack_lab h) = λ a b q r. never q
  agree_part p (ve_pair h k) = λ a b q r. rw (← ok_path q, ← ok_path r) (equiv_part p h k)
  agree_part p ve_blank = λ a b q r. never q

  un_inl : {v w : Value} → Equiv shows (inl v) (inl w) → Equiv shows v w
  un_inl (ve_inl h) = h

  un_inr : {v w : Value} → Equiv shows (inr v) (inr w) → Equiv shows v w
  un_inr (ve_inr h) = h

  no_lr : {v w : Value} → ¬ Equiv shows (inl v) (inr w)
  no_lr = elim [ ]

  no_rl : {v w : Value} → ¬ Equiv shows (inr v) (inl w)
  no_rl = elim [ ]

  put_alike : (b : Bool) {v w a c : Value} → (b ≡ true → Equiv shows v w) → Equiv shows a c
      → Equiv shows (cond b v a) (cond b w c)
  put_alike true h k = h refl
  put_alike false h k = k

-- a derivation of a quiet command changes nothing that is seen
quiet_run : (sees : ℕ → Bool) (W : World) {ρ : Env} {M N : Mem} {c : Cmd} → Run W ρ M c N → Quiet sees c → (x : ℕ)
    → sees x ≡ true → N x ≡ M x
quiet_run sees W r_skip q x s = refl
quiet_run sees W (r_seq r t) (q_seq a b) x s = quiet_run sees W t b x s ∙ quiet_run sees W r a x s
quiet_run sees W (r_assign {M = M} {x = y} {v = v} p) (q_assign h) x s = update-unseen sees M y v h x s
quiet_run sees W (r_go p r t) (q_while c) x s = quiet_run sees W t (q_while c) x s ∙ quiet_run sees W r c x s
quiet_run sees W (r_end p) q x s = refl
quiet_run sees W (r_left p r) (q_case a b) x s = quiet_run sees W r a x s
quiet_run sees W (r_right p r) (q_case a b) x s = quiet_run sees W r b x s

module _ {L : Type 0} (K : Conditions L) (W : World) (vis : L → Bool) (shows : ℕ → Bool)
    (O : Observer K W vis shows) where
  abbrev Sees : ℕ → Bool
  Sees x = vis (K.home x)

  -- Bound values that the observer sees are equivalent.
  pub data EquivEnv : List L → Env → Env → Type 0 where
    env_none : EquivEnv [] [] []
    env_more : {l : L} {Γ : List L} {v w : Value} {ρ σ : Env} → (vis l ≡ true → Equiv shows v w) → EquivEnv Γ ρ σ
        → EquivEnv (l ∷ Γ) (v ∷ ρ) (w ∷ σ)

  ni_var : {Γ : List L} {ρ σ : Env} → EquivEnv Γ ρ σ → (i : ℕ) → vis (or_else K.bot (nth Γ i)) ≡ true
      → Agree shows (lookup ρ i) (lookup σ i)
  unfolding lookup nth or_else
  ni_var env_none i h = λ v w p q. never p
  ni_var (env_more s es) zero h = λ v w p q. rw (← ok_path p, ← ok_path q) (s h)
  ni_var (env_more s es) (suc i) h = ni_var es i h

  ni_pack : (l : ℕ) (c b : Bool) (r s : Res) → shows l ≡ b → (b ≡ true → Agree shows r s)
      → Agree shows (bind r (λ v. packed c l v)) (bind s (λ v. packed c l v))
  ni_pack l c true r s e h = agree_bind shows r s _ _ λ v w p q. agree_pack shows c l (ve_pack_in (h refl v w p q))
  ni_pack l c false r s e h = agree_bind shows r s _ _ λ v w p q. agree_pack shows c l (ve_pack_lab e)

  module _ {Γ : List L} {ρ σ : Env} {M N : Mem} (es : EquivEnv Γ ρ σ) (ms : EquivMem Sees shows M N) where
    -- an expression whose least label is seen has equivalent values
    pub ni_expr : (e : Expr) → flow_e K Γ e ≡ true → vis (least K Γ e) ≡ true
        → Agree shows (eval W ρ M e) (eval W σ N e)
    unfolding flow_e least eval
    ni_expr (val v) f h = λ a b p q. rw (← ok_path p, ← ok_path q) (equiv_refl shows v)
    ni_expr (loc x) f h = λ a b p q. rw (← ok_path p, ← ok_path q) (ms x h)
    ni_expr (var i) f h = ni_var es i h
    ni_expr (plus a b) f h =
        agree_bind shows _ _ _ _ λ v w p q. agree_bind shows _ _ _ _ λ v' w' p' q'.
        agree_add shows (ni_expr a (both_left _ _ f) (O.join_left _ _ h) v w p q)
        (ni_expr b (both_right _ _ f) (O.join_right _ _ h) v' w' p' q')
    ni_expr (left t a) f h = agree_bind shows _ _ _ _ λ v w p q. agree_fit shows (ve_inl (ni_expr a f h v w p q))
    ni_expr (right t a) f h = agree_bind shows _ _ _ _ λ v w p q. agree_fit shows (ve_inr (ni_expr a f h v w p q))
    ni_expr (pack l a) f h = ni_pack l (W.writes l) (shows l) _ _ refl λ k.
        ni_expr a (both_left _ _ f) (O.at_pack l _ (both_right _ _ f) h k)
    ni_expr (unpack t l a) f h =
        agree_bind shows _ _ _ _ λ v w p q.
        agree_unpack shows W t l (λ m b. O.content l m _ h b)
        (ni_expr a (both_left _ _ f) (O.at_unpack l _ (both_right _ _ f) h) v w p q)
    ni_expr (pairing t a b) f h =
        agree_bind shows _ _ _ _ λ v w p q. agree_bind shows _ _ _ _ λ v' w' p' q'.
        agree_fit shows (ve_pair (ni_expr a (both_left _ _ f) (O.join_left _ _ h) v w p q)
        (ni_expr b (both_right _ _ f) (O.join_right _ _ h) v' w' p' q'))
    ni_expr (proj p a) f h = agree_bind shows _ _ _ _ λ v w q r. agree_part shows p (ni_expr a f h v w q r)

  pub expression_noninterference : ExpressionNoninterference K W vis shows
  expression_noninterference e f t M N s v w p n q o =
      ni_expr env_none (equiv_of_view Sees shows M N s) e f t v w (star_ok W M p n) (star_ok W N q o)

  -- two runs that go by an expression with the label l, which change nothing that is seen unless l is seen
  by_label : {M N M' N' : Mem} {ρ σ : Env} {c : Cmd} (l : L) → EquivMem Sees shows M N → (vis l ≡ false → Quiet Sees c)
      → Run W ρ M c M' → Run W σ N c N'
      → (vis l ≡ true → EquivMem Sees shows M' N') → EquivMem Sees shows M' N'
  by_label l ms q r r' f =
      cases (vis l) f λ h x s. rw (quiet_run Sees W r (q h) x s, quiet_run Sees W r' (q h) x s) (ms x s)

  -- Derivations from equivalent memories leave equivalent memories.
  pub ni_run : (Γ : List L) (pc : L) {ρ σ : Env} {M N M' N' : Mem} {c : Cmd} → EquivEnv Γ ρ σ → EquivMem Sees shows M N
      → flow K pc Γ c ≡ true
      → Run W ρ M c M' → Run W σ N c N' → EquivMem Sees shows M' N'
  unfolding flow update
  ni_run Γ pc es ms f r_skip r_skip = ms
  ni_run Γ pc es ms f (r_seq r q) (r_seq r' q') =
      ni_run Γ pc es (ni_run Γ pc es ms (both_left _ _ f) r r') (both_right _ _ f) q q'
  ni_run Γ pc es ms f (r_assign {x = y} {e} p) (r_assign p') = λ x s.
      put_alike _ (eqb y x) (λ b.
      let t : vis (K.home y) ≡ true = rw (eqb→eq y x (T_of b)) s in
      ni_expr es ms e (both_left _ _ f) (O.at_assign _ _ (both_left _ _ (both_right _ _ f)) t) _ _ p p')
      (ms x s)
  ni_run Γ pc es ms f (r_go {e = e} {c} p r q) (r_go p' r' q') =
      by_label (least K Γ e) ms (while_quiet K W vis shows O e c pc Γ f) (r_go p r q) (r_go p' r' q') λ t.
      ni_run Γ pc es (ni_run Γ (K.join pc (least K Γ e)) es ms (both_right _ _ f) r r') f q q'
  ni_run Γ pc es ms f (r_go {e = e} {c} p r q) (r_end p') =
      by_label (least K Γ e) ms (while_quiet K W vis shows O e c pc Γ f) (r_go p r q) (r_end p') λ t.
      absurd (no_lr _ (ni_expr es ms e (both_left _ _ f) t _ _ p p'))
  ni_run Γ pc es ms f (r_end {e = e} {c} p) (r_go p' r' q') =
      by_label (least K Γ e) ms (while_quiet K W vis shows O e c pc Γ f) (r_end p) (r_go p' r' q') λ t.
      absurd (no_rl _ (ni_expr es ms e (both_left _ _ f) t _ _ p p'))
  ni_run Γ pc es ms f (r_end p) (r_end p') = ms
  ni_run Γ pc es ms f (r_left {e = e} {a} {b} p r) (r_left p' r') =
      by_label (least K Γ e) ms (case_quiet K W vis shows O e a b pc Γ f) (r_left p r) (r_left p' r') λ t.
      ni_run (least K Γ e ∷ Γ) (K.join pc (least K Γ e))
      (env_more (λ _. un_inl _ (ni_expr es ms e (both_left _ _ f) t _ _ p p')) es) ms
      (both_left _ _ (both_right _ _ f)) r r'
  ni_run Γ pc es ms f (r_left {e = e} {a} {b} p r) (r_right p' r') =
      by_label (least K Γ e) ms (case_quiet K W vis shows O e a b pc Γ f) (r_left p r) (r_right p' r') λ t.
      absurd (no_lr _ (ni_expr es ms e (both_left _ _ f) t _ _ p p'))
  ni_run Γ pc es ms f (r_right {e = e} {a} {b} p r) (r_left p' r') =
      by_label (least K Γ e) ms (case_quiet K W vis shows O e a b pc Γ f) (r_right p r) (r_left p' r') λ t.
      absurd (no_rl _ (ni_expr es ms e (both_left _ _ f) t _ _ p p'))
  ni_run Γ pc es ms f (r_right {e = e} {a} {b} p r) (r_right p' r') =
      by_label (least K Γ e) ms (case_quiet K W vis shows O e a b pc Γ f) (r_right p r) (r_right p' r') λ t.
      ni_run (least K Γ e ∷ Γ) (K.join pc (least K Γ e))
      (env_more (λ _. un_inr _ (ni_expr es ms e (both_left _ _ f) t _ _ p p')) es) ms
      (both_right _ _ (both_right _ _ f)) r r'

  pub noninterference : Noninterference K W vis shows
  noninterference pc c f b b' l l' M N M' N' s p q =
      view_of_equiv Sees shows M' N' (ni_run [] pc env_none (equiv_of_view Sees shows M N s) f
      (derivation W b l M M' c p) (derivation W b' l' N N' c q))

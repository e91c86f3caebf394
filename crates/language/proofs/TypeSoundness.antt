-- Type soundness: a command that passes `shape`, in a well-typed memory, always has a rule, and keeps the
-- memory well-typed.
use mathlib.Core.Path.{◌≡◌, refl, sym, ◌∙◌, subst}
use mathlib.Core.Bool.{Bool, true, false}
use mathlib.Core.Option.{some}
use mathlib.Core.List.{List, [], ◌∷◌}
use Prim.Native.Nat.{ℕ, zero, suc}
use Rattle.language.specs.Syntax.{Ty, t_int, t_err, t_pkg, t_sum, t_pair, head_of, Value, int, inl, inr, pkg, pair}
use Rattle.language.specs.Syntax.{Part, first, second, pick, has, Expr, Cmd, skip, seq, assign, while, case}
use Rattle.language.specs.World.{World, Mem, wanted}
use Rattle.language.specs.Substitution.{Env, close}
use Rattle.language.specs.Declarations.{Shapes, nth, WellTyped}
use Rattle.language.specs.Evaluation.{Res, bind, fit, add, packed, opened, unpacked, part_of, lookup, eval}
use Rattle.language.specs.Transition.{Next, too_long, no_rule, at_seq, branch, step, wrong}
use Rattle.language.specs.Typing.{shape}
use Rattle.language.specs.Theorems.{SameTypes, TypeSoundness}
use Rattle.logic.proofs.BooleanLaws.{both_left, both_right, both_true, fails}
use Rattle.language.proofs.Results.{by_fit, holds_bind, Good, by_add, by_unpacked, by_part, by_branch}
use Rattle.language.proofs.Types.{on_sum_path, HasType, h_int, h_loc, h_var, h_plus, h_left, h_right, h_pack}
use Rattle.language.proofs.Types.{h_unpack, h_pair, h_proj, has_type, is_type_lem}
use Rattle.logic.proofs.OptionLaws.{none_some, some_path}
use Rattle.language.proofs.Substitution.{inst-close, close_none, eval-close}
use Rattle.language.proofs.Traces.{Trace, Stops, stops_wrong, iterate_stops, steps_trace}
use Rattle.language.proofs.Configurations.{Config, ConfigNext, config_seq, config_assign, config_trace}
use Rattle.language.proofs.Configurations.{config_done}

-- Expressions.

good_bind : (t u : Ty) (r : Res) (f : Value → Res) → Good t r → ((v : Value) → has v t ≡ true → Good u (f v))
    → Good u (bind r f)
good_bind t u = holds_bind (λ v. has v t ≡ true) (λ v. has v u ≡ true) ⊥

good_fit : (t : Ty) (v : Value) → has v t ≡ true → Good t (fit v)
good_fit t v h = by_fit (Good t) v (λ s. h) (λ s. tt)

good_add : (v w : Value) → has v t_int ≡ true → has w t_int ≡ true → Good t_int (add v w)
unfolding has
good_add =
    by_add (λ v w r. has v t_int ≡ true → has w t_int ≡ true → Good t_int r) (λ m n h k. good_fit t_int (int _) refl)
    (λ v w e h k. fails e (both_true h k))

good_pack : (b : Bool) (l : ℕ) (v : Value) → Good (t_sum t_pkg t_err) (packed b l v)
unfolding packed has
good_pack true l v = good_fit (t_sum t_pkg t_err) (inl (pkg (head_of l) v)) refl
good_pack false l v = refl

good_open : (t : Ty) (a b c : Bool) (v : Value) → has v t ≡ c → Good (t_sum t t_err) (opened a b c v)
unfolding opened has
good_open t false b c v h = refl
good_open t true false c v h = refl
good_open t true true false v h = refl
good_open t true true true v h = good_fit (t_sum t t_err) (inl v) h

wanted_left : {s t : Ty} → s ≡ t_sum t t_err → wanted s ≡ t
unfolding wanted
wanted_left p = rw p refl

good_unpack : (W : World) (t : Ty) (n l : ℕ) (v : Value) → wanted (W.ty n) ≡ t → has v t_pkg ≡ true
    → Good (t_sum t t_err) (unpacked W n l v)
good_unpack W t n l v p q = by_unpacked (λ v r. has v t_pkg ≡ true → Good (t_sum t t_err) r) W n l
    (λ h v q. rw p (good_open t (W.reads l) (W.below h.label l) (has v t) v refl)) (λ v e q. fails e q) v q

has_part : (p : Part) (a b : Ty) (v w : Value) → has (pair v w) (t_pair a b) ≡ true
    → has (pick p v w) (pick p a b) ≡ true
unfolding has pick
has_part first a b v w h = both_left _ _ h
has_part second a b v w h = both_right _ _ h

good_part : (p : Part) (a b : Ty) (v : Value) → has v (t_pair a b) ≡ true → Good (pick p a b) (part_of p v)
good_part p a b = by_part (λ v r. has v (t_pair a b) ≡ true → Good (pick p a b) r) p (λ v w h. has_part p a b v w h)
    (λ v e h. fails (e a b) h)

-- the values of an environment have the types that a context holds
pub data EnvTyped : List Ty → Env → Type 0 where
  env_none : EnvTyped [] []
  env_more : {t : Ty} {Γ : List Ty} {v : Value} {ρ : Env} → has v t ≡ true → EnvTyped Γ ρ → EnvTyped (t ∷ Γ) (v ∷ ρ)

good_var : {Γ : List Ty} {ρ : Env} → EnvTyped Γ ρ → (i : ℕ) (t : Ty) → nth Γ i ≡ some t → Good t (lookup ρ i)
unfolding nth lookup
good_var env_none i t h = none_some h
good_var (env_more {v = v} k o) zero t h = subst (λ s. has v s ≡ true) (some_path h) k
good_var (env_more k o) (suc i) t h = good_var o i t h

module _ (S : Shapes) (W : World) (agree : SameTypes S W) where
  module _ {Γ : List Ty} {ρ : Env} (o : EnvTyped Γ ρ) (M : Mem) (m : WellTyped S M) where
    -- An expression that has a type evaluates to a value of it, or is too long.
    pub good_eval : {e : Expr} {t : Ty} → HasType S Γ e t → Good t (eval W ρ M e)
    unfolding eval has
    good_eval h_int = refl
    good_eval (h_loc {x}) = m x
    good_eval (h_var {d} h) = good_var o d _ h
    good_eval (h_plus {a} {b} h k) = good_bind t_int t_int (eval W ρ M a) _ (good_eval h) λ v p.
        good_bind t_int t_int (eval W ρ M b) _ (good_eval k) λ w q. good_add v w p q
    good_eval (h_left {e = e} {a} {b} p h) =
        good_bind a _ (eval W ρ M e) _ (good_eval h) λ v k. good_fit (t_sum a b) (inl v) k
    good_eval (h_right {e = e} {a} {b} p h) =
        good_bind b _ (eval W ρ M e) _ (good_eval h) λ v k. good_fit (t_sum a b) (inr v) k
    good_eval (h_pack {l} {e} {t} h) = good_bind t _ (eval W ρ M e) _ (good_eval h) λ v k. good_pack (W.writes l) l v
    good_eval (h_unpack {n} {l} {e} {t} p h) = good_bind t_pkg _ (eval W ρ M e) _ (good_eval h) λ v k.
        good_unpack W t n l v (wanted_left (agree n ∙ p)) k
    good_eval (h_pair {e = e} {f} {a} {b} p h k) = good_bind a _ (eval W ρ M e) _ (good_eval h) λ v i.
        good_bind b _ (eval W ρ M f) _ (good_eval k) λ w j. good_fit (t_pair a b) (pair v w) (both_true i j)
    good_eval (h_proj {p} {e} {a} {b} h) =
        good_bind (t_pair a b) _ (eval W ρ M e) _ (good_eval h) λ v k. good_part p a b v k

  -- Commands on the way: closed by an environment, or one after another.
  pub data OnWay : Cmd → Type 0 where
    closed : {c' : Cmd} {Γ : List Ty} {ρ : Env} (c : Cmd) → EnvTyped Γ ρ → shape S Γ c ≡ true
        → c' ≡ close zero ρ c → OnWay c'
    one_after : {a b : Cmd} → OnWay a → OnWay b → OnWay (seq a b)

  -- a well-typed configuration
  abbrev pub Fine : Mem → Cmd → Type 0
  Fine M c = Config (λ x v. has v (S.loc_ty x) ≡ true) OnWay ⊥ M c

  -- what follows a well-typed configuration: there is a rule, and it leads to another
  abbrev pub FineNext : Next → Type 0
  FineNext n = ConfigNext (λ x v. has v (S.loc_ty x) ≡ true) OnWay ⊥ n

  skip_fine : OnWay skip
  unfolding close shape
  skip_fine = closed skip env_none refl refl

  fine_branch : (s t : Ty) (l r : Value → Next) (q : Res) → Good (t_sum s t) q
      → ((v : Value) → has v s ≡ true → FineNext (l v))
      → ((v : Value) → has v t ≡ true → FineNext (r v)) → FineNext (branch l r too_long no_rule q)
  unfolding has
  fine_branch s t l r q g h k =
      by_branch (λ q n. Good (t_sum s t) q → FineNext n) h k (λ g. tt) (λ q o e g. o s t g) q g

  fine_seq : (M : Mem) {c : Cmd} → WellTyped S M → OnWay c → (n : Next) → FineNext n → FineNext (at_seq M c n)
  fine_seq M m u = config_seq _ _ _ (λ _ _ p q. one_after p q) M _ (record { memory = m; command = u })

  fine_closed : (M : Mem) → WellTyped S M → (c : Cmd) {Γ : List Ty} {ρ : Env} → EnvTyped Γ ρ → shape S Γ c ≡ true
      → FineNext (step W M (close zero ρ c))
  unfolding step close shape
  fine_closed M m skip o s = tt
  fine_closed M m (seq a b) o s =
      fine_seq M m (closed b o (both_right _ _ s) refl) _ (fine_closed M m a o (both_left _ _ s))
  fine_closed M m (assign x e) {ρ = ρ} o s =
      config_assign _ _ _ skip_fine M x _ m (rw (eval-close W M ρ e) (good_eval o M m (is_type_lem _ _ s)))
  fine_closed M m (while e c) {ρ = ρ} o s =
      fine_branch t_int t_int _ _ _ (rw (eval-close W M ρ e) (good_eval o M m (is_type_lem _ _ (both_left _ _ s))))
      (λ v h.
      record { memory = m; command = one_after (closed c o (both_right _ _ s) refl) (closed (while e c) o s refl) })
      (λ v h. record { memory = m; command = skip_fine })
  fine_closed M m (case e a b) {ρ = ρ} o s =
      let p = on_sum_path _ _ s in
      fine_branch p.0 p.1 _ _ _ (rw (eval-close W M ρ e) (good_eval o M m (has_type _ _ e p.2)))
      (λ v h. record { memory = m; command = closed a (env_more h o) (both_left _ _ p.3) (inst-close v ρ a) })
      (λ v h. record { memory = m; command = closed b (env_more h o) (both_right _ _ p.3) (inst-close v ρ b) })

  pub fine_step : (M : Mem) → WellTyped S M → {c : Cmd} → OnWay c → FineNext (step W M c)
  unfolding step
  fine_step M m (closed c o s e) = rw e (fine_closed M m c o s)
  fine_step M m (one_after a b) = fine_seq M m b _ (fine_step M m a)

  fine : (M : Mem) (c : Cmd) → Fine M c → FineNext (step W M c)
  fine M c i = fine_step M i.memory i.command

  pub has_rule : (M : Mem) (c : Cmd) → Fine M c → ¬ (step W M c ≡ no_rule)
  has_rule M c i h = subst FineNext h (fine M c i)

  pub trace_fine : {k : ℕ} {M M' : Mem} {c c' : Cmd} → Trace W k M c M' c' → Fine M c → Fine M' c'
  trace_fine = config_trace _ _ _ W fine

  pub start_fine : (M : Mem) (c : Cmd) → WellTyped S M → shape S [] c ≡ true → Fine M c
  start_fine M c m s = record { memory = m; command = closed c env_none s (sym (close_none zero c)) }

  never_stops : {b : ℕ} {M : Mem} {c : Cmd} → Fine M c → ¬ Stops W b M c wrong
  never_stops i (stops_wrong l e t h) = has_rule _ _ (trace_fine t i) h

  pub type_soundness : TypeSoundness S W
  type_soundness = record {
    never_wrong = λ c s M m b h. never_stops (start_fine M c m s) (subst (Stops W b M c) h (iterate_stops W b M c));
    done_typed = λ c s M m b l M' h. (config_done _ _ _ W fine b h (start_fine M c m s)).memory;
    reached_typed = λ c s M m k M' c' p n.
        let i = trace_fine (steps_trace W p n) (start_fine M c m s) in
        (i.memory, has_rule M' c' i);
  }

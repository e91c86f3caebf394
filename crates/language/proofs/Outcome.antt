-- The outcome of `iterate` is the one by which the run of the figures ends, and `step` is too long exactly where the
-- figures meet a value that is too long.
use mathlib.Core.Path.{◌≡◌, refl, sym, ◌∙◌, subst}
use mathlib.Core.Bool.{true}
use mathlib.Core.List.{List, [], ◌∷◌}
use Prim.Native.Nat.{ℕ, zero, suc, ◌≤◌, ◌<◌}
use native.Mathlib.Omega.{arith}
use Rattle.language.specs.Syntax.{Ty, Value, int, size, Expr, Cmd, skip, seq, assign, while, case}
use Rattle.language.specs.World.{World, Mem}
use Rattle.language.specs.Figures.{Steps, s_none, LongExpr, long_value, in_plus1, in_plus2, in_left, in_right}
use Rattle.language.specs.Figures.{in_pack, in_unpack, in_pair1, in_pair2, in_proj, LongStep, in_assign, in_seq}
use Rattle.language.specs.Figures.{in_while, in_case, NoneLong}
use Rattle.language.specs.Declarations.{Shapes, Fitting}
use Rattle.language.specs.Evaluation.{Res, ok, long, stuck, eval}
use Rattle.language.specs.Transition.{Next, final, to, too_long, no_rule, at_seq, at_assign, branch, step, Out}
use Rattle.language.specs.Transition.{done, spent, over, after, run, iterate}
use Rattle.language.specs.Typing.{shape}
use Rattle.language.specs.Theorems.{SameTypes, RunEnds, ends_done, ends_spent, ends_over, LongExact, Outcome}
use Rattle.logic.proofs.BooleanLaws.{both_left, both_right}
use Rattle.language.proofs.Types.{on_sum_path, HasType, h_int, h_loc, h_var, h_plus, h_left, h_right, h_pack}
use Rattle.language.proofs.Types.{h_unpack, h_pair, h_proj, has_type, is_type_lem}
use Rattle.language.proofs.Agreement.{agreement, Refines, same, was_long, star_eval}
use Rattle.language.proofs.Determinacy.{after_first}
use Rattle.language.proofs.Results.{bind_ok}
use Rattle.language.proofs.Interpreter.{run-skip}
use Rattle.language.proofs.Traces.{Trace, t_none, t_more, Stops, stops_done, stops_spent, stops_over}
use Rattle.language.proofs.Traces.{stops_wrong, iterate_stops, trace_run, trace_steps, steps_trace}
use Rattle.language.proofs.Invariants.{Fits, Anywhere, fits_kept, UsesE, u_val, u_loc, u_var, u_plus, u_left}
use Rattle.language.proofs.Invariants.{u_right, u_pack, u_unpack, u_pair, u_proj, Uses, u_skip, u_seq, u_assign}
use Rattle.language.proofs.Invariants.{u_while, u_case, all_none, Has, Through, keeps_eval, through}
use Rattle.language.proofs.Configurations.{config_step, config_trace}
use Rattle.language.proofs.TypeSoundness.{Fine, has_rule, trace_fine, start_fine}

-- No value of a script that passes `shape` is too long: its literals are integers.

fits_expr : {S : Shapes} {Γ : List Ty} {e : Expr} {t : Ty} → HasType S Γ e t → UsesE Fits Anywhere e
unfolding size
fits_expr (h_int {n}) = u_val {v = int n} (omega arith)
fits_expr h_loc = u_loc
fits_expr (h_var h) = u_var
fits_expr (h_plus a b) = u_plus (fits_expr a) (fits_expr b)
fits_expr (h_left p e) = u_left (fits_expr e)
fits_expr (h_right p e) = u_right (fits_expr e)
fits_expr (h_pack e) = u_pack tt (fits_expr e)
fits_expr (h_unpack p e) = u_unpack (fits_expr e)
fits_expr (h_pair p a b) = u_pair (fits_expr a) (fits_expr b)
fits_expr (h_proj e) = u_proj (fits_expr e)

pub fits_cmd : (S : Shapes) (Γ : List Ty) (c : Cmd) → shape S Γ c ≡ true → Uses Fits Anywhere c
unfolding shape
fits_cmd S Γ skip s = u_skip
fits_cmd S Γ (seq a b) s = u_seq (fits_cmd S Γ a (both_left _ _ s)) (fits_cmd S Γ b (both_right _ _ s))
fits_cmd S Γ (assign x e) s = u_assign (fits_expr (is_type_lem S Γ s))
fits_cmd S Γ (while e c) s = u_while (fits_expr (is_type_lem S Γ (both_left _ _ s))) (fits_cmd S Γ c (both_right _ _ s))
fits_cmd S Γ (case e a b) s =
    let p = on_sum_path _ _ s in
    u_case (fits_expr (has_type S Γ e p.2)) (fits_cmd S (p.0 ∷ Γ) a (both_left _ _ p.3))
    (fits_cmd S (p.1 ∷ Γ) b (both_right _ _ p.3))

-- Where `eval` has a value, no part of the expression is too long.

refines_ok : {r : Res} {v w : Value} → Refines long r (ok v) → r ≡ ok w → r ≡ ok v
refines_ok same h = refl
refines_ok was_long h = absurd (let z : ◌≡◌ {A = ℕ} 0 1 = cc in omega arith)

too_many_lem : {n m : ℕ} → n ≤ m → m < n → ⊥
too_many_lem h k = omega arith

module _ (W : World) (M : Mem) (m : Fitting M) where
  not_long_expr : {e : Expr} {w : Value} → LongExpr W M e → UsesE Fits Anywhere e → ¬ (eval W [] M e ≡ ok w)
  unfolding eval
  not_long_expr (long_value p s) u h = too_many_lem (subst (Has Fits Anywhere) (refines_ok (star_eval W M p) h)
      (keeps_eval Fits Anywhere fits_kept W all_none m u)) s
  not_long_expr (in_plus1 l) (u_plus a b) h = not_long_expr l a (bind_ok _ _ _ h).1
  not_long_expr (in_plus2 l) (u_plus a b) h = not_long_expr l b (bind_ok _ _ _ (bind_ok _ _ _ h).2).1
  not_long_expr (in_left l) (u_left a) h = not_long_expr l a (bind_ok _ _ _ h).1
  not_long_expr (in_right l) (u_right a) h = not_long_expr l a (bind_ok _ _ _ h).1
  not_long_expr (in_pack l) (u_pack n a) h = not_long_expr l a (bind_ok _ _ _ h).1
  not_long_expr (in_unpack l) (u_unpack a) h = not_long_expr l a (bind_ok _ _ _ h).1
  not_long_expr (in_pair1 l) (u_pair a b) h = not_long_expr l a (bind_ok _ _ _ h).1
  not_long_expr (in_pair2 l) (u_pair a b) h = not_long_expr l b (bind_ok _ _ _ (bind_ok _ _ _ h).2).1
  not_long_expr (in_proj l) (u_proj a) h = not_long_expr l a (bind_ok _ _ _ h).1

  -- the step goes on to a configuration, or there is none
  abbrev Goes : Next → Type 0
  Goes final = Unit {0}
  Goes (to M' c') = Unit {0}
  Goes too_long = ⊥
  Goes no_rule = ⊥

  goes_seq : (c : Cmd) (n : Next) → Goes (at_seq M c n) → Goes n
  unfolding at_seq
  goes_seq c final h = tt
  goes_seq c (to M' c') h = tt
  goes_seq c too_long h = h
  goes_seq c no_rule h = h

  goes_assign : (x : ℕ) (r : Res) → Goes (at_assign M x r) → (v : Value) × (r ≡ ok v)
  unfolding at_assign
  goes_assign x (ok v) h = (v, refl)
  goes_assign x long h = absurd h
  goes_assign x stuck h = absurd h

  goes_branch : (l r : Value → Next) (s : Res) → Goes (branch l r too_long no_rule s) → (v : Value) × (s ≡ ok v)
  unfolding branch
  goes_branch l r (ok v) h = (v, refl)
  goes_branch l r long h = absurd h
  goes_branch l r stuck h = absurd h

  not_long-step : {c : Cmd} → LongStep W M c → Uses Fits Anywhere c → ¬ Goes (step W M c)
  unfolding step
  not_long-step (in_assign {x} l) (u_assign u) h = not_long_expr l u (goes_assign x _ h).1
  not_long-step (in_seq {c₂ = b} l) (u_seq a b') h = not_long-step l a (goes_seq b _ h)
  not_long-step (in_while l) (u_while u c) h = not_long_expr l u (goes_branch _ _ _ h).1
  not_long-step (in_case l) (u_case u a b) h = not_long_expr l u (goes_branch _ _ _ h).1

  -- `step` is too long where the figures meet a value that is too long, unless it has no rule
  long_is : (n : Next) → ¬ Goes n → ¬ (n ≡ no_rule) → n ≡ too_long
  long_is final g r = absurd (g tt)
  long_is (to M' c') g r = absurd (g tt)
  long_is too_long g r = refl
  long_is no_rule g r = absurd (r refl)

module _ (S : Shapes) (W : World) (agree : SameTypes S W) where
  abbrev Fit : Mem → Cmd → Type 0
  Fit M c = Through Fits Anywhere M c

  keep : {k : ℕ} {M M' : Mem} {c c' : Cmd} → Trace W k M c M' c' → Fit M c → Fit M' c'
  keep = config_trace _ _ _ W (through Fits Anywhere fits_kept W)

  to_long : {M M₁ : Mem} {c c₁ : Cmd} → Fit M c → step W M c ≡ to M₁ c₁ → ¬ LongStep W M c
  to_long {M = M} f h l = not_long-step W M f.memory l f.command (subst (Goes W M f.memory) (sym h) tt)

  zero-long : {M M₁ : Mem} {c c₁ : Cmd} → Steps W zero M c M₁ c₁ → LongStep W M₁ c₁ → LongStep W M c
  zero-long s_none l = l

  -- No step of a trace meets a value that is too long.
  trace_none_long : {k : ℕ} {M M' : Mem} {c c' : Cmd} → Trace W k M c M' c' → Fit M c → NoneLong W k M c
  trace_none_long t_none f j M₁ c₁ lt s l = omega arith
  trace_none_long (t_more h t) f zero M₁ c₁ lt s l = to_long f h (zero-long s l)
  trace_none_long (t_more h t) f (suc j) M₁ c₁ lt s l =
      trace_none_long t (config_step _ _ _ W (through Fits Anywhere fits_kept W) h f) j M₁ c₁ (omega arith)
      (after_first W ((agreement W).has_rule _ _ _ _ h) s) l

  -- From `iterate` to the figures.
  stops_ends : {b : ℕ} {M : Mem} {c : Cmd} {o : Out} → Fine S W agree M c → Fit M c → Stops W b M c o
      → RunEnds W b M c o
  stops_ends i f (stops_done e t) = ends_done e (trace_steps W t) (trace_none_long t f)
  stops_ends i f (stops_spent t n) = ends_spent (trace_steps W t) n (trace_none_long t f)
  stops_ends i f (stops_over e t h) = ends_over e (trace_steps W t) ((agreement W).is_long _ _ h) (trace_none_long t f)
  stops_ends i f (stops_wrong l e t h) = absurd (has_rule S W agree _ _ (trace_fine S W agree t i) h)

  -- From the figures to `iterate`.
  skip_done : (l : ℕ) (M : Mem) → iterate W l M skip ≡ done M l
  unfolding iterate
  skip_done l M = run-skip l W done M

  spent_now : (M : Mem) (c : Cmd) → ¬ (c ≡ skip) → iterate W zero M c ≡ spent
  unfolding iterate run after
  spent_now M c h = on (step W M c) refl
    where
      on : (n : Next) → step W M c ≡ n → after (λ M' c'. spent) done spent spent M zero n ≡ spent
      on final e = absurd (h ((agreement W).skip_alone M c e))
      on (to M' c') e = refl
      on too_long e = refl
      on no_rule e = refl

  over_now : (l : ℕ) (M : Mem) (c : Cmd) → step W M c ≡ too_long → iterate W (suc l) M c ≡ over (suc l)
  unfolding iterate run after
  over_now l M c h = rw h refl

  long_now : (M : Mem) (c : Cmd) → Fine S W agree M c → Fit M c → LongStep W M c → step W M c ≡ too_long
  long_now M c i f l =
      long_is W M f.memory (step W M c) (not_long-step W M f.memory l f.command) (has_rule S W agree M c i)

  ends_iterate : {b : ℕ} {M : Mem} {c : Cmd} {o : Out} → Fine S W agree M c → Fit M c → RunEnds W b M c o
      → iterate W b M c ≡ o
  ends_iterate {b} i f (ends_done {k} {l} {M'} e s n) = trace_run W l b (steps_trace W s n) e ∙ skip_done l M'
  ends_iterate {b} i f (ends_spent {M'} {c'} s h n) =
      trace_run W zero b (steps_trace W s n) (omega arith) ∙ spent_now M' c' h
  ends_iterate {b} i f (ends_over {k} {l} {M'} {c'} e s h n) =
      let t = steps_trace W s n in
      trace_run W (suc l) b t e ∙ over_now l M' c' (long_now M' c' (trace_fine S W agree t i) (keep t f) h)

  start_fit : (M : Mem) (c : Cmd) → Fitting M → shape S [] c ≡ true → Fit M c
  start_fit M c g s = record { memory = g; command = fits_cmd S [] c s }

  pub long_exact : LongExact S W
  long_exact c s M m g k M' c' p n =
      let t = steps_trace W p n in (
        (agreement W).is_long M' c',
        long_now M' c' (trace_fine S W agree t (start_fine S W agree M c m s)) (keep t (start_fit M c g s)),
      )

  pub outcome : Outcome S W
  outcome c s M m g b o =
      let i = start_fine S W agree M c m s in
      let f = start_fit M c g s in
      ((λ h. subst (RunEnds W b M c) h (stops_ends i f (iterate_stops W b M c))), (λ e. ends_iterate i f e))

-- A run is a trace of `step`: how many transitions it has, and how it stops.
use mathlib.Core.Path.{◌≡◌, refl, ap, sym, ◌∙◌, subst}
use Prim.Native.Nat.{ℕ, zero, suc, ◌+◌}
use native.Mathlib.Omega.{arith}
use Rattle.language.specs.Syntax.{Cmd, skip}
use Rattle.language.specs.World.{World, Mem}
use Rattle.language.specs.Figures.{Steps, s_none, s_more, NoneLong}
use Rattle.language.specs.Transition.{Next, final, to, too_long, no_rule, step, Out, done, spent, over, wrong}
use Rattle.language.specs.Transition.{after, run, iterate}
use Rattle.language.proofs.Agreement.{agreement}

-- k transitions that `step` gives
pub data Trace (W : World) : ℕ → Mem → Cmd → Mem → Cmd → Type 0 where
  t_none : {M : Mem} {c : Cmd} → Trace W zero M c M c
  t_more : {k : ℕ} {M M₁ M' : Mem} {c c₁ c' : Cmd} → step W M c ≡ to M₁ c₁ → Trace W k M₁ c₁ M' c'
      → Trace W (suc k) M c M' c'

-- How a run within the budget b stops, by `step`.
pub data Stops (W : World) (b : ℕ) (M : Mem) (c : Cmd) : Out → Type 0 where
  stops_done : {k l : ℕ} {M' : Mem} → k + l ≡ b → Trace W k M c M' skip → Stops W b M c (done M' l)
  stops_spent : {M' : Mem} {c' : Cmd} → Trace W b M c M' c' → ¬ (c' ≡ skip) → Stops W b M c spent
  stops_over : {k l : ℕ} {M' : Mem} {c' : Cmd} → k + suc l ≡ b → Trace W k M c M' c' → step W M' c' ≡ too_long
      → Stops W b M c (over (suc l))
  stops_wrong : {k : ℕ} {M' : Mem} {c' : Cmd} (l : ℕ) → k + suc l ≡ b → Trace W k M c M' c' → step W M' c' ≡ no_rule
      → Stops W b M c wrong

module _ (W : World) where
  skip-final : (M : Mem) (c : Cmd) → c ≡ skip → step W M c ≡ final
  unfolding step
  skip-final M c e = rw e refl

  -- n is not final if that were 0 = 1
  not_skip : (M : Mem) (c : Cmd) {n : Next} → step W M c ≡ n → (final ≡ n → ◌≡◌ {A = ℕ} 0 1) → ¬ (c ≡ skip)
  not_skip M c h k e =
      let z : ◌≡◌ {A = ℕ} 0 1 = k (sym (skip-final M c e) ∙ h) in
      omega arith

  -- one transition before a run
  stops_more : {b : ℕ} {M M₁ : Mem} {c c₁ : Cmd} {o : Out} → step W M c ≡ to M₁ c₁ → Stops W b M₁ c₁ o
      → Stops W (suc b) M c o
  stops_more h (stops_done {k} {l} e t) = stops_done {k = suc k} {l = l} (omega arith) (t_more h t)
  stops_more h (stops_spent t n) = stops_spent (t_more h t) n
  stops_more h (stops_over {k} {l} e t s) = stops_over {k = suc k} {l = l} (omega arith) (t_more h t) s
  stops_more h (stops_wrong {k} l e t s) = stops_wrong {k = suc k} l (omega arith) (t_more h t) s

  done_now : (b : ℕ) {M : Mem} {c : Cmd} → step W M c ≡ final → Stops W b M c (done M b)
  done_now b {M} {c} h =
      let t : Trace W zero M c M skip = subst (λ x. Trace W zero M c M x) ((agreement W).skip_alone M c h) t_none in
      stops_done {k = zero} {l = b} (omega arith) t

  run_stops : (b : ℕ) (M : Mem) (c : Cmd) → Stops W b M c (run b W done M c)
  unfolding run after
  run_stops zero M c = on (step W M c) refl
    where
      on : (n : Next) → step W M c ≡ n → Stops W zero M c (after (λ M' c'. spent) done spent spent M zero n)
      on final h = done_now zero h
      on (to M' c') h = stops_spent t_none (not_skip M c h λ e. cc)
      on too_long h = stops_spent t_none (not_skip M c h λ e. cc)
      on no_rule h = stops_spent t_none (not_skip M c h λ e. cc)
  run_stops (suc b) M c = on (λ M' c'. run_stops b M' c') (step W M c) refl
    where
      on : ((M' : Mem) (c' : Cmd) → Stops W b M' c' (run b W done M' c')) → (n : Next) → step W M c ≡ n
          → Stops W (suc b) M c (after (λ M' c'. run b W done M' c') done (over (suc b)) wrong M (suc b) n)
      on ih final h = done_now (suc b) h
      on ih (to M' c') h = stops_more h (ih M' c')
      on ih too_long h = stops_over {k = zero} {l = b} (omega arith) t_none h
      on ih no_rule h = stops_wrong {k = zero} b (omega arith) t_none h

  -- How `iterate` stops.
  pub iterate_stops : (b : ℕ) (M : Mem) (c : Cmd) → Stops W b M c (iterate W b M c)
  unfolding iterate
  iterate_stops b M c = run_stops b M c

  -- A run goes on from where a trace ends.
  pub trace_run : {k : ℕ} {M M' : Mem} {c c' : Cmd} (l b : ℕ) → Trace W k M c M' c' → k + l ≡ b
      → iterate W b M c ≡ iterate W l M' c'
  unfolding iterate run after
  trace_run l b (t_none {M} {c}) e =
      let q : b ≡ l = omega arith in
      ap (λ n. run n W done M c) q
  trace_run l b (t_more {k} {M} {c = c} h t) e =
      let q : b ≡ suc (k + l) = omega arith in
      ap (λ n. run n W done M c) q ∙ rw h (trace_run l (k + l) t refl)

  -- The transitions of a trace are figure 3's.
  pub trace_steps : {k : ℕ} {M M' : Mem} {c c' : Cmd} → Trace W k M c M' c' → Steps W k M c M' c'
  trace_steps t_none = s_none
  trace_steps (t_more h t) = s_more ((agreement W).has_rule _ _ _ _ h) (trace_steps t)

  -- Figure 3's transitions are a trace where none meets a value that is too long.
  pub steps_trace : {k : ℕ} {M M' : Mem} {c c' : Cmd} → Steps W k M c M' c' → NoneLong W k M c → Trace W k M c M' c'
  steps_trace s_none n = t_none
  steps_trace (s_more {k} {M} {c = c} s p) n =
      t_more ((agreement W).is_step _ _ _ _ s (λ h. n zero M c (omega arith) s_none ((agreement W).is_long M c h)))
      (steps_trace p (λ j M' c' lt q. n (suc j) M' c' (omega arith) (s_more s q)))

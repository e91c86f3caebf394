-- A run that reaches skip, as a derivation over an environment.
use mathlib.Core.Path.{◌≡◌, refl, subst}
use mathlib.Core.List.{[], ◌∷◌}
use Prim.Native.Nat.{ℕ, zero, suc, ◌≤◌, ◌<◌}
use native.Mathlib.Omega.{arith}
use Rattle.language.specs.Syntax.{Value, inl, inr, Expr, Cmd, skip, seq, assign, while, case}
use Rattle.language.specs.World.{World, Mem}
use Rattle.language.specs.Substitution.{Env, close, update}
use Rattle.language.specs.Evaluation.{Res, ok, long, stuck, eval}
use Rattle.language.specs.Transition.{Out, done, spent, over, wrong, run, iterate}
use Rattle.language.proofs.Substitution.{close_none}
use Rattle.language.proofs.Interpreter.{next, run-skip, run-seq, run-while, run_case, run-assign, assigned}
use Rattle.language.proofs.Interpreter.{spend}
use Rattle.language.proofs.Results.{by_branch}

-- c, its variables bound by ρ, takes the first memory to the second
pub data Run (W : World) : Env → Mem → Cmd → Mem → Type 0 where
  r_skip : {ρ : Env} {M : Mem} → Run W ρ M skip M
  r_seq : {ρ : Env} {M N P : Mem} {a b : Cmd} → Run W ρ M a N → Run W ρ N b P → Run W ρ M (seq a b) P
  r_assign : {ρ : Env} {M : Mem} {x : ℕ} {e : Expr} {v : Value} → eval W ρ M e ≡ ok v
      → Run W ρ M (assign x e) (update M x v)
  r_go : {ρ : Env} {M N P : Mem} {e : Expr} {c : Cmd} {v : Value} → eval W ρ M e ≡ ok (inl v) → Run W ρ M c N
      → Run W ρ N (while e c) P
      → Run W ρ M (while e c) P
  r_end : {ρ : Env} {M : Mem} {e : Expr} {c : Cmd} {v : Value} → eval W ρ M e ≡ ok (inr v) → Run W ρ M (while e c) M
  r_left : {ρ : Env} {M N : Mem} {e : Expr} {a b : Cmd} {v : Value} → eval W ρ M e ≡ ok (inl v) → Run W (v ∷ ρ) M a N
      → Run W ρ M (case e a b) N
  r_right : {ρ : Env} {M N : Mem} {e : Expr} {a b : Cmd} {v : Value} → eval W ρ M e ≡ ok (inr v) → Run W (v ∷ ρ) M b N
      → Run W ρ M (case e a b) N

-- the run is done with the memory N
abbrev DoneWith : Mem → Out → Type 0
DoneWith N (done M l) = M ≡ N
DoneWith N spent = ⊥
DoneWith N (over l) = ⊥
DoneWith N wrong = ⊥

-- c was run to skip within the budget, and k then was done with N
record Reached (W : World) (b : ℕ) (k : Mem → ℕ → Out) (ρ : Env) (M : Mem) (c : Cmd) (N : Mem) : Type 0 where
  mem : Mem
  rest : ℕ
  fits : rest ≤ b
  run_of : Run W ρ M c mem
  then : DoneWith N (k mem rest)

module _ (W : World) (N : Mem) where
  abbrev Sounds : Env → Cmd → Type 0
  Sounds ρ c = (b : ℕ) (k : Mem → ℕ → Out) (M : Mem) → DoneWith N (run b W k M (close zero ρ c)) → Reached W b k ρ M c N

  -- a run of more, within a greater budget
  onward : {ρ σ : Env} {M P : Mem} {c d : Cmd} {b b' : ℕ} {k : Mem → ℕ → Out} → Reached W b k ρ M c N → b ≤ b'
      → ((m : Mem) → Run W ρ M c m → Run W σ P d m) → Reached W b' k σ P d N
  onward r le f = record { mem = r.mem; rest = r.rest; fits = omega arith; run_of = f _ r.run_of; then = r.then }

  -- from the first part of a sequence on to the second
  on_next : (ρ : Env) (c : Cmd) (b : ℕ) (k : Mem → ℕ → Out) (M : Mem)
      → ((b' : ℕ) → b' < b → DoneWith N (run b' W k M (close zero ρ c)) → Reached W b' k ρ M c N)
      → DoneWith N (next W k (close zero ρ c) M b) → Reached W b k ρ M c N
  unfolding next
  on_next ρ c zero k M h e = absurd e
  on_next ρ c (suc b) k M h e = onward (h b (omega arith) e) (omega arith) λ m r. r

  sound-seq : (ρ : Env) (a c : Cmd) → Sounds ρ a → Sounds ρ c → Sounds ρ (seq a c)
  unfolding close
  sound-seq ρ a c ha hc b k M e =
      let r : Reached W b (next W k (close zero ρ c)) ρ M a N =
      ha b _ M (rw (run-seq W k (close zero ρ c) b M (close zero ρ a)) at e) in
      onward (on_next ρ c r.rest k r.mem (λ b' l. hc b' k _) r.then) r.fits λ m q. r_seq r.run_of q

  sound-assign : (ρ : Env) (x : ℕ) (e : Expr) → Sounds ρ (assign x e)
  unfolding assigned spend
  sound-assign ρ x e zero k M h = absurd (rw (run-assign W k M ρ zero x e) at h)
  sound-assign ρ x e (suc b) k M h = on (eval W ρ M e) refl (rw (run-assign W k M ρ (suc b) x e) at h)
    where
      on : (r : Res) → eval W ρ M e ≡ r → DoneWith N (assigned (λ v. k (update M x v) b) b r)
          → Reached W (suc b) k ρ M (assign x e) N
      on (ok v) p h = record { mem = update M x v; rest = b; fits = omega arith; run_of = r_assign p; then = h }
      on long p h = absurd h
      on stuck p h = absurd h

  sound_case : (ρ : Env) (e : Expr) (a c : Cmd) → ((v : Value) → Sounds (v ∷ ρ) a) → ((v : Value) → Sounds (v ∷ ρ) c)
      → Sounds ρ (case e a c)
  unfolding spend
  sound_case ρ e a c ha hc zero k M h = absurd (rw (run_case W k M ρ zero e a c) at h)
  sound_case ρ e a c ha hc (suc b) k M h =
      by_branch (λ s o. eval W ρ M e ≡ s → DoneWith N o → Reached W (suc b) k ρ M (case e a c) N)
      (λ v p h. onward (ha v b k M h) (omega arith) λ m r. r_left p r)
      (λ v p h. onward (hc v b k M h) (omega arith) λ m r. r_right p r)
      (λ p h. absurd h) (λ s n e p h. absurd h) (eval W ρ M e) refl (rw (run_case W k M ρ (suc b) e a c) at h)

  sound-while : (ρ : Env) (e : Expr) (c : Cmd) → Sounds ρ c → (n b : ℕ) → b < n → (k : Mem → ℕ → Out) (M : Mem)
      → DoneWith N (run b W k M (close zero ρ (while e c))) → Reached W b k ρ M (while e c) N
  unfolding spend
  sound-while ρ e c hc zero b lt k M h = absurd (omega arith)
  sound-while ρ e c hc (suc n) zero lt k M h = absurd (rw (run-while W k M ρ zero e c) at h)
  sound-while ρ e c hc (suc n) (suc b) lt k M h =
      by_branch (λ s o. eval W ρ M e ≡ s → DoneWith N o → Reached W (suc b) k ρ M (while e c) N)
      (λ v p h.
      let r : Reached W b (next W k (close zero ρ (while e c))) ρ M c N = hc b _ M h in
      onward (on_next ρ (while e c) r.rest k r.mem (λ b' l. sound-while ρ e c hc n b' (omega arith) k r.mem)
      r.then) (omega arith)
      λ m q. r_go p r.run_of q)
      (λ v p h. record { mem = M; rest = b; fits = omega arith; run_of = r_end p; then = h })
      (λ p h. absurd h) (λ s n e p h. absurd h) (eval W ρ M e) refl (rw (run-while W k M ρ (suc b) e c) at h)

  sound : (c : Cmd) (ρ : Env) → Sounds ρ c
  unfolding close
  sound skip ρ b k M h =
      record { mem = M; rest = b; fits = omega arith; run_of = r_skip; then = rw (run-skip b W k M) at h }
  sound (seq a c) ρ b k M h = sound-seq ρ a c (sound a ρ) (sound c ρ) b k M h
  sound (assign x e) ρ b k M h = sound-assign ρ x e b k M h
  sound (while e c) ρ b k M h = sound-while ρ e c (sound c ρ) (suc b) b (omega arith) k M h
  sound (case e a c) ρ b k M h = sound_case ρ e a c (λ v. sound a (v ∷ ρ)) (λ v. sound c (v ∷ ρ)) b k M h

pub derivation : (W : World) (b l : ℕ) (M N : Mem) (c : Cmd) → iterate W b M c ≡ done N l → Run W [] M c N
unfolding iterate
derivation W b l M N c h =
    let e : DoneWith N (run b W done M (close zero [] c)) = rw (close_none zero c, h) refl in
    let r : Reached W b done [] M c N = sound W N c [] b done M e in
    subst (λ P. Run W [] M c P) r.then r.run_of

-- The equations of an interpreter with an environment. `go` is the run of a command whose variables ρ binds; each
-- equation gives it for one command by the runs of its parts.
use mathlib.Core.Path.{◌≡◌, refl, ap, sym, ◌∙◌, fun_ext}
use mathlib.Core.List.{◌∷◌}
use Prim.Native.Nat.{ℕ, zero, suc}
use Rattle.language.specs.Syntax.{Value, Expr, Cmd, skip, seq, assign, while, case}
use Rattle.language.specs.World.{World, Mem}
use Rattle.language.specs.Substitution.{Env, close, update}
use Rattle.language.specs.Evaluation.{Res, ok, long, stuck, eval}
use Rattle.language.specs.Transition.{Next, final, to, too_long, no_rule, at_seq, at_assign, branch, branch_v}
use Rattle.language.specs.Transition.{step, Out, done, spent, over, wrong, after, run, iterate}
use Rattle.language.proofs.Substitution.{inst-close, eval-close}
use Rattle.language.proofs.Results.{by_branch}

-- The run of c, its variables bound by ρ, from M within the budget b.
unfoldable pub go : World → Env → Cmd → Mem → ℕ → Out
go W ρ c M b = iterate W b M (close zero ρ c)

-- go on where a run is done
unfoldable pub and_then : Out → (Mem → ℕ → Out) → Out
and_then (done M b) k = k M b
and_then spent k = spent
and_then (over b) k = over b
and_then wrong k = wrong

-- one transition of the budget
unfoldable pub spend : ℕ → (ℕ → Out) → Out
spend zero f = spent
spend (suc b) f = f b

-- go on with the value of an expression; b is the rest of the budget after the transition
unfoldable pub assigned : (Value → Out) → ℕ → Res → Out
assigned f b (ok v) = f v
assigned f b long = over (suc b)
assigned f b stuck = wrong

-- go on with c after the transition that drops skip
unfoldable pub next : World → (Mem → ℕ → Out) → Cmd → Mem → ℕ → Out
next W k c M zero = spent
next W k c M (suc b) = run b W k M c

-- Runs with a continuation.

pub run-skip : (b : ℕ) (W : World) (k : Mem → ℕ → Out) (M : Mem) → run b W k M skip ≡ k M b
unfolding run step after
run-skip zero W k M = refl
run-skip (suc b) W k M = refl

module _ (W : World) (k : Mem → ℕ → Out) (c : Cmd) where
  after_seq : (r r' : Mem → Cmd → Out) (o w : Out) (b : ℕ) (M : Mem) → r M c ≡ next W k c M b
      → ((M' : Mem) (a : Cmd) → r M' (seq a c) ≡ r' M' a)
      → (n : Next) → after r k o w M b (at_seq M c n) ≡ after r' (next W k c) o w M b n
  unfolding after at_seq
  after_seq r r' o w b M h ih final = h
  after_seq r r' o w b M h ih (to M' c') = ih M' c'
  after_seq r r' o w b M h ih too_long = refl
  after_seq r r' o w b M h ih no_rule = refl

  pub run-seq : (b : ℕ) (M : Mem) (a : Cmd) → run b W k M (seq a c) ≡ run b W (next W k c) M a
  unfolding run step next
  run-seq zero M a = after_seq _ _ spent spent zero M refl (λ M' a'. refl) (step W M a)
  run-seq (suc b) M a = after_seq _ _ (over (suc b)) wrong (suc b) M refl (λ M' a'. run-seq b M' a') (step W M a)

-- the branch taken, after a function on its result
branch-after : (f : Next → Out) (l r : Value → Next) (t n : Next) (s : Res)
    → f (branch l r t n s) ≡ branch (λ v. f (l v)) (λ v. f (r v)) (f t) (f n) s
unfolding branch branch_v
branch-after f l r t n =
    by_branch (λ s x. f x ≡ branch (λ v. f (l v)) (λ v. f (r v)) (f t) (f n) s) (λ v. refl) (λ v. refl) refl
    (λ s o e. sym (e Out (λ v. f (l v)) (λ v. f (r v)) (f t) (f n)))

branch_cong : {l l' r r' : Value → Out} (t n : Out) (s : Res) → ((v : Value) → l v ≡ l' v) → ((v : Value) → r v ≡ r' v)
    → branch l r t n s ≡ branch l' r' t n s
branch_cong t n s p q = λ i. branch (λ v. p v i) (λ v. q v i) t n s

-- all branches alike: a function that is constant on them
branch_same : (o : Out) (s : Res) → branch (λ v. o) (λ v. o) o o s ≡ o
branch_same o s = sym (branch-after (λ n. o) (λ v. final) (λ v. final) final final s)

assign-after : (b : ℕ) (W : World) (k : Mem → ℕ → Out) (M : Mem) (x : ℕ) (r : Res)
    → after (λ M' c'. run b W k M' c') k (over (suc b)) wrong M (suc b) (at_assign M x r)
    ≡ assigned (λ v. k (update M x v) b) b r
unfolding after at_assign assigned
assign-after b W k M x (ok v) = run-skip b W k (update M x v)
assign-after b W k M x long = refl
assign-after b W k M x stuck = refl

assign-spent : (k : Mem → ℕ → Out) (M : Mem) (x : ℕ) (r : Res)
    → after (λ M' c'. spent) k spent spent M zero (at_assign M x r) ≡ spent
unfolding after at_assign
assign-spent k M x (ok v) = refl
assign-spent k M x long = refl
assign-spent k M x stuck = refl

module _ (W : World) (k : Mem → ℕ → Out) (M : Mem) where
  pub run-assign : (ρ : Env) (b x : ℕ) (e : Expr) → run b W k M (close zero ρ (assign x e))
      ≡ spend b (λ b'. assigned (λ v. k (update M x v) b') b' (eval W ρ M e))
  unfolding run step close spend
  run-assign ρ zero x e = assign-spent k M x _
  run-assign ρ (suc b) x e = rw (eval-close W M ρ e) (assign-after b W k M x (eval W ρ M e))

  pub run-while : (ρ : Env) (b : ℕ) (e : Expr) (c : Cmd) → run b W k M (close zero ρ (while e c))
      ≡ spend b (λ b'. branch (λ v. run b' W (next W k (close zero ρ (while e c))) M (close zero ρ c)) (λ v. k M b')
      (over (suc b')) wrong (eval W ρ M e))
  unfolding run step close after spend
  run-while ρ zero e c = branch-after (after (λ M' c'. spent) k spent spent M zero) _ _ _ _ _ ∙ branch_same spent _
  run-while ρ (suc b) e c = rw (eval-close W M ρ e)
      (branch-after (after (λ M' c'. run b W k M' c') k (over (suc b)) wrong M (suc b)) _ _ _ _ (eval W ρ M e)
      ∙ branch_cong _ _ (eval W ρ M e) (λ v. run-seq W k (close zero ρ (while e c)) b M (close zero ρ c))
      (λ v. run-skip b W k M))

  pub run_case : (ρ : Env) (b : ℕ) (e : Expr) (a c : Cmd) → run b W k M (close zero ρ (case e a c))
      ≡ spend b (λ b'. branch (λ v. run b' W k M (close zero (v ∷ ρ) a)) (λ v. run b' W k M (close zero (v ∷ ρ) c))
      (over (suc b')) wrong (eval W ρ M e))
  unfolding run step close after spend
  run_case ρ zero e a c = branch-after (after (λ M' c'. spent) k spent spent M zero) _ _ _ _ _ ∙ branch_same spent _
  run_case ρ (suc b) e a c = rw (eval-close W M ρ e)
      (branch-after (after (λ M' c'. run b W k M' c') k (over (suc b)) wrong M (suc b)) _ _ _ _ (eval W ρ M e)
      ∙ branch_cong _ _ (eval W ρ M e) (λ v. ap (run b W k M) (inst-close v ρ a))
      (λ v. ap (run b W k M) (inst-close v ρ c)))

-- A continuation can wait until the run is done.

module _ (W : World) (k : Mem → ℕ → Out) where
  after_then : (r r' : Mem → Cmd → Out) (o w : Out) (b : ℕ) (M : Mem)
      → ((M' : Mem) (c : Cmd) → r M' c ≡ and_then (r' M' c) k) → o ≡ and_then o k
      → w ≡ and_then w k → (n : Next) → after r k o w M b n ≡ and_then (after r' done o w M b n) k
  unfolding after and_then
  after_then r r' o w b M ih p q final = refl
  after_then r r' o w b M ih p q (to M' c') = ih M' c'
  after_then r r' o w b M ih p q too_long = p
  after_then r r' o w b M ih p q no_rule = q

  run-then : (b : ℕ) (M : Mem) (c : Cmd) → run b W k M c ≡ and_then (run b W done M c) k
  unfolding run and_then
  run-then zero M c = after_then _ _ spent spent zero M (λ M' c'. refl) refl refl (step W M c)
  run-then (suc b) M c =
      after_then _ _ (over (suc b)) wrong (suc b) M (λ M' c'. run-then b M' c') refl refl (step W M c)

-- The equations.

module _ (W : World) (ρ : Env) (M : Mem) where
  next_spend : (c : Cmd) (M' : Mem) (b : ℕ) → next W done (close zero ρ c) M' b ≡ spend b (λ b'. go W ρ c M' b')
  unfolding next spend go iterate
  next_spend c M' zero = refl
  next_spend c M' (suc b) = refl

  pub go_skip : (b : ℕ) → go W ρ skip M b ≡ done M b
  unfolding go iterate close
  go_skip b = run-skip b W done M

  then_next : (a c : Cmd) (b : ℕ) → run b W (next W done (close zero ρ c)) M (close zero ρ a)
      ≡ and_then (go W ρ a M b) (λ M' b'. spend b' (λ b''. go W ρ c M' b''))
  unfolding go iterate
  then_next a c b = run-then W (next W done (close zero ρ c)) b M (close zero ρ a)
      ∙ ap (and_then (run b W done M (close zero ρ a))) (fun_ext λ M'. fun_ext λ b'. next_spend c M' b')

  pub go_seq : (a c : Cmd) (b : ℕ)
      → go W ρ (seq a c) M b ≡ and_then (go W ρ a M b) (λ M' b'. spend b' (λ b''. go W ρ c M' b''))
  unfolding go iterate close
  go_seq a c b = run-seq W done (close zero ρ c) b M (close zero ρ a) ∙ then_next a c b

  pub go_assign : (x : ℕ) (e : Expr) (b : ℕ)
      → go W ρ (assign x e) M b ≡ spend b (λ b'. assigned (λ v. done (update M x v) b') b' (eval W ρ M e))
  unfolding go iterate
  go_assign x e b = run-assign W done M ρ b x e

  pub go_case : (e : Expr) (a c : Cmd) (b : ℕ) → go W ρ (case e a c) M b
      ≡ spend b
      (λ b'. branch (λ v. go W (v ∷ ρ) a M b') (λ v. go W (v ∷ ρ) c M b') (over (suc b')) wrong (eval W ρ M e))
  unfolding go iterate
  go_case e a c b = run_case W done M ρ b e a c

  -- A round of a loop: the guard, the body, and the loop again.
  pub go_while : (e : Expr) (c : Cmd) (b : ℕ) → go W ρ (while e c) M b
      ≡ spend b (λ b'. branch (λ v. and_then (go W ρ c M b') (λ M' b''. spend b'' (λ b'''. go W ρ (while e c) M' b''')))
      (λ v. done M b') (over (suc b')) wrong (eval W ρ M e))
  unfolding go iterate
  go_while e c b = run-while W done M ρ b e c
      ∙ ap (spend b) (fun_ext λ b'. branch_cong _ _ (eval W ρ M e) (λ v. then_next c (while e c) b') (λ v. refl))

-- Laws of substitution: an environment does what substitution does.
use mathlib.Core.Path.{◌≡◌, refl, ap, ap₂, ◌∙◌}
use mathlib.Core.List.{[], ◌∷◌}
use Prim.Native.Nat.{ℕ, zero, suc}
use Rattle.language.specs.Syntax.{Value, Expr, val, loc, var, plus, left, right, pack, unpack, pairing, proj, Cmd}
use Rattle.language.specs.Syntax.{skip, seq, assign, while, case}
use Rattle.language.specs.World.{World, Mem}
use Rattle.language.specs.Substitution.{Env, lift, close_var, close_e, close, inst}
use Rattle.language.specs.Evaluation.{lookup, eval}

lift-close : (d : ℕ) (v : Value) (x : Expr) → close_e (suc d) (v ∷ []) (lift x) ≡ lift (close_e d (v ∷ []) x)
unfolding close_e lift close_var
lift-close d v (val w) = refl
lift-close d v (loc x) = refl
lift-close d v (var i) = refl
lift-close d v (plus a b) = ap₂ plus (lift-close d v a) (lift-close d v b)
lift-close d v (left t a) = ap (left t) (lift-close d v a)
lift-close d v (right t a) = ap (right t) (lift-close d v a)
lift-close d v (pack l a) = ap (pack l) (lift-close d v a)
lift-close d v (unpack t l a) = ap (unpack t l) (lift-close d v a)
lift-close d v (pairing t a b) = ap₂ (pairing t) (lift-close d v a) (lift-close d v b)
lift-close d v (proj p a) = ap (proj p) (lift-close d v a)

drop-lift : (v : Value) (ρ : Env) (i : ℕ) → close_e zero (v ∷ []) (lift (close_var zero ρ i)) ≡ close_var zero ρ i
unfolding close_e lift close_var
drop-lift v [] i = refl
drop-lift v (w ∷ ρ) zero = refl
drop-lift v (w ∷ ρ) (suc i) = drop-lift v ρ i

inst-var : (d : ℕ) (v : Value) (ρ : Env) (i : ℕ) → close_e d (v ∷ []) (close_var (suc d) ρ i) ≡ close_var d (v ∷ ρ) i
unfolding close_e lift close_var
inst-var zero v ρ zero = refl
inst-var zero v ρ (suc i) = drop-lift v ρ i
inst-var (suc d) v ρ zero = refl
inst-var (suc d) v ρ (suc i) = lift-close d v (close_var (suc d) ρ i) ∙ ap lift (inst-var d v ρ i)

inst_expr : (d : ℕ) (v : Value) (ρ : Env) (e : Expr) → close_e d (v ∷ []) (close_e (suc d) ρ e) ≡ close_e d (v ∷ ρ) e
unfolding close_e
inst_expr d v ρ (val w) = refl
inst_expr d v ρ (loc x) = refl
inst_expr d v ρ (var i) = inst-var d v ρ i
inst_expr d v ρ (plus a b) = ap₂ plus (inst_expr d v ρ a) (inst_expr d v ρ b)
inst_expr d v ρ (left t a) = ap (left t) (inst_expr d v ρ a)
inst_expr d v ρ (right t a) = ap (right t) (inst_expr d v ρ a)
inst_expr d v ρ (pack l a) = ap (pack l) (inst_expr d v ρ a)
inst_expr d v ρ (unpack t l a) = ap (unpack t l) (inst_expr d v ρ a)
inst_expr d v ρ (pairing t a b) = ap₂ (pairing t) (inst_expr d v ρ a) (inst_expr d v ρ b)
inst_expr d v ρ (proj p a) = ap (proj p) (inst_expr d v ρ a)

inst_cmd : (d : ℕ) (v : Value) (ρ : Env) (c : Cmd) → close d (v ∷ []) (close (suc d) ρ c) ≡ close d (v ∷ ρ) c
unfolding close
inst_cmd d v ρ skip = refl
inst_cmd d v ρ (seq a b) = ap₂ seq (inst_cmd d v ρ a) (inst_cmd d v ρ b)
inst_cmd d v ρ (assign x e) = ap (assign x) (inst_expr d v ρ e)
inst_cmd d v ρ (while e c) = ap₂ while (inst_expr d v ρ e) (inst_cmd d v ρ c)
inst_cmd d v ρ (case e a b) = λ i. case (inst_expr d v ρ e i) (inst_cmd (suc d) v ρ a i) (inst_cmd (suc d) v ρ b i)

-- The branch of a case, closed by ρ below its own variable, with a value for that variable.
pub inst-close : (v : Value) (ρ : Env) (c : Cmd) → inst v (close (suc zero) ρ c) ≡ close zero (v ∷ ρ) c
unfolding inst
inst-close v ρ c = inst_cmd zero v ρ c

-- nothing to substitute
none_var : (d i : ℕ) → close_var d [] i ≡ var i
unfolding close_var lift
none_var zero i = refl
none_var (suc d) zero = refl
none_var (suc d) (suc i) = ap lift (none_var d i)

pub close_e_none : (d : ℕ) (e : Expr) → close_e d [] e ≡ e
unfolding close_e
close_e_none d (val w) = refl
close_e_none d (loc x) = refl
close_e_none d (var i) = none_var d i
close_e_none d (plus a b) = ap₂ plus (close_e_none d a) (close_e_none d b)
close_e_none d (left t a) = ap (left t) (close_e_none d a)
close_e_none d (right t a) = ap (right t) (close_e_none d a)
close_e_none d (pack l a) = ap (pack l) (close_e_none d a)
close_e_none d (unpack t l a) = ap (unpack t l) (close_e_none d a)
close_e_none d (pairing t a b) = ap₂ (pairing t) (close_e_none d a) (close_e_none d b)
close_e_none d (proj p a) = ap (proj p) (close_e_none d a)

pub close_none : (d : ℕ) (c : Cmd) → close d [] c ≡ c
unfolding close
close_none d skip = refl
close_none d (seq a b) = ap₂ seq (close_none d a) (close_none d b)
close_none d (assign x e) = ap (assign x) (close_e_none d e)
close_none d (while e c) = ap₂ while (close_e_none d e) (close_none d c)
close_none d (case e a b) = λ i. case (close_e_none d e i) (close_none (suc d) a i) (close_none (suc d) b i)

eval-var : (W : World) (M : Mem) (ρ : Env) (i : ℕ) → eval W [] M (close_var zero ρ i) ≡ lookup ρ i
unfolding close_var lookup eval
eval-var W M [] i = refl
eval-var W M (v ∷ ρ) zero = refl
eval-var W M (v ∷ ρ) (suc i) = eval-var W M ρ i

-- An expression closed by ρ has the value that it has in the environment ρ.
pub eval-close : (W : World) (M : Mem) (ρ : Env) (e : Expr) → eval W [] M (close_e zero ρ e) ≡ eval W ρ M e
unfolding close_e eval
eval-close W M ρ (val w) = refl
eval-close W M ρ (loc x) = refl
eval-close W M ρ (var i) = eval-var W M ρ i
eval-close W M ρ (plus a b) = rw (eval-close W M ρ a, eval-close W M ρ b)
eval-close W M ρ (left t a) = rw (eval-close W M ρ a)
eval-close W M ρ (right t a) = rw (eval-close W M ρ a)
eval-close W M ρ (pack l a) = rw (eval-close W M ρ a)
eval-close W M ρ (unpack t l a) = rw (eval-close W M ρ a)
eval-close W M ρ (pairing t a b) = rw (eval-close W M ρ a, eval-close W M ρ b)
eval-close W M ρ (proj p a) = rw (eval-close W M ρ a)

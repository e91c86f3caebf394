-- A property of values that evaluation keeps, runs keep: it holds of every value in every memory that a run reaches.
use mathlib.Core.Path.{◌≡◌}
use mathlib.Core.Bool.{Bool, true, false}
use mathlib.Core.List.{[], ◌∷◌}
use Prim.Native.Nat.{ℕ, zero, suc, ◌+◌, ◌%◌, ◌^◌, ◌≤◌, ◌<◌}
use native.Mathlib.Nat.{mod-lt}
use native.Mathlib.Omega.{arith}
use Rattle.language.specs.Syntax.{Head, head_of, Value, int, err, inl, inr, pkg, pair, Part, first, second, pick}
use Rattle.language.specs.Syntax.{size, has, Expr, val, loc, var, plus, left, right, pack, unpack, pairing, proj}
use Rattle.language.specs.Syntax.{Cmd, skip, seq, assign, while, case}
use Rattle.language.specs.World.{World, Mem, cell_words, wanted}
use Rattle.language.specs.Substitution.{Env, lift, close_var, close_e, close, inst}
use Rattle.language.specs.Evaluation.{Res, bind, fit, add, packed, opened, unpacked, part_of, lookup, eval}
use Rattle.language.specs.Transition.{Next, too_long, no_rule, branch, step, done, iterate}
use Rattle.language.proofs.Results.{by_fit, ResultHolds, holds_bind, by_add, by_unpacked, by_part, by_branch}
use Rattle.language.proofs.Configurations.{Config, ConfigNext, config_seq, config_assign, config_done}

-- P holds of what evaluation makes of values that have it. A pack may name the labels `named`.
pub record Kept (P : Value → Type 0) (named : ℕ → Type 0) : Type 0 where
  pub sum : (n : ℕ) → n < 2 ^ 32 → P (int n)
  pub error : (e : ℕ) → 1 ≤ e → e ≤ 3 → P (inr (err e))
  pub to_left : (v : Value) → P v → size (inl v) ≤ cell_words → P (inl v)
  pub to_right : (v : Value) → P v → size (inr v) ≤ cell_words → P (inr v)
  pub to_package : (l : ℕ) (v : Value) → named l → P v → size (inl (pkg (head_of l) v)) ≤ cell_words
      → P (inl (pkg (head_of l) v))
  pub from_left : (v : Value) → P (inl v) → P v
  pub from_right : (v : Value) → P (inr v) → P v
  pub to_pair : (v w : Value) → P v → P w → size (pair v w) ≤ cell_words → P (pair v w)
  pub from_package : (h : Head) (v : Value) → P (pkg h v) → P v
  pub from_pair : (p : Part) (v w : Value) → P (pair v w) → P (pick p v w)

-- P holds of the values in an expression, and its packs name such labels.
pub data UsesE (P : Value → Type 0) (named : ℕ → Type 0) : Expr → Type 0 where
  u_val : {v : Value} → P v → UsesE P named (val v)
  u_loc : {x : ℕ} → UsesE P named (loc x)
  u_var : {i : ℕ} → UsesE P named (var i)
  u_plus : {a b : Expr} → UsesE P named a → UsesE P named b → UsesE P named (plus a b)
  u_left : {t : ℕ} {a : Expr} → UsesE P named a → UsesE P named (left t a)
  u_right : {t : ℕ} {a : Expr} → UsesE P named a → UsesE P named (right t a)
  u_pack : {l : ℕ} {a : Expr} → named l → UsesE P named a → UsesE P named (pack l a)
  u_unpack : {t l : ℕ} {a : Expr} → UsesE P named a → UsesE P named (unpack t l a)
  u_pair : {t : ℕ} {a b : Expr} → UsesE P named a → UsesE P named b → UsesE P named (pairing t a b)
  u_proj : {p : Part} {a : Expr} → UsesE P named a → UsesE P named (proj p a)

pub data Uses (P : Value → Type 0) (named : ℕ → Type 0) : Cmd → Type 0 where
  u_skip : Uses P named skip
  u_seq : {a b : Cmd} → Uses P named a → Uses P named b → Uses P named (seq a b)
  u_assign : {x : ℕ} {e : Expr} → UsesE P named e → Uses P named (assign x e)
  u_while : {e : Expr} {c : Cmd} → UsesE P named e → Uses P named c → Uses P named (while e c)
  u_case : {e : Expr} {a b : Cmd} → UsesE P named e → Uses P named a → Uses P named b → Uses P named (case e a b)

pub data AllOf (P : Value → Type 0) : Env → Type 0 where
  all_none : AllOf P []
  all_more : {v : Value} {ρ : Env} → P v → AllOf P ρ → AllOf P (v ∷ ρ)

module _ (P : Value → Type 0) (named : ℕ → Type 0) where
  -- Substitution.

  uses_lift : {e : Expr} → UsesE P named e → UsesE P named (lift e)
  unfolding lift
  uses_lift (u_val h) = u_val h
  uses_lift u_loc = u_loc
  uses_lift u_var = u_var
  uses_lift (u_plus a b) = u_plus (uses_lift a) (uses_lift b)
  uses_lift (u_left a) = u_left (uses_lift a)
  uses_lift (u_right a) = u_right (uses_lift a)
  uses_lift (u_pack n a) = u_pack n (uses_lift a)
  uses_lift (u_unpack a) = u_unpack (uses_lift a)
  uses_lift (u_pair a b) = u_pair (uses_lift a) (uses_lift b)
  uses_lift (u_proj a) = u_proj (uses_lift a)

  uses_close-var : (d : ℕ) {ρ : Env} → AllOf P ρ → (i : ℕ) → UsesE P named (close_var d ρ i)
  unfolding close_var
  uses_close-var zero all_none i = u_var
  uses_close-var zero (all_more h r) zero = u_val h
  uses_close-var zero (all_more h r) (suc i) = uses_close-var zero r i
  uses_close-var (suc d) r zero = u_var
  uses_close-var (suc d) r (suc i) = uses_lift (uses_close-var d r i)

  uses_close_e : (d : ℕ) {ρ : Env} → AllOf P ρ → {e : Expr} → UsesE P named e → UsesE P named (close_e d ρ e)
  unfolding close_e
  uses_close_e d r (u_val h) = u_val h
  uses_close_e d r u_loc = u_loc
  uses_close_e d r (u_var {i}) = uses_close-var d r i
  uses_close_e d r (u_plus a b) = u_plus (uses_close_e d r a) (uses_close_e d r b)
  uses_close_e d r (u_left a) = u_left (uses_close_e d r a)
  uses_close_e d r (u_right a) = u_right (uses_close_e d r a)
  uses_close_e d r (u_pack n a) = u_pack n (uses_close_e d r a)
  uses_close_e d r (u_unpack a) = u_unpack (uses_close_e d r a)
  uses_close_e d r (u_pair a b) = u_pair (uses_close_e d r a) (uses_close_e d r b)
  uses_close_e d r (u_proj a) = u_proj (uses_close_e d r a)

  uses_close : (d : ℕ) {ρ : Env} → AllOf P ρ → {c : Cmd} → Uses P named c → Uses P named (close d ρ c)
  unfolding close
  uses_close d r u_skip = u_skip
  uses_close d r (u_seq a b) = u_seq (uses_close d r a) (uses_close d r b)
  uses_close d r (u_assign e) = u_assign (uses_close_e d r e)
  uses_close d r (u_while e c) = u_while (uses_close_e d r e) (uses_close d r c)
  uses_close d r (u_case e a b) = u_case (uses_close_e d r e) (uses_close (suc d) r a) (uses_close (suc d) r b)

  uses_inst : (v : Value) {c : Cmd} → P v → Uses P named c → Uses P named (inst v c)
  unfolding inst
  uses_inst v h c = uses_close zero (all_more h all_none) c

  -- Evaluation.

  -- where there is a value, P holds of it
  abbrev pub Has : Res → Type 0
  Has r = ResultHolds P Unit r

  has_fit : (v : Value) → (size v ≤ cell_words → P v) → Has (fit v)
  has_fit v h = by_fit Has v h (λ s. tt)

  abbrev has_bind : (r : Res) (f : Value → Res) → Has r → ((v : Value) → P v → Has (f v)) → Has (bind r f)
  has_bind = holds_bind P P Unit

  -- P holds throughout a configuration
  abbrev pub Through : Mem → Cmd → Type 0
  Through M c = Config (λ x. P) (Uses P named) Unit M c

  module _ (kept : Kept P named) (W : World) where
    has_add : (v w : Value) → Has (add v w)
    has_add = by_add (λ v w r. Has r)
        (λ m n. has_fit (int ((m + n) % 2 ^ 32)) λ s. kept.sum _ (mod-lt (m + n) (omega arith))) (λ v w e. tt)

    has_pack : (b : Bool) (l : ℕ) (v : Value) → named l → P v → Has (packed b l v)
    unfolding packed
    has_pack true l v n h = has_fit (inl (pkg (head_of l) v)) (kept.to_package l v n h)
    has_pack false l v n h = kept.error 1 (omega arith) (omega arith)

    has_open : (a b c : Bool) (v : Value) → P v → Has (opened a b c v)
    unfolding opened
    has_open false b c v h = kept.error 1 (omega arith) (omega arith)
    has_open true false c v h = kept.error 2 (omega arith) (omega arith)
    has_open true true false v h = kept.error 3 (omega arith) (omega arith)
    has_open true true true v h = has_fit (inl v) (kept.to_left v h)

    has_unpack : (t l : ℕ) (v : Value) → P v → Has (unpacked W t l v)
    has_unpack t l = by_unpacked (λ v r. P v → Has r) W t l
        (λ h v p. has_open (W.reads l) (W.below h.label l) (has v (wanted (W.ty t))) v (kept.from_package h v p))
        (λ v e p. tt)

    has_part : (p : Part) (v : Value) → P v → Has (part_of p v)
    has_part p = by_part (λ v r. P v → Has r) p (λ v w h. kept.from_pair p v w h) (λ v e h. tt)

    has_lookup : {ρ : Env} → AllOf P ρ → (i : ℕ) → Has (lookup ρ i)
    unfolding lookup
    has_lookup all_none i = tt
    has_lookup (all_more h r) zero = h
    has_lookup (all_more h r) (suc i) = has_lookup r i

    -- Evaluation keeps P.
    pub keeps_eval : {ρ : Env} {M : Mem} → AllOf P ρ → ((x : ℕ) → P (M x)) → {e : Expr} → UsesE P named e
        → Has (eval W ρ M e)
    unfolding eval
    keeps_eval r m (u_val h) = h
    keeps_eval r m (u_loc {x}) = m x
    keeps_eval r m (u_var {i}) = has_lookup r i
    keeps_eval r m (u_plus a b) =
        has_bind _ _ (keeps_eval r m a) λ v h. has_bind _ _ (keeps_eval r m b) λ w k. has_add v w
    keeps_eval r m (u_left a) = has_bind _ _ (keeps_eval r m a) λ v h. has_fit (inl v) (kept.to_left v h)
    keeps_eval r m (u_right a) = has_bind _ _ (keeps_eval r m a) λ v h. has_fit (inr v) (kept.to_right v h)
    keeps_eval r m (u_pack {l} n a) = has_bind _ _ (keeps_eval r m a) λ v h. has_pack (W.writes l) l v n h
    keeps_eval r m (u_unpack {t} {l} a) = has_bind _ _ (keeps_eval r m a) λ v h. has_unpack t l v h
    keeps_eval r m (u_pair a b) = has_bind _ _ (keeps_eval r m a) λ v h. has_bind _ _ (keeps_eval r m b) λ w k.
        has_fit (pair v w) (kept.to_pair v w h k)
    keeps_eval r m (u_proj {p} a) = has_bind _ _ (keeps_eval r m a) λ v h. has_part p v h

    -- Transitions.

    abbrev ThroughNext : Next → Type 0
    ThroughNext n = ConfigNext (λ x. P) (Uses P named) Unit n

    through-branch : (l r : Value → Next) (s : Res) → Has s → ((v : Value) → P v → ThroughNext (l v))
        → ((v : Value) → P v → ThroughNext (r v))
        → ThroughNext (branch l r too_long no_rule s)
    through-branch l r s h p q =
        by_branch (λ s n. Has s → ThroughNext n) (λ v h. p v (kept.from_left v h)) (λ v h. q v (kept.from_right v h))
        (λ h. tt) (λ s o e h. tt) s h

    through-step : (M : Mem) → ((x : ℕ) → P (M x)) → {c : Cmd} → Uses P named c → ThroughNext (step W M c)
    unfolding step
    through-step M m u_skip = tt
    through-step M m (u_seq a b) =
        config_seq _ _ _ (λ _ _ p q. u_seq p q) M _ (record { memory = m; command = b }) _ (through-step M m a)
    through-step M m (u_assign {x} e) = config_assign _ _ _ u_skip M x _ m (keeps_eval all_none m e)
    through-step M m (u_while e c) = through-branch _ _ _ (keeps_eval all_none m e)
        (λ v h. record { memory = m; command = u_seq c (u_while e c) }) (λ v h. record { memory = m; command = u_skip })
    through-step M m (u_case e a b) = through-branch _ _ _ (keeps_eval all_none m e)
        (λ v h. record { memory = m; command = uses_inst v h a })
        (λ v h. record { memory = m; command = uses_inst v h b })

    pub through : (M : Mem) (c : Cmd) → Through M c → ThroughNext (step W M c)
    through M c i = through-step M i.memory i.command

    -- A done run keeps P: it holds of every value that the run leaves, if it holds of the values before
    -- and in the script.
    pub keeps : (b l : ℕ) (M M' : Mem) (c : Cmd) → Uses P named c → ((x : ℕ) → P (M x)) → iterate W b M c ≡ done M' l
        → (x : ℕ) → P (M' x)
    keeps b l M M' c u m h = (config_done _ _ _ W through b h (record { memory = m; command = u })).memory

-- Properties that are kept.

-- no value is too long
abbrev pub Fits : Value → Type 0
Fits v = size v ≤ cell_words

abbrev pub Anywhere : ℕ → Type 0
Anywhere l = Unit {0}

fits_part : (p : Part) (v w : Value) → Fits (pair v w) → Fits (pick p v w)
unfolding size pick
fits_part first v w h = omega arith
fits_part second v w h = omega arith

pub fits_kept : {named : ℕ → Type 0} → Kept Fits named
unfolding size
fits_kept = record {
  sum = λ n h. omega arith;
  error = λ e h k. omega arith;
  to_left = λ v h s. s;
  to_right = λ v h s. s;
  to_package = λ l v n h s. s;
  from_left = λ v h. omega arith;
  from_right = λ v h. omega arith;
  to_pair = λ v w h k s. s;
  from_package = λ h v p. omega arith;
  from_pair = fits_part;
}

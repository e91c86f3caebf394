-- Figures 2 and 3 agree with `eval` and `step`.
use mathlib.Core.Path.{◌≡◌, refl, subst}
use mathlib.Core.Bool.{Bool, true, false}
use mathlib.Core.List.{[]}
use Prim.Native.Nat.{ℕ, ◌+◌, ◌%◌, ◌^◌}
use native.Mathlib.Omega.{arith}
use Rattle.language.specs.Syntax.{Head, head_of, Value, int, inl, inr, pkg, pair, Part, has, Expr, val, loc, var}
use Rattle.language.specs.Syntax.{plus, left, right, pack, unpack, pairing, proj, Cmd, skip, seq, assign, while}
use Rattle.language.specs.Syntax.{case}
use Rattle.language.specs.World.{World, Mem, wanted}
use Rattle.language.specs.Substitution.{inst}
use Rattle.language.specs.Figures.{EStep, ee_loc, ee_inl, ee_inr, ee_plus_struct1, ee_plus_struct2, ee_plus}
use Rattle.language.specs.Figures.{ee_pack_struct, ee_pack_ok, ee_pack_fail, ee_unpack_struct, ee_unpack_fail1}
use Rattle.language.specs.Figures.{ee_unpack_fail2, ee_unpack_fail3, ee_unpack_ok, ee_pair_struct1}
use Rattle.language.specs.Figures.{ee_pair_struct2, ee_proj_struct, ee_proj, inl_value, inr_value, pair_value}
use Rattle.language.specs.Figures.{EStar, e_none, e_more, Step, ec_assign, ec_seq_skip, ec_seq_struct}
use Rattle.language.specs.Figures.{ec_while_false, ec_while_true, ec_casel, ec_caser, LongExpr, long_value}
use Rattle.language.specs.Figures.{in_plus1, in_plus2, in_left, in_right, in_pack, in_unpack, in_pair1, in_pair2}
use Rattle.language.specs.Figures.{in_proj, LongStep, in_assign, in_seq, in_while, in_case}
use Rattle.language.specs.Evaluation.{Res, ok, long, stuck, bind, fit, add, add_to, packed, opened, unpacked}
use Rattle.language.specs.Evaluation.{part_of, lookup, eval}
use Rattle.language.specs.Transition.{Next, final, to, too_long, no_rule, at_seq, at_assign, branch, branch_v}
use Rattle.language.specs.Transition.{step}
use Rattle.language.specs.Theorems.{Agreement}
use Rattle.language.proofs.Results.{by_fit, by_add, by_unpacked, by_part, by_branch}

-- From `eval` to figure 2.

module _ (W : World) (M : Mem) where
  pub star_trans : {a b c : Expr} → EStar W M a b → EStar W M b c → EStar W M a c
  star_trans e_none q = q
  star_trans (e_more s p) q = e_more s (star_trans p q)

  -- a context that steps go under
  star_in : (f : Expr → Expr) → ((a b : Expr) → EStep W M a b → EStep W M (f a) (f b)) → {a b : Expr} → EStar W M a b
      → EStar W M (f a) (f b)
  star_in f h e_none = e_none
  star_in f h (e_more s p) = e_more (h _ _ s) (star_in f h p)

  -- steps, and one more
  star_end : {a b c : Expr} → EStar W M a b → EStep W M b c → EStar W M a c
  star_end p s = star_trans p (e_more s e_none)

  -- What figure 2 has where evaluating e gives r.
  abbrev pub Gives : Expr → Res → Type 0
  Gives e (ok v) = EStar W M e (val v)
  Gives e long = LongExpr W M e
  Gives e stuck = Unit {0}

  gives-bind : (a e : Expr) (r : Res) (f : Value → Res) → Gives a r → (LongExpr W M a → LongExpr W M e)
      → ((v : Value) → EStar W M a (val v) → Gives e (f v)) → Gives e (bind r f)
  unfolding bind
  gives-bind a e (ok v) f h l k = k v h
  gives-bind a e long f h l k = l h
  gives-bind a e stuck f h l k = tt

  gives-fit : (e : Expr) (v : Value) → EStar W M e (val v) → Gives e (fit v)
  gives-fit e v h = by_fit (Gives e) v (λ s. h) (λ s. long_value h s)

  gives-add : (e : Expr) (v w : Value) → EStar W M e (plus (val v) (val w)) → Gives e (add v w)
  gives-add e = by_add (λ v w r. EStar W M e (plus (val v) (val w)) → Gives e r)
      (λ m n p. gives-fit e (int _) (star_end p ee_plus)) (λ v w q p. tt)

  gives-pack : (e : Expr) (l : ℕ) (v : Value) (b : Bool) → W.writes l ≡ b → EStar W M e (pack l (val v))
      → Gives e (packed b l v)
  unfolding packed
  gives-pack e l v true h p = gives-fit e (inl (pkg (head_of l) v)) (star_end p (ee_pack_ok h))
  gives-pack e l v false h p = star_end p (ee_pack_fail h)

  gives_open : (e : Expr) (t l : ℕ) (h : Head) (v : Value) (a b c : Bool) → W.reads l ≡ a → W.below h.label l ≡ b
      → has v (wanted (W.ty t)) ≡ c
      → EStar W M e (unpack t l (val (pkg h v))) → Gives e (opened a b c v)
  unfolding opened
  gives_open e t l h v false b c x y z p = star_end p (ee_unpack_fail1 x)
  gives_open e t l h v true false c x y z p = star_end p (ee_unpack_fail2 x y)
  gives_open e t l h v true true false x y z p = star_end p (ee_unpack_fail3 x y z)
  gives_open e t l h v true true true x y z p = gives-fit e (inl v) (star_end p (ee_unpack_ok x y z))

  gives-unpack : (e : Expr) (t l : ℕ) (v : Value) → EStar W M e (unpack t l (val v)) → Gives e (unpacked W t l v)
  gives-unpack e t l = by_unpacked (λ v r. EStar W M e (unpack t l (val v)) → Gives e r) W t l
      (λ h v p. gives_open e t l h v (W.reads l) (W.below h.label l) (has v (wanted (W.ty t))) refl refl refl p)
      (λ v q p. tt)

  gives_part : (e : Expr) (p : Part) (v : Value) → EStar W M e (proj p (val v)) → Gives e (part_of p v)
  gives_part e p =
      by_part (λ v r. EStar W M e (proj p (val v)) → Gives e r) p (λ v w s. star_end s ee_proj) (λ v q s. tt)

  pub eval-gives : (e : Expr) → Gives e (eval W [] M e)
  unfolding eval lookup
  eval-gives (val v) = e_none
  eval-gives (loc x) = e_more ee_loc e_none
  eval-gives (var i) = tt
  eval-gives (plus a b) =
      gives-bind a _ (eval W [] M a) _ (eval-gives a) (λ h. in_plus1 h) λ v p.
      gives-bind b _ (eval W [] M b) _ (eval-gives b) (λ h. in_plus2 h) λ w q.
      gives-add _ v w (star_trans (star_in (λ x. plus x b) (λ _ _ s. ee_plus_struct1 s) p)
      (star_in (plus (val v)) (λ _ _ s. ee_plus_struct2 s) q))
  eval-gives (left t a) = gives-bind a _ (eval W [] M a) _ (eval-gives a) (λ h. in_left h) λ v p.
      gives-fit _ (inl v) (star_end (star_in (left t) (λ _ _ s. ee_inl s) p) inl_value)
  eval-gives (right t a) = gives-bind a _ (eval W [] M a) _ (eval-gives a) (λ h. in_right h) λ v p.
      gives-fit _ (inr v) (star_end (star_in (right t) (λ _ _ s. ee_inr s) p) inr_value)
  eval-gives (pack l a) = gives-bind a _ (eval W [] M a) _ (eval-gives a) (λ h. in_pack h) λ v p.
      gives-pack _ l v (W.writes l) refl (star_in (pack l) (λ _ _ s. ee_pack_struct s) p)
  eval-gives (unpack t l a) = gives-bind a _ (eval W [] M a) _ (eval-gives a) (λ h. in_unpack h) λ v p.
      gives-unpack _ t l v (star_in (unpack t l) (λ _ _ s. ee_unpack_struct s) p)
  eval-gives (pairing t a b) =
      gives-bind a _ (eval W [] M a) _ (eval-gives a) (λ h. in_pair1 h) λ v p.
      gives-bind b _ (eval W [] M b) _ (eval-gives b) (λ h. in_pair2 h) λ w q.
      gives-fit _ (pair v w) (star_end (star_trans (star_in (λ x. pairing t x b) (λ _ _ s. ee_pair_struct1 s) p)
      (star_in (pairing t (val v)) (λ _ _ s. ee_pair_struct2 s) q)) pair_value)
  eval-gives (proj p a) = gives-bind a _ (eval W [] M a) _ (eval-gives a) (λ h. in_proj h) λ v q.
      gives_part _ p v (star_in (proj p) (λ _ _ s. ee_proj_struct s) q)

-- From figure 2 to `eval`: a step changes the result at most from too long.

-- r is s, or r is too long, which `bad` stands for
pub data Refines {A : Type 0} (bad : A) : A → A → Type 0 where
  same : {r : A} → Refines bad r r
  was_long : {s : A} → Refines bad bad s

refines_trans : {A : Type 0} {bad r s t : A} → Refines bad r s → Refines bad s t → Refines bad r t
refines_trans same q = q
refines_trans was_long q = was_long

-- a function that takes too long to too long
refines_of : {A B : Type 0} {bad r s : A} {worse : B} (f : A → B) → f bad ≡ worse → Refines bad r s
    → Refines worse (f r) (f s)
refines_of f q same = same
refines_of f q was_long = rw q was_long

refines_bind : {r s : Res} (f : Value → Res) → Refines long r s → Refines long (bind r f) (bind s f)
unfolding bind
refines_bind f = refines_of (λ r. bind r f) refl

refines_fit : (v : Value) → Refines long (fit v) (ok v)
refines_fit v = by_fit (λ r. Refines long r (ok v)) v (λ s. same) (λ s. was_long)

module _ (W : World) (M : Mem) where
  step_refines : {a b : Expr} → EStep W M a b → Refines long (eval W [] M a) (eval W [] M b)
  unfolding eval bind add add_to unpacked packed opened part_of
  step_refines ee_loc = same
  step_refines (ee_inl s) = refines_bind _ (step_refines s)
  step_refines (ee_inr s) = refines_bind _ (step_refines s)
  step_refines (ee_plus_struct1 s) = refines_bind _ (step_refines s)
  step_refines (ee_plus_struct2 s) = refines_bind _ (step_refines s)
  step_refines (ee_plus {i₁} {i₂}) = refines_fit (int ((i₁ + i₂) % 2 ^ 32))
  step_refines (ee_pack_struct s) = refines_bind _ (step_refines s)
  step_refines (ee_pack_ok {l} {v} p) = rw p (refines_fit (inl (pkg (head_of l) v)))
  step_refines (ee_pack_fail p) = rw p same
  step_refines (ee_unpack_struct s) = refines_bind _ (step_refines s)
  step_refines (ee_unpack_fail1 p) = rw p same
  step_refines (ee_unpack_fail2 p q) = rw (p, q) same
  step_refines (ee_unpack_fail3 p q r) = rw (p, q, r) same
  step_refines (ee_unpack_ok {v₀ = v} p q r) = rw (p, q, r) (refines_fit (inl v))
  step_refines (ee_pair_struct1 s) = refines_bind _ (step_refines s)
  step_refines (ee_pair_struct2 s) = refines_bind _ (step_refines s)
  step_refines (ee_proj_struct s) = refines_bind _ (step_refines s)
  step_refines ee_proj = same
  step_refines (inl_value {v = v}) = refines_fit (inl v)
  step_refines (inr_value {v = v}) = refines_fit (inr v)
  step_refines (pair_value {v = v} {w}) = refines_fit (pair v w)

  pub star_refines : {a b : Expr} → EStar W M a b → Refines long (eval W [] M a) (eval W [] M b)
  star_refines e_none = same
  star_refines (e_more s p) = refines_trans (step_refines s) (star_refines p)

  -- the value of figure 2 is that of `eval`, or `eval` is too long
  pub star_eval : {e : Expr} {v : Value} → EStar W M e (val v) → Refines long (eval W [] M e) (ok v)
  unfolding eval
  star_eval p = star_refines p

  -- where no part of e is too long, `eval` has the value of figure 2
  pub star_ok : {e : Expr} {v : Value} → EStar W M e (val v) → ¬ LongExpr W M e → eval W [] M e ≡ ok v
  star_ok {e} {v} p n = on (eval W [] M e) (star_eval p) (eval-gives W M e)
    where
      on : (r : Res) → Refines long r (ok v) → Gives W M e r → r ≡ ok v
      on r same g = refl
      on long was_long g = absurd (n g)

-- Figure 3 and `step`.

not_long : {n m : Next} → Refines too_long n m → ¬ (n ≡ too_long) → n ≡ m
not_long same h = refl
not_long was_long h = absurd (h refl)

not_none : {n m : Next} {M : Mem} {c : Cmd} → Refines too_long n m → n ≡ no_rule → ¬ (m ≡ to M c)
not_none same p q = absurd (let z : ◌≡◌ {A = ℕ} 0 1 = cc in omega arith)
not_none was_long p q = absurd (let z : ◌≡◌ {A = ℕ} 0 1 = cc in omega arith)

module _ (W : World) where
  -- What figure 3 has where `step` gives a result.
  abbrev pub GivesN : Mem → Cmd → Next → Type 0
  GivesN M c final = c ≡ skip
  GivesN M c (to M' c') = Step W M c M' c'
  GivesN M c too_long = LongStep W M c
  GivesN M c no_rule = Unit {0}

  gives-seq : (M : Mem) (a c : Cmd) (n : Next) → GivesN M a n → GivesN M (seq a c) (at_seq M c n)
  unfolding at_seq
  gives-seq M a c final h = rw h ec_seq_skip
  gives-seq M a c (to M' c') h = ec_seq_struct h
  gives-seq M a c too_long h = in_seq h
  gives-seq M a c no_rule h = tt

  gives-assign : (M : Mem) (x : ℕ) (e : Expr) (r : Res) → Gives W M e r → GivesN M (assign x e) (at_assign M x r)
  unfolding at_assign
  gives-assign M x e (ok v) h = ec_assign h
  gives-assign M x e long h = in_assign h
  gives-assign M x e stuck h = tt

  gives-branch : (M : Mem) (c : Cmd) (e : Expr) (l r : Value → Next)
      → ((v : Value) → EStar W M e (val (inl v)) → GivesN M c (l v))
      → ((v : Value) → EStar W M e (val (inr v)) → GivesN M c (r v)) → (LongExpr W M e → LongStep W M c)
      → (s : Res) → Gives W M e s
      → GivesN M c (branch l r too_long no_rule s)
  gives-branch M c e l r p q o = by_branch (λ s n. Gives W M e s → GivesN M c n) p q o (λ s a e h. tt)

  pub step_gives : (M : Mem) (c : Cmd) → GivesN M c (step W M c)
  unfolding step
  step_gives M skip = refl
  step_gives M (seq a c) = gives-seq M a c (step W M a) (step_gives M a)
  step_gives M (assign x e) = gives-assign M x e (eval W [] M e) (eval-gives W M e)
  step_gives M (while e c) = gives-branch M _ e _ _ (λ v p. ec_while_true p) (λ v p. ec_while_false p) (λ h. in_while h)
      (eval W [] M e) (eval-gives W M e)
  step_gives M (case e a b) =
      gives-branch M _ e _ _ (λ v p. ec_casel p) (λ v p. ec_caser p) (λ h. in_case h) (eval W [] M e) (eval-gives W M e)

  step_has : {M M' : Mem} {c c' : Cmd} → Step W M c M' c' → Refines too_long (step W M c) (to M' c')
  unfolding step at_assign at_seq branch branch_v eval
  step_has (ec_assign {M} {x} p) = refines_of (at_assign M x) refl (star_refines W M p)
  step_has ec_seq_skip = same
  step_has (ec_seq_struct {M} {c₂ = c} s) = refines_of (at_seq M c) refl (step_has s)
  step_has (ec_while_false {M} {e} {c} p) =
      refines_of (branch (λ v. to M (seq c (while e c))) (λ v. to M skip) too_long no_rule) refl (star_refines W M p)
  step_has (ec_while_true {M} {e} {c} p) =
      refines_of (branch (λ v. to M (seq c (while e c))) (λ v. to M skip) too_long no_rule) refl (star_refines W M p)
  step_has (ec_casel {M} {e} {c₁} {c₂} p) =
      refines_of (branch (λ v. to M (inst v c₁)) (λ v. to M (inst v c₂)) too_long no_rule) refl (star_refines W M p)
  step_has (ec_caser {M} {e} {c₁} {c₂} p) =
      refines_of (branch (λ v. to M (inst v c₁)) (λ v. to M (inst v c₂)) too_long no_rule) refl (star_refines W M p)

  pub agreement : Agreement W
  agreement = record {
    skip_alone = λ M c h. subst (GivesN M c) h (step_gives M c);
    has_rule = λ M M' c c' h. subst (GivesN M c) h (step_gives M c);
    is_step = λ M M' c c' s h. not_long (step_has s) h;
    has_none = λ M M' c c' h s. not_none (step_has s) h refl;
    is_long = λ M c h. subst (GivesN M c) h (step_gives M c);
  }

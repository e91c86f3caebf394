-- Lemma 2: figure 3 has at most one transition from a configuration, so at most one trace of each length.
use mathlib.Core.Path.{◌≡◌, refl, ap, sym, ◌∙◌, subst}
use mathlib.Core.Bool.{Bool, true, false, true≢false}
use Prim.Native.Nat.{ℕ, suc}
use native.Mathlib.Omega.{arith}
use Rattle.language.specs.Syntax.{Value, inl, inr, Expr, val, plus, left, right, pack, unpack, pairing, proj, Cmd}
use Rattle.language.specs.Syntax.{skip, seq}
use Rattle.language.specs.World.{World, Mem}
use Rattle.language.specs.Substitution.{update}
use Rattle.language.specs.Figures.{EStep, ee_loc, ee_inl, ee_inr, ee_plus_struct1, ee_plus_struct2, ee_plus}
use Rattle.language.specs.Figures.{ee_pack_struct, ee_pack_ok, ee_pack_fail, ee_unpack_struct, ee_unpack_fail1}
use Rattle.language.specs.Figures.{ee_unpack_fail2, ee_unpack_fail3, ee_unpack_ok, ee_pair_struct1}
use Rattle.language.specs.Figures.{ee_pair_struct2, ee_proj_struct, ee_proj, inl_value, inr_value, pair_value}
use Rattle.language.specs.Figures.{EStar, e_none, e_more, Step, ec_assign, ec_seq_skip, ec_seq_struct}
use Rattle.language.specs.Figures.{ec_while_false, ec_while_true, ec_casel, ec_caser, Steps, s_none, s_more}
use Rattle.language.specs.Theorems.{Determinacy}

module _ (W : World) (M : Mem) where
  val_rests : {v : Value} {e : Expr} → ¬ EStep W M (val v) e
  val_rests = elim [ ]

  apart : {b : Bool} {A : Type 0} → b ≡ true → b ≡ false → A
  apart p q = absurd (true≢false (sym p ∙ q))

  step_once : {e a b : Expr} → EStep W M e a → EStep W M e b → a ≡ b
  step_once ee_loc ee_loc = refl
  step_once (ee_inl {t = t} s) (ee_inl s') = ap (left t) (step_once s s')
  step_once (ee_inl s) inl_value = absurd (val_rests s)
  step_once inl_value (ee_inl s) = absurd (val_rests s)
  step_once inl_value inl_value = refl
  step_once (ee_inr {t = t} s) (ee_inr s') = ap (right t) (step_once s s')
  step_once (ee_inr s) inr_value = absurd (val_rests s)
  step_once inr_value (ee_inr s) = absurd (val_rests s)
  step_once inr_value inr_value = refl
  step_once (ee_plus_struct1 {e₂ = c} s) (ee_plus_struct1 s') = ap (λ x. plus x c) (step_once s s')
  step_once (ee_plus_struct1 s) (ee_plus_struct2 s') = absurd (val_rests s)
  step_once (ee_plus_struct1 s) ee_plus = absurd (val_rests s)
  step_once (ee_plus_struct2 s) (ee_plus_struct1 s') = absurd (val_rests s')
  step_once (ee_plus_struct2 {v} s) (ee_plus_struct2 s') = ap (plus (val v)) (step_once s s')
  step_once (ee_plus_struct2 s) ee_plus = absurd (val_rests s)
  step_once ee_plus (ee_plus_struct1 s') = absurd (val_rests s')
  step_once ee_plus (ee_plus_struct2 s') = absurd (val_rests s')
  step_once ee_plus ee_plus = refl
  step_once (ee_pack_struct {l} s) (ee_pack_struct s') = ap (pack l) (step_once s s')
  step_once (ee_pack_struct s) (ee_pack_ok p) = absurd (val_rests s)
  step_once (ee_pack_struct s) (ee_pack_fail p) = absurd (val_rests s)
  step_once (ee_pack_ok p) (ee_pack_struct s) = absurd (val_rests s)
  step_once (ee_pack_ok p) (ee_pack_ok q) = refl
  step_once (ee_pack_ok p) (ee_pack_fail q) = apart p q
  step_once (ee_pack_fail p) (ee_pack_struct s) = absurd (val_rests s)
  step_once (ee_pack_fail p) (ee_pack_ok q) = apart q p
  step_once (ee_pack_fail p) (ee_pack_fail q) = refl
  step_once (ee_unpack_struct {t} {l} s) (ee_unpack_struct s') = ap (unpack t l) (step_once s s')
  step_once (ee_unpack_struct s) (ee_unpack_fail1 p) = absurd (val_rests s)
  step_once (ee_unpack_struct s) (ee_unpack_fail2 p q) = absurd (val_rests s)
  step_once (ee_unpack_struct s) (ee_unpack_fail3 p q r) = absurd (val_rests s)
  step_once (ee_unpack_struct s) (ee_unpack_ok p q r) = absurd (val_rests s)
  step_once (ee_unpack_fail1 p) (ee_unpack_struct s) = absurd (val_rests s)
  step_once (ee_unpack_fail1 p) (ee_unpack_fail1 p') = refl
  step_once (ee_unpack_fail1 p) (ee_unpack_fail2 p' q') = apart p' p
  step_once (ee_unpack_fail1 p) (ee_unpack_fail3 p' q' r') = apart p' p
  step_once (ee_unpack_fail1 p) (ee_unpack_ok p' q' r') = apart p' p
  step_once (ee_unpack_fail2 p q) (ee_unpack_struct s) = absurd (val_rests s)
  step_once (ee_unpack_fail2 p q) (ee_unpack_fail1 p') = apart p p'
  step_once (ee_unpack_fail2 p q) (ee_unpack_fail2 p' q') = refl
  step_once (ee_unpack_fail2 p q) (ee_unpack_fail3 p' q' r') = apart q' q
  step_once (ee_unpack_fail2 p q) (ee_unpack_ok p' q' r') = apart q' q
  step_once (ee_unpack_fail3 p q r) (ee_unpack_struct s) = absurd (val_rests s)
  step_once (ee_unpack_fail3 p q r) (ee_unpack_fail1 p') = apart p p'
  step_once (ee_unpack_fail3 p q r) (ee_unpack_fail2 p' q') = apart q q'
  step_once (ee_unpack_fail3 p q r) (ee_unpack_fail3 p' q' r') = refl
  step_once (ee_unpack_fail3 p q r) (ee_unpack_ok p' q' r') = apart r' r
  step_once (ee_unpack_ok p q r) (ee_unpack_struct s) = absurd (val_rests s)
  step_once (ee_unpack_ok p q r) (ee_unpack_fail1 p') = apart p p'
  step_once (ee_unpack_ok p q r) (ee_unpack_fail2 p' q') = apart q q'
  step_once (ee_unpack_ok p q r) (ee_unpack_fail3 p' q' r') = apart r r'
  step_once (ee_unpack_ok p q r) (ee_unpack_ok p' q' r') = refl
  step_once (ee_pair_struct1 {t} {e₂ = c} s) (ee_pair_struct1 s') = ap (λ x. pairing t x c) (step_once s s')
  step_once (ee_pair_struct1 s) (ee_pair_struct2 s') = absurd (val_rests s)
  step_once (ee_pair_struct1 s) pair_value = absurd (val_rests s)
  step_once (ee_pair_struct2 s) (ee_pair_struct1 s') = absurd (val_rests s')
  step_once (ee_pair_struct2 {t} {v} s) (ee_pair_struct2 s') = ap (pairing t (val v)) (step_once s s')
  step_once (ee_pair_struct2 s) pair_value = absurd (val_rests s)
  step_once pair_value (ee_pair_struct1 s) = absurd (val_rests s)
  step_once pair_value (ee_pair_struct2 s) = absurd (val_rests s)
  step_once pair_value pair_value = refl
  step_once (ee_proj_struct {p} s) (ee_proj_struct s') = ap (proj p) (step_once s s')
  step_once (ee_proj_struct s) ee_proj = absurd (val_rests s)
  step_once ee_proj (ee_proj_struct s) = absurd (val_rests s)
  step_once ee_proj ee_proj = refl

  -- an expression has at most one value
  star_once : {e : Expr} {v w : Value} → EStar W M e (val v) → EStar W M e (val w) → v ≡ w
  star_once e_none q = from-val q
    where
      from-val : {v w : Value} → EStar W M (val v) (val w) → v ≡ w
      from-val e_none = refl
      from-val (e_more s p) = absurd (val_rests s)
  star_once (e_more s p) e_none = absurd (val_rests s)
  star_once {w = w} (e_more s p) (e_more s' p') =
      star_once p (subst (λ x. EStar W M x (val w)) (sym (step_once s s')) p')

  -- no expression has a left and a right value
  not_both : {e : Expr} {v w : Value} {A : Type 0} → EStar W M e (val (inl v)) → EStar W M e (val (inr w)) → A
  not_both p q = absurd (let z : ◌≡◌ {A = ℕ} 0 1 = cc (star_once p q) in omega arith)

module _ (W : World) where
  skip_rests : {M M' : Mem} {c : Cmd} → ¬ Step W M skip M' c
  skip_rests = elim [ ]

  pub once : {M M₁ M₂ : Mem} {c c₁ c₂ : Cmd} → Step W M c M₁ c₁ → Step W M c M₂ c₂ → (M₁ ≡ M₂) × (c₁ ≡ c₂)
  once (ec_assign {M} {x} p) (ec_assign q) = (ap (update M x) (star_once W M p q), refl)
  once ec_seq_skip ec_seq_skip = (refl, refl)
  once ec_seq_skip (ec_seq_struct s) = absurd (skip_rests s)
  once (ec_seq_struct s) ec_seq_skip = absurd (skip_rests s)
  once (ec_seq_struct {c₂ = c} s) (ec_seq_struct s') =
      let h = once s s' in
      (h.0, ap (λ a. seq a c) h.1)
  once (ec_while_false p) (ec_while_false q) = (refl, refl)
  once (ec_while_false p) (ec_while_true q) = not_both W _ q p
  once (ec_while_true p) (ec_while_false q) = not_both W _ p q
  once (ec_while_true p) (ec_while_true q) = (refl, refl)
  once (ec_casel p) (ec_casel q) = let h = star_once W _ p q in (refl, cc)
  once (ec_casel p) (ec_caser q) = not_both W _ p q
  once (ec_caser p) (ec_casel q) = not_both W _ q p
  once (ec_caser p) (ec_caser q) = let h = star_once W _ p q in (refl, cc)

  -- the steps after the first, which is the only one
  pub after_first : {j : ℕ} {M N M₁ : Mem} {c d c₁ : Cmd} → Step W M c N d → Steps W (suc j) M c M₁ c₁
      → Steps W j N d M₁ c₁
  after_first {j = j} {M₁ = M₁} {c₁ = c₁} s (s_more s' p) =
      let h = once s' s in
      subst (λ (z : Mem × Cmd). Steps W j z.0 z.1 M₁ c₁) (λ i. (h.0 i, h.1 i)) p

  pub trace_once : {k : ℕ} {M M₁ M₂ : Mem} {c c₁ c₂ : Cmd} → Steps W k M c M₁ c₁ → Steps W k M c M₂ c₂
      → (M₁ ≡ M₂) × (c₁ ≡ c₂)
  trace_once s_none s_none = (refl, refl)
  trace_once (s_more s p) q = trace_once p (after_first s q)

  end_once : {j k : ℕ} {M M₁ M₂ : Mem} {c : Cmd} → Steps W j M c M₁ skip → Steps W k M c M₂ skip → (j ≡ k) × (M₁ ≡ M₂)
  end_once s_none s_none = (refl, refl)
  end_once s_none (s_more s p) = absurd (skip_rests s)
  end_once (s_more s p) s_none = absurd (skip_rests s)
  end_once (s_more s p) (s_more s' p') = let t = end_once p (after_first s (s_more s' p')) in (ap suc t.0, t.1)

  pub determinacy : Determinacy W
  determinacy = record {
    one_step = λ M M₁ M₂ c c₁ c₂ p q. once p q;
    one_trace = λ k M M₁ M₂ c c₁ c₂ p q. trace_once p q;
    one_end = λ j k M M₁ M₂ c p q. end_once p q;
  }

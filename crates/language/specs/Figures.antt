-- Figures 2 and 3 of the paper as relations, with the rules of pairs (request (f)), and the scope's limit on values,
-- stated over them.
use Rattle.std.specs.Prelude.{◌≡◌, true, false, ℕ, zero, suc, ◌+◌, ◌%◌, ◌^◌, ◌<◌}
use Rattle.language.specs.Syntax.{Head, head_of, Value, int, err, inl, inr, pkg, pair, Part, pick, size, has, Expr}
use Rattle.language.specs.Syntax.{val, loc, plus, left, right, pack, unpack, pairing, proj, Cmd, skip, seq}
use Rattle.language.specs.Syntax.{assign, while, case}
use Rattle.language.specs.World.{World, Mem, cell_words, wanted}
use Rattle.language.specs.Substitution.{inst, update}

-- Figure 2, p̄; M ⊢ e → e'. The world holds the authority p̄ with the sheet's types and order of labels.
-- A `plus` is taken modulo 2^32. A package has its label in its head. An unpack names the sum type t; the wanted type
-- is its left part. The errors have the scope's numbers.
-- The figure has no pairs: their rules are EE-PAIR-STRUCT1 and 2, after EE-PLUS-STRUCT1 and 2, EE-PROJ-STRUCT and
-- EE-PROJ. The last three rules are not in the figure: a value is written `val v` here, so inl of a value and a pair of
-- two values have still to become one.
pub data EStep (W : World) (M : Mem) : Expr → Expr → Type 0 where
  ee_loc : {x : ℕ} → EStep W M (loc x) (val (M x))
  ee_inl : {t : ℕ} {e e' : Expr} → EStep W M e e' → EStep W M (left t e) (left t e')
  ee_inr : {t : ℕ} {e e' : Expr} → EStep W M e e' → EStep W M (right t e) (right t e')
  ee_plus_struct1 : {e₁ e₁' e₂ : Expr} → EStep W M e₁ e₁' → EStep W M (plus e₁ e₂) (plus e₁' e₂)
  ee_plus_struct2 : {v : Value} {e e' : Expr} → EStep W M e e' → EStep W M (plus (val v) e) (plus (val v) e')
  ee_plus : {i₁ i₂ : ℕ} → EStep W M (plus (val (int i₁)) (val (int i₂))) (val (int ((i₁ + i₂) % 2 ^ 32)))
  ee_pack_struct : {l : ℕ} {e e' : Expr} → EStep W M e e' → EStep W M (pack l e) (pack l e')
  ee_pack_ok : {l : ℕ} {v : Value} → W.writes l ≡ true → EStep W M (pack l (val v)) (val (inl (pkg (head_of l) v)))
  ee_pack_fail : {l : ℕ} {v : Value} → W.writes l ≡ false → EStep W M (pack l (val v)) (val (inr (err 1)))
  ee_unpack_struct : {t l : ℕ} {e e' : Expr} → EStep W M e e' → EStep W M (unpack t l e) (unpack t l e')
  ee_unpack_fail1 : {t l : ℕ} {h : Head} {v₀ : Value} → W.reads l ≡ false
      → EStep W M (unpack t l (val (pkg h v₀))) (val (inr (err 1)))
  ee_unpack_fail2 : {t l : ℕ} {h : Head} {v₀ : Value} → W.reads l ≡ true → W.below h.label l ≡ false
      → EStep W M (unpack t l (val (pkg h v₀))) (val (inr (err 2)))
  ee_unpack_fail3 : {t l : ℕ} {h : Head} {v₀ : Value} → W.reads l ≡ true → W.below h.label l ≡ true
      → has v₀ (wanted (W.ty t)) ≡ false
      → EStep W M (unpack t l (val (pkg h v₀))) (val (inr (err 3)))
  ee_unpack_ok : {t l : ℕ} {h : Head} {v₀ : Value} → W.reads l ≡ true → W.below h.label l ≡ true
      → has v₀ (wanted (W.ty t)) ≡ true
      → EStep W M (unpack t l (val (pkg h v₀))) (val (inl v₀))
  ee_pair_struct1 : {t : ℕ} {e₁ e₁' e₂ : Expr} → EStep W M e₁ e₁' → EStep W M (pairing t e₁ e₂) (pairing t e₁' e₂)
  ee_pair_struct2 : {t : ℕ} {v : Value} {e e' : Expr} → EStep W M e e'
      → EStep W M (pairing t (val v) e) (pairing t (val v) e')
  ee_proj_struct : {p : Part} {e e' : Expr} → EStep W M e e' → EStep W M (proj p e) (proj p e')
  ee_proj : {p : Part} {v₁ v₂ : Value} → EStep W M (proj p (val (pair v₁ v₂))) (val (pick p v₁ v₂))
  inl_value : {t : ℕ} {v : Value} → EStep W M (left t (val v)) (val (inl v))
  inr_value : {t : ℕ} {v : Value} → EStep W M (right t (val v)) (val (inr v))
  pair_value : {t : ℕ} {v w : Value} → EStep W M (pairing t (val v) (val w)) (val (pair v w))

-- p̄; M ⊢ e →* e'
pub data EStar (W : World) (M : Mem) : Expr → Expr → Type 0 where
  e_none : {e : Expr} → EStar W M e e
  e_more : {e e₁ e' : Expr} → EStep W M e e₁ → EStar W M e₁ e' → EStar W M e e'

-- Figure 3, p̄ ⊢ ⟨M, c⟩ → ⟨M', c'⟩. The paper's true and false are left and right of an integer; here of any value,
-- which the type of a guard makes an integer.
pub data Step (W : World) : Mem → Cmd → Mem → Cmd → Type 0 where
  ec_assign : {M : Mem} {x : ℕ} {e : Expr} {v : Value} → EStar W M e (val v) → Step W M (assign x e) (update M x v) skip
  ec_seq_skip : {M : Mem} {c : Cmd} → Step W M (seq skip c) M c
  ec_seq_struct : {M M' : Mem} {c₁ c₁' c₂ : Cmd} → Step W M c₁ M' c₁' → Step W M (seq c₁ c₂) M' (seq c₁' c₂)
  ec_while_false : {M : Mem} {e : Expr} {c : Cmd} {v : Value} → EStar W M e (val (inr v)) → Step W M (while e c) M skip
  ec_while_true : {M : Mem} {e : Expr} {c : Cmd} {v : Value} → EStar W M e (val (inl v))
      → Step W M (while e c) M (seq c (while e c))
  ec_casel : {M : Mem} {e : Expr} {c₁ c₂ : Cmd} {v : Value} → EStar W M e (val (inl v))
      → Step W M (case e c₁ c₂) M (inst v c₁)
  ec_caser : {M : Mem} {e : Expr} {c₁ c₂ : Cmd} {v : Value} → EStar W M e (val (inr v))
      → Step W M (case e c₁ c₂) M (inst v c₂)

-- k transitions
pub data Steps (W : World) : ℕ → Mem → Cmd → Mem → Cmd → Type 0 where
  s_none : {M : Mem} {c : Cmd} → Steps W zero M c M c
  s_more : {k : ℕ} {M M₁ M' : Mem} {c c₁ c' : Cmd} → Step W M c M₁ c₁ → Steps W k M₁ c₁ M' c'
      → Steps W (suc k) M c M' c'

-- The scope's number 10, which the figures do not have: an expression, or a part of one, has a value of more words than
-- a location takes. Every part of an expression that the step evaluates counts, also where the expression's own value
-- is short again, as that of a pack that fails is, or the first or second of a pair that is too long. Fourteen lefts
-- over an integer are 16 words and fit; fifteen are 17.
-- A value that is held in memory has at most 16 words, so in a run a left, a right, a pair or a pack makes the first
-- that is too long.
pub data LongExpr (W : World) (M : Mem) : Expr → Type 0 where
  long_value : {e : Expr} {v : Value} → EStar W M e (val v) → cell_words < size v → LongExpr W M e
  in_plus1 : {e₁ e₂ : Expr} → LongExpr W M e₁ → LongExpr W M (plus e₁ e₂)
  in_plus2 : {e₁ e₂ : Expr} → LongExpr W M e₂ → LongExpr W M (plus e₁ e₂)
  in_left : {t : ℕ} {e : Expr} → LongExpr W M e → LongExpr W M (left t e)
  in_right : {t : ℕ} {e : Expr} → LongExpr W M e → LongExpr W M (right t e)
  in_pack : {l : ℕ} {e : Expr} → LongExpr W M e → LongExpr W M (pack l e)
  in_unpack : {t l : ℕ} {e : Expr} → LongExpr W M e → LongExpr W M (unpack t l e)
  in_pair1 : {t : ℕ} {e₁ e₂ : Expr} → LongExpr W M e₁ → LongExpr W M (pairing t e₁ e₂)
  in_pair2 : {t : ℕ} {e₁ e₂ : Expr} → LongExpr W M e₂ → LongExpr W M (pairing t e₁ e₂)
  in_proj : {p : Part} {e : Expr} → LongExpr W M e → LongExpr W M (proj p e)

-- the next step of a command meets such an expression
pub data LongStep (W : World) (M : Mem) : Cmd → Type 0 where
  in_assign : {x : ℕ} {e : Expr} → LongExpr W M e → LongStep W M (assign x e)
  in_seq : {c₁ c₂ : Cmd} → LongStep W M c₁ → LongStep W M (seq c₁ c₂)
  in_while : {e : Expr} {c : Cmd} → LongExpr W M e → LongStep W M (while e c)
  in_case : {e : Expr} {c₁ c₂ : Cmd} → LongExpr W M e → LongStep W M (case e c₁ c₂)

-- None of the first k steps from M, c meets a value that is too long.
abbrev pub NoneLong : World → ℕ → Mem → Cmd → Type 0
NoneLong W k M c = (j : ℕ) (M' : Mem) (c' : Cmd) → j < k → Steps W j M c M' c' → ¬ LongStep W M' c'

-- Figures 4 and 5 of the paper as inductive families, over any labels and what a sheet declares. The scope differs from
-- the figures in this:
-- * error is a type of its own, not int; a guard of `while` is int+int, the paper's bool;
-- * `left t`, `right t` and `unpack t` name the sum type t that they make, so its parts are not free;
-- * a script holds no package literal, so there is no TE-PACKAGE; its only literals are integers;
-- * there are pairs (request (f)), with the rules TE-PAIR and TE-PROJ: as in TE-PLUS, both operands have the label of
--   the pair, so that TE-SUB makes its least label their join; a part has the label of the whole. `pairing t` names the
--   pair type t;
-- * variables are counted by depth, so Γ is a list, innermost first;
-- * a script's command is typed with its starting label for pc, bottom where it opens with none (request (d)); the
--   paper leaves pc free.
-- TE-SUB and TC-SUBS stand as in the figures; that the scope's least labels pass exactly where there is a
-- derivation is a theorem.
use Rattle.std.specs.Prelude.{◌≡◌, true, List, [], ◌∷◌, ℕ}
use Rattle.std.proofs.Math.Option.{some}
use Rattle.language.specs.Syntax.{Ty, t_int, t_err, t_pkg, t_sum, t_pair, int, Part, pick, Expr, val, loc, var}
use Rattle.language.specs.Syntax.{plus, left, right, pack, unpack, pairing, proj, Cmd, skip, seq, assign, while}
use Rattle.language.specs.Syntax.{case, Script}
use Rattle.language.specs.Labels.{Labels}
use Rattle.language.specs.Declarations.{Declarations, start_of, nth}

-- A labelled type τ{ℓ}.
pub record LabelledType (L : Type 0) : Type 0 where
  pub type : Ty
  pub label : L

module _ {L : Type 0} (𝓛 : Labels L) (D : Declarations L) where
  -- Figure 4, Θ; Γ ⊢ e : τ{ℓ}, with Θ the declared locations.
  pub data Typed (Γ : List (LabelledType L)) : Expr → Ty → L → Type 0 where
    te_int : {i : ℕ} {ℓ : L} → Typed Γ (val (int i)) t_int ℓ
    te_plus : {e₁ e₂ : Expr} {ℓ : L} → Typed Γ e₁ t_int ℓ → Typed Γ e₂ t_int ℓ → Typed Γ (plus e₁ e₂) t_int ℓ
    te_suml : {t : ℕ} {e : Expr} {τ₁ τ₂ : Ty} {ℓ : L} → D.shapes.ty t ≡ t_sum τ₁ τ₂ → Typed Γ e τ₁ ℓ
        → Typed Γ (left t e) (t_sum τ₁ τ₂) ℓ
    te_sumr : {t : ℕ} {e : Expr} {τ₁ τ₂ : Ty} {ℓ : L} → D.shapes.ty t ≡ t_sum τ₁ τ₂ → Typed Γ e τ₂ ℓ
        → Typed Γ (right t e) (t_sum τ₁ τ₂) ℓ
    te_pack : {A : ℕ} {e : Expr} {τ : Ty} {ℓₑ ℓ : L} → D.label A ≡ ℓₑ → Typed Γ e τ ℓₑ → 𝓛.integ ℓₑ ≡ 𝓛.integ ℓ
        → Typed Γ (pack A e) (t_sum t_pkg t_err) ℓ
    te_unpack : {t A : ℕ} {e : Expr} {τ : Ty} {ℓₑ ℓ : L} → D.shapes.ty t ≡ t_sum τ t_err → D.label A ≡ ℓ
        → Typed Γ e t_pkg ℓₑ
        → 𝓛.conf ℓₑ ≡ 𝓛.conf ℓ → Typed Γ (unpack t A e) (t_sum τ t_err) ℓ
    te_pair : {t : ℕ} {e₁ e₂ : Expr} {τ₁ τ₂ : Ty} {ℓ : L} → D.shapes.ty t ≡ t_pair τ₁ τ₂ → Typed Γ e₁ τ₁ ℓ
        → Typed Γ e₂ τ₂ ℓ
        → Typed Γ (pairing t e₁ e₂) (t_pair τ₁ τ₂) ℓ
    te_proj : {p : Part} {e : Expr} {τ₁ τ₂ : Ty} {ℓ : L} → Typed Γ e (t_pair τ₁ τ₂) ℓ
        → Typed Γ (proj p e) (pick p τ₁ τ₂) ℓ
    te_var : {d : ℕ} {τ : Ty} {ℓ : L} → nth Γ d ≡ some (record { type = τ; label = ℓ }) → Typed Γ (var d) τ ℓ
    te_loc : {x : ℕ} {τ : Ty} {ℓ : L} → D.shapes.loc_ty x ≡ τ → D.home x ≡ ℓ → Typed Γ (loc x) τ ℓ
    te_sub : {e : Expr} {τ : Ty} {ℓ' ℓ : L} → Typed Γ e τ ℓ' → 𝓛.leq ℓ' ℓ ≡ true → Typed Γ e τ ℓ

  -- Figure 5, pc; Θ; Γ ⊢ c.
  pub data Safe : L → List (LabelledType L) → Cmd → Type 0 where
    tc_skip : {pc : L} {Γ : List (LabelledType L)} → Safe pc Γ skip
    tc_assign : {pc : L} {Γ : List (LabelledType L)} {x : ℕ} {e : Expr} {τ : Ty} {ℓₑ ℓ : L} → Typed Γ e τ ℓₑ
        → D.shapes.loc_ty x ≡ τ → D.home x ≡ ℓ
        → 𝓛.leq (𝓛.join ℓₑ pc) ℓ ≡ true → Safe pc Γ (assign x e)
    tc_seq : {pc : L} {Γ : List (LabelledType L)} {c₁ c₂ : Cmd} → Safe pc Γ c₁ → Safe pc Γ c₂ → Safe pc Γ (seq c₁ c₂)
    tc_while : {pc : L} {Γ : List (LabelledType L)} {e : Expr} {c : Cmd} {ℓ : L} → Typed Γ e (t_sum t_int t_int) ℓ
        → Safe (𝓛.join pc ℓ) Γ c
        → Safe pc Γ (while e c)
    tc_case : {pc : L} {Γ : List (LabelledType L)} {e : Expr} {c₁ c₂ : Cmd} {τ₁ τ₂ : Ty} {ℓ : L}
        → Typed Γ e (t_sum τ₁ τ₂) ℓ
        → Safe (𝓛.join pc ℓ) (record { type = τ₁; label = ℓ } ∷ Γ) c₁
        → Safe (𝓛.join pc ℓ) (record { type = τ₂; label = ℓ } ∷ Γ) c₂
        → Safe pc Γ (case e c₁ c₂)
    tc_subs : {pc pc' : L} {Γ : List (LabelledType L)} {c : Cmd} → Safe pc' Γ c → 𝓛.leq pc pc' ≡ true → Safe pc Γ c

-- A script has a derivation: its command has one with its starting label for pc, and no variable bound.
abbrev pub Derivable : {L : Type 0} → Labels L → Declarations L → Script → Type 0
Derivable 𝓛 D p = Safe 𝓛 D (start_of 𝓛 D p.opening.start) [] p.command

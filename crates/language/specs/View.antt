-- The scope's section "The view", over any rule of who sees which label, with pairs (request (f)); figure 6 of the
-- paper.
use Rattle.std.specs.Prelude.{◌≡◌, Bool, true, false, ℕ}
use Rattle.language.specs.Syntax.{Head, Value, int, err, inl, inr, pkg, pair, blank}
use Rattle.language.specs.World.{Mem}

-- v where it is seen
unfoldable pub seen : Bool → Value → Value
seen true v = v
seen false v = blank

-- What stands in a view for a value: the content of a package whose label is not seen is blank, also inside a content
-- that is. A pair shows what its parts show, each by itself.
-- `shows l` tells whether the label that the number l names is seen.
unfoldable pub mask : (ℕ → Bool) → Value → Value
mask shows (int n) = int n
mask shows (err e) = err e
mask shows (inl v) = inl (mask shows v)
mask shows (inr v) = inr (mask shows v)
mask shows (pkg h v) = pkg h (seen (shows h.label) (mask shows v))
mask shows (pair v w) = pair (mask shows v) (mask shows w)
mask shows blank = blank

-- What stands in a view for a memory; `sees x` tells whether the location's label is seen.
unfoldable pub mask_mem : (ℕ → Bool) → (ℕ → Bool) → Mem → Mem
mask_mem sees shows M = λ x. seen (sees x) (mask shows (M x))

-- Figure 6. An observer is given by the labels that it sees, instead of by a label ℓ (the figure asks ℓ₁ ≰ ℓ, its text
-- C(ℓ₁) ≰ C(ℓ)); here it is asked that ℓ₁ is not seen. The figure has no rule of errors, pairs and blank, which are
-- values here.
pub data Equiv (shows : ℕ → Bool) : Value → Value → Type 0 where
  ve_int : {i : ℕ} → Equiv shows (int i) (int i)
  ve_err : {e : ℕ} → Equiv shows (err e) (err e)
  ve_inl : {v₁ v₂ : Value} → Equiv shows v₁ v₂ → Equiv shows (inl v₁) (inl v₂)
  ve_inr : {v₁ v₂ : Value} → Equiv shows v₁ v₂ → Equiv shows (inr v₁) (inr v₂)
  ve_pack_in : {h : Head} {v₁ v₂ : Value} → Equiv shows v₁ v₂ → Equiv shows (pkg h v₁) (pkg h v₂)
  ve_pack_lab : {h : Head} {v₁ v₂ : Value} → shows h.label ≡ false → Equiv shows (pkg h v₁) (pkg h v₂)
  ve_pair : {v₁ v₂ w₁ w₂ : Value} → Equiv shows v₁ v₂ → Equiv shows w₁ w₂ → Equiv shows (pair v₁ w₁) (pair v₂ w₂)
  ve_blank : Equiv shows blank blank

-- Definition 1: memories are equivalent when the values at each location that is seen are.
abbrev pub EquivMem : (ℕ → Bool) → (ℕ → Bool) → Mem → Mem → Type 0
EquivMem sees shows M N = (x : ℕ) → sees x ≡ true → Equiv shows (M x) (N x)

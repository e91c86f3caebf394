-- Masks are equal exactly if the values are equivalent (figure 6), and the type test respects that.
use mathlib.Core.Logic.{◌↔◌}
use mathlib.Core.Path.{◌≡◌, refl, ap, ap₂}
use mathlib.Core.Bool.{Bool, true, false}
use Prim.Native.Nat.{ℕ}
use Rattle.logic.specs.Booleans.{both}
use Rattle.language.specs.Syntax.{Ty, t_int, t_err, t_pkg, t_sum, t_pair, Head, Value, int, err, inl, inr, pkg}
use Rattle.language.specs.Syntax.{pair, blank, has}
use Rattle.language.specs.World.{Mem}
use Rattle.language.specs.View.{seen, mask, mask_mem, Equiv, ve_int, ve_err, ve_inl, ve_inr, ve_pack_in}
use Rattle.language.specs.View.{ve_pack_lab, ve_pair, ve_blank, EquivMem}

-- the graph of mask, to match two values by what they show
data Masks (shows : ℕ → Bool) : Value → Value → Type 0 where
  s_int : {n : ℕ} → Masks shows (int n) (int n)
  s_err : {n : ℕ} → Masks shows (err n) (err n)
  s_inl : {v u : Value} → Masks shows v u → Masks shows (inl v) (inl u)
  s_inr : {v u : Value} → Masks shows v u → Masks shows (inr v) (inr u)
  s_in : {h : Head} {v u : Value} → Masks shows v u → Masks shows (pkg h v) (pkg h u)
  s_hidden : {h : Head} {v : Value} → shows h.label ≡ false → Masks shows (pkg h v) (pkg h blank)
  s_pair : {v w u z : Value} → Masks shows v u → Masks shows w z → Masks shows (pair v w) (pair u z)
  s_blank : Masks shows blank blank

module _ (shows : ℕ → Bool) where
  pub equiv_refl : (v : Value) → Equiv shows v v
  equiv_refl (int n) = ve_int
  equiv_refl (err n) = ve_err
  equiv_refl (inl v) = ve_inl (equiv_refl v)
  equiv_refl (inr v) = ve_inr (equiv_refl v)
  equiv_refl (pkg h v) = ve_pack_in (equiv_refl v)
  equiv_refl (pair v w) = ve_pair (equiv_refl v) (equiv_refl w)
  equiv_refl blank = ve_blank

  masks_pkg : (b : Bool) (h : Head) (v : Value) → shows h.label ≡ b → Masks shows v (mask shows v)
      → Masks shows (pkg h v) (pkg h (seen b (mask shows v)))
  unfolding seen
  masks_pkg true h v e m = s_in m
  masks_pkg false h v e m = s_hidden e

  masks : (v : Value) → Masks shows v (mask shows v)
  unfolding mask
  masks (int n) = s_int
  masks (err n) = s_err
  masks (inl v) = s_inl (masks v)
  masks (inr v) = s_inr (masks v)
  masks (pkg h v) = masks_pkg (shows h.label) h v refl (masks v)
  masks (pair v w) = s_pair (masks v) (masks w)
  masks blank = s_blank

  same_masks : {v w u : Value} → Masks shows v u → Masks shows w u → Equiv shows v w
  same_masks s_int s_int = ve_int
  same_masks s_err s_err = ve_err
  same_masks (s_inl h) (s_inl k) = ve_inl (same_masks h k)
  same_masks (s_inr h) (s_inr k) = ve_inr (same_masks h k)
  same_masks (s_in h) (s_in k) = ve_pack_in (same_masks h k)
  same_masks (s_in s_blank) (s_hidden h) = ve_pack_lab h
  same_masks (s_hidden h) (s_in s_blank) = ve_pack_lab h
  same_masks (s_hidden h) (s_hidden k) = ve_pack_lab h
  same_masks (s_pair h i) (s_pair k j) = ve_pair (same_masks h k) (same_masks i j)
  same_masks s_blank s_blank = ve_blank

  pub equiv_of_mask : (v w : Value) → mask shows v ≡ mask shows w → Equiv shows v w
  equiv_of_mask v w e = same_masks (masks v) (rw e (masks w))

  hidden : (l : ℕ) (a b : Value) → shows l ≡ false → seen (shows l) a ≡ seen (shows l) b
  unfolding seen
  hidden l a b e = rw e refl

  pub mask_of_equiv : {v w : Value} → Equiv shows v w → mask shows v ≡ mask shows w
  unfolding mask
  mask_of_equiv ve_int = refl
  mask_of_equiv ve_err = refl
  mask_of_equiv (ve_inl e) = ap inl (mask_of_equiv e)
  mask_of_equiv (ve_inr e) = ap inr (mask_of_equiv e)
  mask_of_equiv (ve_pack_in {h} e) = ap (λ u. pkg h (seen (shows h.label) u)) (mask_of_equiv e)
  mask_of_equiv (ve_pack_lab {h} {v₁} {v₂} e) = ap (pkg h) (hidden h.label (mask shows v₁) (mask shows v₂) e)
  mask_of_equiv (ve_pair e f) = ap₂ pair (mask_of_equiv e) (mask_of_equiv f)
  mask_of_equiv ve_blank = refl

  pub mask_iff : (v w : Value) → (mask shows v ≡ mask shows w) ↔ Equiv shows v w
  mask_iff v w = (equiv_of_mask v w, λ h. mask_of_equiv h)

  -- the type test sees nothing that is hidden
  pub has_equiv : {v w : Value} → Equiv shows v w → (t : Ty) → has v t ≡ has w t
  unfolding has
  has_equiv ve_int t = refl
  has_equiv ve_err t = refl
  has_equiv ve_blank t = refl
  has_equiv (ve_inl h) t_int = refl
  has_equiv (ve_inl h) t_err = refl
  has_equiv (ve_inl h) t_pkg = refl
  has_equiv (ve_inl h) (t_sum a b) = has_equiv h a
  has_equiv (ve_inl h) (t_pair a b) = refl
  has_equiv (ve_inr h) t_int = refl
  has_equiv (ve_inr h) t_err = refl
  has_equiv (ve_inr h) t_pkg = refl
  has_equiv (ve_inr h) (t_sum a b) = has_equiv h b
  has_equiv (ve_inr h) (t_pair a b) = refl
  has_equiv (ve_pack_in h) t_int = refl
  has_equiv (ve_pack_in h) t_err = refl
  has_equiv (ve_pack_in h) t_pkg = refl
  has_equiv (ve_pack_in h) (t_sum a b) = refl
  has_equiv (ve_pack_in h) (t_pair a b) = refl
  has_equiv (ve_pack_lab h) t_int = refl
  has_equiv (ve_pack_lab h) t_err = refl
  has_equiv (ve_pack_lab h) t_pkg = refl
  has_equiv (ve_pack_lab h) (t_sum a b) = refl
  has_equiv (ve_pack_lab h) (t_pair a b) = refl
  has_equiv (ve_pair h k) t_int = refl
  has_equiv (ve_pair h k) t_err = refl
  has_equiv (ve_pair h k) t_pkg = refl
  has_equiv (ve_pair h k) (t_sum a b) = refl
  has_equiv (ve_pair h k) (t_pair a b) = ap₂ both (has_equiv h a) (has_equiv k b)

-- Memories.

seen_true : {b : Bool} {v w : Value} → b ≡ true → seen b v ≡ seen b w → v ≡ w
unfolding seen
seen_true e h = rw e at h

seen_same : (b : Bool) (v w : Value) → (b ≡ true → v ≡ w) → seen b v ≡ seen b w
unfolding seen
seen_same true v w h = h refl
seen_same false v w h = refl

module _ (sees shows : ℕ → Bool) (M N : Mem) where
  pub equiv_of_view : ((x : ℕ) → mask_mem sees shows M x ≡ mask_mem sees shows N x) → EquivMem sees shows M N
  unfolding mask_mem
  equiv_of_view h x s = equiv_of_mask shows (M x) (N x) (seen_true s (h x))

  pub view_of_equiv : EquivMem sees shows M N → (x : ℕ) → mask_mem sees shows M x ≡ mask_mem sees shows N x
  unfolding mask_mem
  view_of_equiv h x = seen_same (sees x) _ _ λ s. mask_of_equiv shows (h x s)

  -- The views of two memories are equal exactly if the memories are equivalent.
  pub view_iff : ((x : ℕ) → mask_mem sees shows M x ≡ mask_mem sees shows N x) ↔ EquivMem sees shows M N
  view_iff = (equiv_of_view, view_of_equiv)

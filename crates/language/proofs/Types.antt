-- Laws of the type tests: what follows where a test passes, and when it passes; the types of
-- expressions as derivations.
use mathlib.Core.Path.{◌≡◌, refl, ap, sym, ◌∙◌, subst}
use mathlib.Core.Bool.{Bool, true, false, false≢true}
use mathlib.Core.Option.{Option, none, some}
use mathlib.Core.List.{List}
use Prim.Native.Nat.{ℕ}
use Rattle.logic.proofs.BooleanLaws.{both_left, both_right, both_true}
use Rattle.logic.proofs.OptionLaws.{none_some, some_path}
use Rattle.language.specs.Syntax.{Ty, t_int, t_err, t_pkg, t_sum, t_pair, Ty-discrete, int, err, inl, inr, pkg}
use Rattle.language.specs.Syntax.{pair, blank, Part, pick, Expr, val, loc, var, plus, left, right, pack, unpack}
use Rattle.language.specs.Syntax.{pairing, proj}
use Rattle.language.specs.Declarations.{Shapes, nth}
use Rattle.language.specs.Typing.{is_yes, same_ty, is_ty, has_ty, left_is, right_is, on_sum, pair_is, part_ty, given}
use Rattle.language.specs.Typing.{type_of_value, type_of}

same_ty_refl : (a : Ty) → same_ty a a ≡ true
unfolding same_ty is_yes
same_ty_refl a = on (Ty-discrete a a)
  where
    on : (d : Dec (a ≡ a)) → is_yes d ≡ true
    on (yes p) = refl
    on (no n) = absurd (n refl)

same_ty_path : (a b : Ty) → same_ty a b ≡ true → a ≡ b
unfolding same_ty is_yes
same_ty_path a b h = on (Ty-discrete a b) h
  where
    on : (d : Dec (a ≡ b)) → is_yes d ≡ true → a ≡ b
    on (yes p) e = p
    on (no n) e = absurd (false≢true e)

pub is_ty_true : (t : Ty) {o : Option Ty} → o ≡ some t → is_ty t o ≡ true
unfolding is_ty
is_ty_true t e = rw (e, is_ty) (same_ty_refl t)

pub is_ty_path : (t : Ty) (o : Option Ty) → is_ty t o ≡ true → o ≡ some t
unfolding is_ty
is_ty_path t none h = absurd (false≢true h)
is_ty_path t (some s) h = ap some (sym (same_ty_path t s h))

pub has_ty_true : {o : Option Ty} (t : Ty) → o ≡ some t → has_ty o ≡ true
unfolding has_ty
has_ty_true t e = rw (e, has_ty)

pub has_ty_path : (o : Option Ty) → has_ty o ≡ true → (t : Ty) × (o ≡ some t)
unfolding has_ty
has_ty_path none h = absurd (false≢true h)
has_ty_path (some t) h = (t, refl)

pub given_true : {b : Bool} (t : Ty) → b ≡ true → given b t ≡ some t
unfolding given
given_true t p = rw (p, given)

pub given_path : (b : Bool) (t s : Ty) → given b t ≡ some s → (b ≡ true) × (t ≡ s)
unfolding given
given_path true t s h = (refl, some_path h)
given_path false t s h = none_some h

pub left_is_true : {t : Ty} {o : Option Ty} (a b : Ty) → t ≡ t_sum a b → o ≡ some a → left_is t o ≡ true
unfolding left_is
left_is_true a b p e = rw (p, left_is) (is_ty_true a e)

pub left_is_path : (t : Ty) (o : Option Ty) → left_is t o ≡ true → (a : Ty) × (b : Ty) × (t ≡ t_sum a b) × (o ≡ some a)
unfolding left_is
left_is_path t_int o h = absurd (false≢true h)
left_is_path t_err o h = absurd (false≢true h)
left_is_path t_pkg o h = absurd (false≢true h)
left_is_path (t_sum a b) o h = (a, b, refl, is_ty_path a o h)
left_is_path (t_pair a b) o h = absurd (false≢true h)

pub right_is_true : {t : Ty} {o : Option Ty} (a b : Ty) → t ≡ t_sum a b → o ≡ some b → right_is t o ≡ true
unfolding right_is
right_is_true a b p e = rw (p, right_is) (is_ty_true b e)

pub right_is_path : (t : Ty) (o : Option Ty) → right_is t o ≡ true
    → (a : Ty) × (b : Ty) × (t ≡ t_sum a b) × (o ≡ some b)
unfolding right_is
right_is_path t_int o h = absurd (false≢true h)
right_is_path t_err o h = absurd (false≢true h)
right_is_path t_pkg o h = absurd (false≢true h)
right_is_path (t_sum a b) o h = (a, b, refl, is_ty_path b o h)
right_is_path (t_pair a b) o h = absurd (false≢true h)

pub on_sum_true : {o : Option Ty} (k : Ty → Ty → Bool) (a b : Ty) → o ≡ some (t_sum a b) → k a b ≡ true
    → on_sum o k ≡ true
unfolding on_sum
on_sum_true k a b e h = rw (e, on_sum) h

pub on_sum_path : (o : Option Ty) (k : Ty → Ty → Bool) → on_sum o k ≡ true
    → (a : Ty) × (b : Ty) × (o ≡ some (t_sum a b)) × (k a b ≡ true)
unfolding on_sum
on_sum_path none k h = absurd (false≢true h)
on_sum_path (some t_int) k h = absurd (false≢true h)
on_sum_path (some t_err) k h = absurd (false≢true h)
on_sum_path (some t_pkg) k h = absurd (false≢true h)
on_sum_path (some (t_sum a b)) k h = (a, b, refl, h)
on_sum_path (some (t_pair a b)) k h = absurd (false≢true h)

pub pair_is_true : {t : Ty} {o₁ o₂ : Option Ty} (a b : Ty) → t ≡ t_pair a b → o₁ ≡ some a → o₂ ≡ some b
    → pair_is t o₁ o₂ ≡ true
unfolding pair_is
pair_is_true a b p e f = rw (p, pair_is) (both_true (is_ty_true a e) (is_ty_true b f))

pub pair_is_path : (t : Ty) (o₁ o₂ : Option Ty) → pair_is t o₁ o₂ ≡ true
    → (a : Ty) × (b : Ty) × (t ≡ t_pair a b) × (o₁ ≡ some a) × (o₂ ≡ some b)
unfolding pair_is
pair_is_path t_int o₁ o₂ h = absurd (false≢true h)
pair_is_path t_err o₁ o₂ h = absurd (false≢true h)
pair_is_path t_pkg o₁ o₂ h = absurd (false≢true h)
pair_is_path (t_sum a b) o₁ o₂ h = absurd (false≢true h)
pair_is_path (t_pair a b) o₁ o₂ h = (a, b, refl, is_ty_path a o₁ (both_left _ _ h), is_ty_path b o₂ (both_right _ _ h))

pub part_ty_true : (p : Part) {o : Option Ty} (a b : Ty) → o ≡ some (t_pair a b) → part_ty p o ≡ some (pick p a b)
unfolding part_ty
part_ty_true p a b e = rw (e, part_ty)

pub part_ty_path : (p : Part) (o : Option Ty) (t : Ty) → part_ty p o ≡ some t
    → (a : Ty) × (b : Ty) × (o ≡ some (t_pair a b)) × (pick p a b ≡ t)
unfolding part_ty
part_ty_path p none t h = none_some h
part_ty_path p (some t_int) t h = none_some h
part_ty_path p (some t_err) t h = none_some h
part_ty_path p (some t_pkg) t h = none_some h
part_ty_path p (some (t_sum a b)) t h = none_some h
part_ty_path p (some (t_pair a b)) t h = (a, b, refl, some_path h)

-- The types of figure 4 alone, without its labels.
pub data HasType (S : Shapes) (Γ : List Ty) : Expr → Ty → Type 0 where
  h_int : {n : ℕ} → HasType S Γ (val (int n)) t_int
  h_loc : {x : ℕ} → HasType S Γ (loc x) (S.loc_ty x)
  h_var : {d : ℕ} {t : Ty} → nth Γ d ≡ some t → HasType S Γ (var d) t
  h_plus : {a b : Expr} → HasType S Γ a t_int → HasType S Γ b t_int → HasType S Γ (plus a b) t_int
  h_left : {n : ℕ} {e : Expr} {a b : Ty} → S.ty n ≡ t_sum a b → HasType S Γ e a → HasType S Γ (left n e) (t_sum a b)
  h_right : {n : ℕ} {e : Expr} {a b : Ty} → S.ty n ≡ t_sum a b → HasType S Γ e b → HasType S Γ (right n e) (t_sum a b)
  h_pack : {l : ℕ} {e : Expr} {t : Ty} → HasType S Γ e t → HasType S Γ (pack l e) (t_sum t_pkg t_err)
  h_unpack : {n l : ℕ} {e : Expr} {t : Ty} → S.ty n ≡ t_sum t t_err → HasType S Γ e t_pkg
      → HasType S Γ (unpack n l e) (t_sum t t_err)
  h_pair : {n : ℕ} {e f : Expr} {a b : Ty} → S.ty n ≡ t_pair a b → HasType S Γ e a → HasType S Γ f b
      → HasType S Γ (pairing n e f) (t_pair a b)
  h_proj : {p : Part} {e : Expr} {a b : Ty} → HasType S Γ e (t_pair a b) → HasType S Γ (proj p e) (pick p a b)

module _ (S : Shapes) (Γ : List Ty) where
  -- an expression has the type that `type_of` gives
  pub has_type : (e : Expr) {t : Ty} → type_of S Γ e ≡ some t → HasType S Γ e t
  unfolding type_of type_of_value
  has_type (val (int n)) h = subst (HasType S Γ (val (int n))) (some_path h) h_int
  has_type (val (err n)) h = none_some h
  has_type (val (inl v)) h = none_some h
  has_type (val (inr v)) h = none_some h
  has_type (val (pkg h v)) e = none_some e
  has_type (val (pair v w)) h = none_some h
  has_type (val blank) h = none_some h
  has_type (loc x) h = subst (HasType S Γ (loc x)) (some_path h) h_loc
  has_type (var d) h = h_var h
  has_type (plus a b) h =
      let g = given_path _ _ _ h in
      rw (← g.1) (h_plus (has_type a (is_ty_path t_int _ (both_left _ _ g.0)))
      (has_type b (is_ty_path t_int _ (both_right _ _ g.0))))
  has_type (left n e) h =
      let g = given_path _ _ _ h in
      let l = left_is_path _ _ g.0 in
      rw (← g.1, l.2) (h_left l.2 (has_type e l.3))
  has_type (right n e) h =
      let g = given_path _ _ _ h in
      let r = right_is_path _ _ g.0 in
      rw (← g.1, r.2) (h_right r.2 (has_type e r.3))
  has_type (pack l e) h =
      let g = given_path _ _ _ h in
      rw (← g.1) (h_pack (has_type e (has_ty_path _ g.0).1))
  has_type (unpack n l e) h =
      let g = given_path _ _ _ h in
      let r = right_is_path _ _ (both_right _ _ g.0) in
      let p : S.ty n ≡ t_sum r.0 t_err = r.2 ∙ ap (t_sum r.0) (sym (some_path r.3)) in
      rw (← g.1, p) (h_unpack p (has_type e (is_ty_path t_pkg _ (both_left _ _ g.0))))
  has_type (pairing n a b) h =
      let g = given_path _ _ _ h in
      let p = pair_is_path _ _ _ g.0 in
      rw (← g.1, p.2) (h_pair p.2 (has_type a p.3) (has_type b p.4))
  has_type (proj p e) h = let q = part_ty_path p _ _ h in rw (← q.3) (h_proj (has_type e q.2))

  pub is_type_lem : {e : Expr} {t : Ty} → is_ty t (type_of S Γ e) ≡ true → HasType S Γ e t
  is_type_lem h = has_type _ (is_ty_path _ _ h)

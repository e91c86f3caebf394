-- Typing by number is typing: over the table of a sheet that repeats nothing, the number found is that of the type.
use mathlib.Core.Path.{◌≡◌, refl, sym, ap, ◌∙◌}
use mathlib.Core.Bool.{Bool, true, false, cond, false≢true}
use mathlib.Core.Option.{Option, none, some}
use mathlib.Core.List.{List, [], ◌∷◌}
use Prim.Native.Nat.{ℕ, zero, suc, ◌<◌}
use native.Mathlib.Omega.{arith}
use borrow.Author.Tests.{ltb-true}
use Rattle.logic.proofs.BooleanLaws.{both_left, both_right}
use Rattle.language.specs.Syntax.{Ty, t_err, Part, first, second, pick, Expr, Cmd}
use Rattle.language.specs.Declarations.{nth}
use Rattle.language.specs.Typing.{is_ty, has_ty, left_is, right_is, on_sum, pair_is, part_ty, given, type_of_value}
use Rattle.language.specs.Typing.{type_of}
use Rattle.language.specs.Typing.{shape}
use Rattle.script.specs.Lines.{SourceE, s_int, s_loc, s_var, s_plus, s_left, s_right, s_pack, s_unpack, s_pair, s_proj}
use Rattle.script.specs.Lines.{Source, s_skip, s_seq, s_assign, s_while, s_case}
use Rattle.sheet.specs.declared.Kind.{Kind}
use Rattle.sheet.specs.declared.Kind.TheVariants.{Sum, Pair}
use Rattle.sheet.specs.Sheet.{Sheet, compound_of, ty_of, formed, repeats}
use Rattle.sheet.specs.Internal.Tables.{table_of, types_in, left_in, right_in, type_in}
use Rattle.sheet.specs.Internal.TypeTest.{is_of, is_pair}
use Rattle.sheet.specs.Meaning.{shapes_of}
use Rattle.sheet.proofs.FormLaws.{type-count}
use Rattle.sheet.proofs.TypeLaws.{ty_0, ty_1, ty_2, ty_3, ty_4}
use Rattle.sheet.proofs.TableLaws.{types_in_lem, type_in_lem}
use Rattle.sheet.proofs.NumberLaws.{other, left_in_there, right_in_there, same_number-type, type_in_there, by_kind}
use Rattle.sheet.proofs.NumberLaws.{kind_test}
use Rattle.checker.specs.Internal.Numbers.{is_no, some_no, left_is_no, right_is_no, on_sum_no, pair_is_no, part_no}
use Rattle.checker.specs.Internal.Numbers.{given_no}
use Rattle.checker.specs.Internal.Numbers.{type_no, shape_no}

module _ (s : Sheet) (fm : formed s ≡ true) (once : repeats s ≡ false) where
  abbrev T : List ℕ
  T = table_of s

  -- The number of a type that there is, and no number where there is no type.
  data Agree : Option ℕ → Option Ty → Type 0 where
    neither : Agree none none
    each : {n : ℕ} → n < types_in T → Agree (some n) (some (ty_of s n))

  is_agree : (n : ℕ) → n < types_in T → {o : Option ℕ} {p : Option Ty} → Agree o p → is_no n o ≡ is_ty (ty_of s n) p
  unfolding is_no is_ty
  is_agree n h neither = refl
  is_agree n h (each {n = m} k) = same_number-type s fm once n m h k

  -- the same, for the number of a known type
  is_type_lem : (n : ℕ) → n < types_in T → {τ : Ty} → ty_of s n ≡ τ → {o : Option ℕ} {p : Option Ty} → Agree o p
      → is_no n o ≡ is_ty τ p
  is_type_lem n h q {p = p} g = is_agree n h g ∙ ap (λ (τ : Ty). is_ty τ p) q

  some_agree : {o : Option ℕ} {p : Option Ty} → Agree o p → some_no o ≡ has_ty p
  unfolding some_no has_ty
  some_agree neither = refl
  some_agree (each k) = refl

  left_agree : (n : ℕ) {o : Option ℕ} {p : Option Ty} → Agree o p → left_is_no T n o ≡ left_is (ty_of s n) p
  unfolding left_is_no left_is compound_of other
  left_agree n {p = p} g = kind_test s fm Sum n (λ τ. left_is τ p) _ refl refl refl (λ a b. refl)
      (is_agree (left_in T n) (left_in_there s fm n) g)

  right_agree : (n : ℕ) {o : Option ℕ} {p : Option Ty} → Agree o p → right_is_no T n o ≡ right_is (ty_of s n) p
  unfolding right_is_no right_is compound_of other
  right_agree n {p = p} g = kind_test s fm Sum n (λ τ. right_is τ p) _ refl refl refl (λ a b. refl)
      (is_agree (right_in T n) (right_in_there s fm n) g)

  on_agree : {o : Option ℕ} {p : Option Ty} → Agree o p → (k : ℕ → ℕ → Bool) (f : Ty → Ty → Bool)
      → ((m n : ℕ) → m < types_in T → n < types_in T → k m n ≡ f (ty_of s m) (ty_of s n)) → on_sum_no T o k ≡ on_sum p f
  unfolding on_sum_no on_sum compound_of other
  on_agree neither k f h = refl
  on_agree (each {n} l) k f h =
      kind_test s fm Sum n (λ τ. on_sum (some τ) f) _ refl refl refl (λ a b. refl)
      (h (left_in T n) (right_in T n) (left_in_there s fm n) (right_in_there s fm n))

  given_agree : (a b : Bool) (n : ℕ) → a ≡ b → (a ≡ true → n < types_in T) → Agree (given_no a n) (given b (ty_of s n))
  unfolding given_no given
  given_agree true true n e h = each (h refl)
  given_agree true false n e h = absurd (false≢true (sym e))
  given_agree false true n e h = absurd (false≢true e)
  given_agree false false n e h = neither

  pair_agree : (n : ℕ) {o₁ o₂ : Option ℕ} {p₁ p₂ : Option Ty} → Agree o₁ p₁ → Agree o₂ p₂
      → pair_is_no T n o₁ o₂ ≡ pair_is (ty_of s n) p₁ p₂
  unfolding pair_is_no pair_is compound_of other
  pair_agree n {p₁ = p₁} {p₂} g h =
      kind_test s fm Pair n (λ τ. pair_is τ p₁ p₂) _ refl refl refl (λ a b. refl)
      (rw (is_agree (left_in T n) (left_in_there s fm n) g, is_agree (right_in T n) (right_in_there s fm n) h))

  -- a part of a type that is there, is
  pick_agree : (q : Part) (n : ℕ)
      → Agree (some (pick q (left_in T n) (right_in T n)))
      (some (pick q (ty_of s (left_in T n)) (ty_of s (right_in T n))))
  unfolding pick
  pick_agree first n = each (left_in_there s fm n)
  pick_agree second n = each (right_in_there s fm n)

  part_agree : (q : Part) {o : Option ℕ} {p : Option Ty} → Agree o p → Agree (part_no T q o) (part_ty q p)
  unfolding part_no part_ty given_no compound_of other
  part_agree q neither = neither
  part_agree q (each {n} l) =
      rw (by_kind s fm Pair n (λ τ. part_ty q (some τ)) none refl refl refl (λ a b. refl)) (on (is_pair T n))
    where
      on : (b : Bool) → Agree (given_no b (pick q (left_in T n) (right_in T n)))
          (cond b (some (pick q (ty_of s (left_in T n)) (ty_of s (right_in T n)))) none)
      on true = pick_agree q n
      on false = neither

  -- where a sum or a pair is made, its number is there
  kind_there : (k : Kind) (n : ℕ) → is_of T k n ≡ true → n < types_in T
  unfolding is_of
  kind_there k n e = ltb-true _ _ (both_left _ _ (both_right _ _ e))

  given_there : (n : ℕ) → n < types_in T → {τ : Ty} → ty_of s n ≡ τ → (a b : Bool) → a ≡ b
      → Agree (given_no a n) (given b τ)
  given_there n h q a b e = rw (← q) (given_agree a b n e (λ z. h))

  five : (n : ℕ) → n < 5 → n < types_in T
  five n h = omega (arith, types_in_lem s fm, type-count s)

  error : Agree (some 1) (some t_err)
  error = rw (← ty_1 s) (each (five 1 (omega arith)))

  -- The numbers that are bound are there.
  pub data Bound : List ℕ → List Ty → Type 0 where
    no_bound : Bound [] []
    bound : {n : ℕ} {ns : List ℕ} {τs : List Ty} → n < types_in T → Bound ns τs → Bound (n ∷ ns) (ty_of s n ∷ τs)

  nth_agree : {ns : List ℕ} {τs : List Ty} → Bound ns τs → (d : ℕ) → Agree (nth ns d) (nth τs d)
  unfolding nth
  nth_agree no_bound d = neither
  nth_agree (bound h b) zero = each h
  nth_agree (bound h b) (suc d) = nth_agree b d

  type_agree : {e : Expr} → SourceE e → {ns : List ℕ} {τs : List Ty} → Bound ns τs
      → Agree (type_no T ns e) (type_of (shapes_of s) τs e)
  unfolding type_no type_of type_of_value left_is_no right_is_no pair_is_no
  type_agree s_int b = rw (← ty_0 s) (each (five 0 (omega arith)))
  type_agree (s_loc {x}) b = rw (← type_in_lem s fm x) (each (type_in_there s fm x))
  type_agree (s_var {d}) b = nth_agree b d
  type_agree (s_plus p q) b =
      let there = five 0 (omega arith) in
      given_there 0 there (ty_0 s) _ _
      (rw (is_type_lem 0 there (ty_0 s) (type_agree p b), is_type_lem 0 there (ty_0 s) (type_agree q b)))
  type_agree (s_left {t = n} p) b =
      given_agree _ _ n (left_agree n (type_agree p b)) (λ e. kind_there Sum n (both_left _ _ e))
  type_agree (s_right {t = n} p) b =
      given_agree _ _ n (right_agree n (type_agree p b)) (λ e. kind_there Sum n (both_left _ _ e))
  type_agree (s_pack p) b = given_there 4 (five 4 (omega arith)) (ty_4 s) _ _ (some_agree (type_agree p b))
  type_agree (s_unpack {t = n} p) b =
      given_agree _ _ n (rw (is_type_lem 2 (five 2 (omega arith)) (ty_2 s) (type_agree p b), right_agree n error))
      (λ e. kind_there Sum n (both_left _ _ (both_right _ _ e)))
  type_agree (s_pair {t = n} p q) b =
      given_agree _ _ n (pair_agree n (type_agree p b) (type_agree q b)) (λ e. kind_there Pair n (both_left _ _ e))
  type_agree (s_proj {p = q} p) b = part_agree q (type_agree p b)

  pub shape_agree : {c : Cmd} → Source c → {ns : List ℕ} {τs : List Ty} → Bound ns τs
      → shape_no T ns c ≡ shape (shapes_of s) τs c
  unfolding shape_no shape
  shape_agree s_skip b = refl
  shape_agree (s_seq p q) b = rw (shape_agree p b, shape_agree q b)
  shape_agree (s_assign {x} p) b =
      is_type_lem (type_in T x) (type_in_there s fm x) (ap (ty_of s) (type_in_lem s fm x)) (type_agree p b)
  shape_agree (s_while p q) b = rw (is_type_lem 3 (five 3 (omega arith)) (ty_3 s) (type_agree p b), shape_agree q b)
  shape_agree (s_case p q r) b =
      on_agree (type_agree p b) _ _ (λ m n h k. rw (shape_agree q (bound h b), shape_agree r (bound k b)))

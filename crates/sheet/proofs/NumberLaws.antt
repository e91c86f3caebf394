-- Types by number as the table has them, and the type test by number.
use mathlib.Core.Path.{◌≡◌, refl, sym, ap, ap₂, ◌∙◌}
use mathlib.Core.Bool.{Bool, true, false, cond}
use Prim.Native.Nat.{ℕ, ◌<◌, ◌≤◌}
use native.Mathlib.Omega.{arith}
use lib.Dec.{eqb}
use borrow.Author.Tests.{lt-ltb, le-ltb, le-leb, lt-leb, eqb-true, eq-eqb, ne_eqb}
use Rattle.logic.specs.Booleans.{both}
use Rattle.logic.proofs.BooleanLaws.{not_so}
use Rattle.sets.proofs.Walks.{by_below}
use Rattle.language.specs.Syntax.{Ty, t_int, t_err, t_pkg, t_sum, t_pair, Ty-discrete, Value, int, err, inl, inr, pkg}
use Rattle.language.specs.Syntax.{pair, blank, has}
use Rattle.language.specs.World.{wanted}
use Rattle.language.specs.Typing.{is_yes, same_ty}
use Rattle.sheet.specs.declared.Kind.{Kind}
use Rattle.sheet.specs.declared.Kind.TheVariants.{Sum, Pair}
use Rattle.sheet.specs.Sheet.{Sheet, compound_of, ty_of, type_count, formed, same_kind, repeats}
use Rattle.sheet.specs.Internal.Tables.{table_of, types_in, left_in, right_in, type_in, given_parts, type_parts}
use Rattle.sheet.specs.Internal.Tables.{parts_no}
use Rattle.sheet.specs.Internal.TypeTest.{is_of, has_no}
use Rattle.sheet.proofs.FormLaws.{type-count, parts_there, parts_past, location-type_there}
use Rattle.sheet.proofs.TypeLaws.{ty_0, ty_past, Parts, Which, is_int, is_err, is_pkg, is_sum_lem, is_pair_lem, which}
use Rattle.sheet.proofs.TypeLaws.{ty_once}
use Rattle.sheet.proofs.TableLaws.{types_in_lem, left_in_lem, right_in_lem, kind_in_lem, type_in_lem}

is_yes_lem : {P : Type 0} (d : Dec P) (b : Bool) → (b ≡ true → P) → (P → b ≡ true) → b ≡ is_yes d
unfolding is_yes
is_yes_lem (yes p) b f g = g p
is_yes_lem (no n) b f g = not_so b (λ e. n (f e))

-- the other of the two kinds
unfoldable pub other : Kind → Kind
other Sum = Pair
other Pair = Sum

both_cond : (a b : Bool) → both a b ≡ cond a b false
unfolding both
both_cond true b = refl
both_cond false b = refl

module _ (s : Sheet) (fm : formed s ≡ true) where
  -- ---- parts

  -- every number has parts that are there
  pub left_in_there : (n : ℕ) → left_in (table_of s) n < types_in (table_of s)
  left_in_there n = rw (left_in_lem s fm n, types_in_lem s fm) (parts_there s fm n).0

  pub right_in_there : (n : ℕ) → right_in (table_of s) n < types_in (table_of s)
  right_in_there n = rw (right_in_lem s fm n, types_in_lem s fm) (parts_there s fm n).1

  -- equal types have equal numbers
  pub type_in_once : repeats s ≡ false → (m n : ℕ) → m < types_in (table_of s) → n < types_in (table_of s)
      → ty_of s m ≡ ty_of s n → m ≡ n
  type_in_once once m n h k p = ty_once s fm once m n (rw (types_in_lem s fm) at h) (rw (types_in_lem s fm) at k) p

  -- so equal numbers are equal types
  pub same_number-type : repeats s ≡ false → (m n : ℕ) → m < types_in (table_of s) → n < types_in (table_of s)
      → eqb m n ≡ same_ty (ty_of s m) (ty_of s n)
  unfolding same_ty
  same_number-type once m n h k =
      is_yes_lem (Ty-discrete (ty_of s m) (ty_of s n)) (eqb m n) (λ e. ap (ty_of s) (eqb-true m n e))
      (λ e. eq-eqb m n (type_in_once once m n h k e))

  -- ---- locations

  pub type_in_there : (x : ℕ) → type_in (table_of s) x < types_in (table_of s)
  type_in_there x = rw (type_in_lem s fm x, types_in_lem s fm) (location-type_there s fm x)

  -- ---- the type test

  -- the type that an unpack wants is that of the left part, for every number
  wanted_of : {n : ℕ} {τ : Ty} → Which s fm n τ → ty_of s (parts_no s n).left ≡ wanted τ
  unfolding wanted parts_no type_parts given_parts
  wanted_of is_int = ty_0 s
  wanted_of is_err = ty_0 s
  wanted_of is_pkg = ty_0 s
  wanted_of (is_sum_lem p) = p.left_is_lem
  wanted_of (is_pair_lem p) = p.left_is_lem

  pub left_wanted : (n : ℕ) → ty_of s (left_in (table_of s) n) ≡ wanted (ty_of s n)
  unfolding wanted
  left_wanted n =
      ap (ty_of s) (left_in_lem s fm n)
      ∙ by_below n (type_count s) (λ h. wanted_of (which s fm n h)) (λ h. rw (parts_past s n h, ty_past s n h) (ty_0 s))

  -- a number with parts is of its kind and of no other
  of_kind : {n : ℕ} {j : Kind} {a b : Ty} → Parts s fm n j a b → (k : Kind) → is_of (table_of s) k n ≡ same_kind k j
  unfolding is_of both
  of_kind {n} p k =
      rw (
        le-leb 3 n p.from_3,
        lt-ltb n (types_in (table_of s)) (rw (types_in_lem s fm) p.there),
        kind_in_lem s fm n,
        p.kind_is,
      )

  -- a number below 3 or past the last is of none
  no_kind_low : (k : Kind) (n : ℕ) → n < 3 → is_of (table_of s) k n ≡ false
  unfolding is_of both
  no_kind_low k n h = rw (lt-leb 3 n h)

  no_kind_past : (k : Kind) (n : ℕ) → type_count s ≤ n → is_of (table_of s) k n ≡ false
  unfolding is_of both
  no_kind_past k n h =
      rw (le-leb 3 n (omega (arith, type-count s)), le-ltb n (types_in (table_of s)) (rw (types_in_lem s fm) h))

  -- what a function says of a number, if it says d of every type but those of the kind k
  pub by_kind : {A : Type 0} (k : Kind) (n : ℕ) (g : Ty → A) (d : A) → g t_int ≡ d → g t_err ≡ d → g t_pkg ≡ d
      → ((a b : Ty) → g (compound_of (other k) a b) ≡ d)
      → g (ty_of s n) ≡ cond (is_of (table_of s) k n)
      (g (compound_of k (ty_of s (left_in (table_of s) n)) (ty_of s (right_in (table_of s) n)))) d
  unfolding same_kind other compound_of
  by_kind k n g d i e p o =
      by_below n (type_count s) (λ l. at (which s fm n l)) (λ l. rw (no_kind_past k n l, ty_past s n l) i)
    where
      -- of a number with parts
      of : (k j : Kind) {m : ℕ} {a b : Ty} → ((a b : Ty) → g (compound_of (other k) a b) ≡ d) → Parts s fm m j a b
          → g (compound_of j a b)
          ≡ cond (same_kind k j)
          (g (compound_of k (ty_of s (left_in (table_of s) m)) (ty_of s (right_in (table_of s) m)))) d
      of Sum Sum {m} o q = rw (left_in_lem s fm m, q.left_is_lem, right_in_lem s fm m, q.right_is_lem)
      of Sum Pair o q = o _ _
      of Pair Sum o q = o _ _
      of Pair Pair {m} o q = rw (left_in_lem s fm m, q.left_is_lem, right_in_lem s fm m, q.right_is_lem)

      at : {m : ℕ} {τ : Ty} → Which s fm m τ
          → g τ ≡ cond (is_of (table_of s) k m)
          (g (compound_of k (ty_of s (left_in (table_of s) m)) (ty_of s (right_in (table_of s) m)))) d
      at is_int = rw (no_kind_low k 0 (omega arith)) i
      at is_err = rw (no_kind_low k 1 (omega arith)) e
      at is_pkg = rw (no_kind_low k 2 (omega arith)) p
      at (is_sum_lem q) = rw (of_kind q k) (of k Sum o q)
      at (is_pair_lem q) = rw (of_kind q k) (of k Pair o q)

  -- the same of a test that only types of the kind k pass, where b is its answer at the parts
  pub kind_test : (k : Kind) (n : ℕ) (f : Ty → Bool) (b : Bool) → f t_int ≡ false → f t_err ≡ false → f t_pkg ≡ false
      → ((a c : Ty) → f (compound_of (other k) a c) ≡ false)
      → b ≡ f (compound_of k (ty_of s (left_in (table_of s) n)) (ty_of s (right_in (table_of s) n)))
      → both (is_of (table_of s) k n) b ≡ f (ty_of s n)
  kind_test k n f b i e p o h = rw (by_kind k n f false i e p o, ← h) (both_cond (is_of (table_of s) k n) b)

  -- a test that no type with parts passes is a test for one of the numbers 0 to 2
  plain_test : (k : ℕ) (f : Ty → Bool) → k < 3 → eqb 0 k ≡ f t_int → eqb 1 k ≡ f t_err → eqb 2 k ≡ f t_pkg
      → ((a b : Ty) → f (t_sum a b) ≡ false) → ((a b : Ty) → f (t_pair a b) ≡ false) → {n : ℕ} {τ : Ty}
      → Which s fm n τ → eqb n k ≡ f τ
  plain_test k f h i e p no-sum no_pair is_int = i
  plain_test k f h i e p no-sum no_pair is_err = e
  plain_test k f h i e p no-sum no_pair is_pkg = p
  plain_test k f h i e p no-sum no_pair (is_sum_lem {n} q) =
      ne_eqb n k (λ z. omega (arith, q.from_3)) ∙ sym (no-sum _ _)
  plain_test k f h i e p no-sum no_pair (is_pair_lem {n} q) =
      ne_eqb n k (λ z. omega (arith, q.from_3)) ∙ sym (no_pair _ _)

  -- the test by number is the test by type
  pub has_no_lem : (v : Value) (n : ℕ) → n < type_count s → has_no (table_of s) v n ≡ has v (ty_of s n)
  unfolding has_no has compound_of other
  has_no_lem (int m) n h =
      plain_test 0 (has (int m)) (omega arith) refl refl refl (λ a b. refl) (λ a b. refl) (which s fm n h)
  has_no_lem (err e) n h =
      plain_test 1 (has (err e)) (omega arith) refl refl refl (λ a b. refl) (λ a b. refl) (which s fm n h)
  has_no_lem (inl v) n h = kind_test Sum n (has (inl v)) _ refl refl refl (λ a b. refl)
      (has_no_lem v _ (rw (types_in_lem s fm) at (left_in_there n)))
  has_no_lem (inr v) n h = kind_test Sum n (has (inr v)) _ refl refl refl (λ a b. refl)
      (has_no_lem v _ (rw (types_in_lem s fm) at (right_in_there n)))
  has_no_lem (pkg h v) n k =
      plain_test 2 (has (pkg h v)) (omega arith) refl refl refl (λ a b. refl) (λ a b. refl) (which s fm n k)
  has_no_lem (pair v w) n h =
      kind_test Pair n (has (pair v w)) _ refl refl refl (λ a b. refl)
      (ap₂ both (has_no_lem v _ (rw (types_in_lem s fm) at (left_in_there n)))
      (has_no_lem w _ (rw (types_in_lem s fm) at (right_in_there n))))
  has_no_lem blank n h = refl

  -- the last test of an unpack, for every number
  pub has_wanted : (v : Value) (n : ℕ) → has_no (table_of s) v (left_in (table_of s) n) ≡ has v (wanted (ty_of s n))
  has_wanted v n =
      has_no_lem v (left_in (table_of s) n) (rw (types_in_lem s fm) at (left_in_there n)) ∙ ap (has v) (left_wanted n)

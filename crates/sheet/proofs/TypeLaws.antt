-- The types that numbers name: the given ones, and each sum and pair by its parts; without repeats equal types have
-- equal numbers.
use mathlib.Core.Path.{◌≡◌, refl, sym, ap₂, ◌∙◌}
use mathlib.Core.Bool.{true, false}
use mathlib.Core.List.{List, [], ◌∷◌, ◌++◌}
use Prim.Native.Nat.{ℕ, zero, suc, ◌+◌, ◌<◌, ◌≤◌}
use native.Mathlib.Nat.{add-zero, add-suc, suc-add}
use native.Mathlib.Omega.{arith}
use lib.ListN.{length, get_or, length-append, get_or-append, get_or-eq_default}
use lib.Seq.{get_or-append_seam}
use borrow.Author.Tests.{ltb-true}
use Rattle.logic.proofs.BooleanLaws.{both_left, both_right}
use Rattle.language.specs.Syntax.{Ty, t_int, t_err, t_pkg, t_sum, t_pair}
use Rattle.sheet.specs.declared.Kind.{Kind}
use Rattle.sheet.specs.declared.Kind.TheVariants.{Sum, Pair}
use Rattle.sheet.specs.Internal.Tables.{no_parts, given_parts, type_parts, parts_no}
use Rattle.sheet.specs.Sheet.{Compound, Sheet, given_types, compound_of, types_from, ty_of, type_count, earlier_types}
use Rattle.sheet.specs.Sheet.{formed, repeats}
use Rattle.sheet.proofs.RepeatLaws.{parts_once}
use Rattle.sheet.proofs.FormLaws.{formed_facts, type-count, parts_earlier}

-- ---- the list of types

-- the types with one more
with_type : List Ty → Compound → List Ty
with_type ts s = ts ++ (compound_of s.kind (get_or ts s.left t_int) (get_or ts s.right t_int) ∷ [])

length_one_more : (ts : List Ty) (s : Compound) → length (with_type ts s) ≡ suc (length ts)
unfolding with_type
length_one_more ts s = simp length-append (omega arith)

length_types : (ts : List Ty) (ss : List Compound) → length (types_from ts ss) ≡ length ts + length ss
unfolding types_from with_type
length_types ts [] = sym (add-zero (length ts))
length_types ts (s ∷ ss) = omega (arith, length_types (with_type ts s) ss, length_one_more ts s)

types_kept : (ts : List Ty) (ss : List Compound) (n : ℕ) (d : Ty) → n < length ts
    → get_or (types_from ts ss) n d ≡ get_or ts n d
unfolding types_from with_type
types_kept ts [] n d h = refl
types_kept ts (s ∷ ss) n d h =
    types_kept (with_type ts s) ss n d (omega (arith, length_one_more ts s)) ∙ get_or-append ts _ d n h

types_compound : (ts : List Ty) (ss : List Compound) → earlier_types (length ts) ss ≡ true
    → (i : ℕ) (p : Compound) → i < length ss
    → get_or (types_from ts ss) (length ts + i) t_int
    ≡ compound_of (get_or ss i p).kind (get_or (types_from ts ss) (get_or ss i p).left t_int)
    (get_or (types_from ts ss) (get_or ss i p).right t_int)
unfolding types_from with_type earlier_types
types_compound ts [] e i p h = absurd (omega arith)
types_compound ts (s ∷ ss) e zero p h =
    let parts = both_left _ _ e in
    let kept-left = types_kept ts (s ∷ ss) s.left t_int (ltb-true _ _ (both_left _ _ parts)) in
    let kept-right = types_kept ts (s ∷ ss) s.right t_int (ltb-true _ _ (both_right _ _ parts)) in
    rw (
      add-zero,
      types_kept (with_type ts s) ss (length ts) t_int (omega (arith, length_one_more ts s)),
      get_or-append_seam,
    )
    (sym (ap₂ (compound_of s.kind) kept-left kept-right))
types_compound ts (s ∷ ss) e (suc i) p h =
    rw (length_one_more ts s, suc-add, ← add-suc) at
    (types_compound (with_type ts s) ss (rw (length_one_more ts s) (both_right _ _ e)) i p (omega arith))

-- ---- by number

given : (s : Sheet) (n : ℕ) → n < 5 → ty_of s n ≡ get_or given_types n t_int
unfolding ty_of given_types
given s n h = types_kept _ s.compounds n t_int h

pub ty_0 : (s : Sheet) → ty_of s 0 ≡ t_int
unfolding given_types
ty_0 s = given s 0 (omega arith)

pub ty_1 : (s : Sheet) → ty_of s 1 ≡ t_err
unfolding given_types
ty_1 s = given s 1 (omega arith)

pub ty_2 : (s : Sheet) → ty_of s 2 ≡ t_pkg
unfolding given_types
ty_2 s = given s 2 (omega arith)

pub ty_3 : (s : Sheet) → ty_of s 3 ≡ t_sum t_int t_int
unfolding given_types
ty_3 s = given s 3 (omega arith)

pub ty_4 : (s : Sheet) → ty_of s 4 ≡ t_sum t_pkg t_err
unfolding given_types
ty_4 s = given s 4 (omega arith)

-- a number past the last type names int
pub ty_past : (s : Sheet) (n : ℕ) → type_count s ≤ n → ty_of s n ≡ t_int
unfolding ty_of given_types
ty_past s n h = get_or-eq_default (types_from given_types s.compounds)
    t_int {n = n} (omega (arith, type-count s, length_types given_types s.compounds))

later : (s : Sheet) → formed s ≡ true → (n i : ℕ) → n ≡ 5 + i → i < length s.compounds → (p : Compound)
    → ty_of s n ≡ compound_of (get_or s.compounds i p).kind (ty_of s (get_or s.compounds i p).left)
    (ty_of s (get_or s.compounds i p).right)
unfolding ty_of given_types
later s fm n i e h p = rw e (types_compound given_types s.compounds (formed_facts s fm).compounds_earlier i p h)

module _ (s : Sheet) (fm : formed s ≡ true) where
  -- from 3 on a number names the sum or the pair of the types that its parts name
  pub ty_compound : (n : ℕ) → 3 ≤ n → n < type_count s
      → ty_of s n ≡ compound_of (parts_no s n).kind (ty_of s (parts_no s n).left) (ty_of s (parts_no s n).right)
  unfolding parts_no type_parts given_parts compound_of
  ty_compound zero h k = absurd (omega arith)
  ty_compound (suc zero) h k = absurd (omega arith)
  ty_compound (suc (suc zero)) h k = absurd (omega arith)
  ty_compound (suc (suc (suc zero))) h k = ty_3 s ∙ rw (ty_0 s)
  ty_compound (suc (suc (suc (suc zero)))) h k = ty_4 s ∙ rw (ty_1 s, ty_2 s)
  ty_compound (suc (suc (suc (suc (suc i))))) h k = later s fm _ i (omega arith) (omega (arith, type-count s)) no_parts

  -- Number n has this kind and the types a and b for its parts.
  pub record Parts (n : ℕ) (k : Kind) (a b : Ty) : Type 0 where
    pub from_3 : 3 ≤ n
    pub there : n < type_count s
    pub kind_is : (parts_no s n).kind ≡ k
    pub left_is_lem : ty_of s (parts_no s n).left ≡ a
    pub right_is_lem : ty_of s (parts_no s n).right ≡ b

  -- What a number can be whose type is known.
  pub data Which : ℕ → Ty → Type 0 where
    is_int : Which 0 t_int
    is_err : Which 1 t_err
    is_pkg : Which 2 t_pkg
    is_sum_lem : {n : ℕ} {a b : Ty} → Parts n Sum a b → Which n (t_sum a b)
    is_pair_lem : {n : ℕ} {a b : Ty} → Parts n Pair a b → Which n (t_pair a b)

  made : (n : ℕ) → 3 ≤ n → n < type_count s → (k : Kind) → (parts_no s n).kind ≡ k
      → Which n (compound_of k (ty_of s (parts_no s n).left) (ty_of s (parts_no s n).right))
  unfolding compound_of
  made n h l Sum e = is_sum_lem (record { from_3 = h; there = l; kind_is = e; left_is_lem = refl; right_is_lem = refl })
  made n h l Pair e =
      is_pair_lem (record { from_3 = h; there = l; kind_is = e; left_is_lem = refl; right_is_lem = refl })

  pub which : (n : ℕ) → n < type_count s → Which n (ty_of s n)
  which zero h = rw (ty_0 s) is_int
  which (suc zero) h = rw (ty_1 s) is_err
  which (suc (suc zero)) h = rw (ty_2 s) is_pkg
  which (suc (suc (suc i))) h =
      let k : 3 ≤ suc (suc (suc i)) = omega arith in
      rw (ty_compound (suc (suc (suc i))) k h) (made _ k h _ refl)

  module _ (once : repeats s ≡ false) where
    -- parts of the same types, where these have one number each
    same_parts : {k : Kind} {m n : ℕ} {a b : Ty} → Parts m k a b → Parts n k a b
        → ((i j : ℕ) → Which i a → Which j a → i ≡ j) → ((i j : ℕ) → Which i b → Which j b → i ≡ j) → m ≡ n
    same_parts {m = m} {n} p q f g =
        let e = parts_earlier s fm m p.from_3 p.there in
        let e' = parts_earlier s fm n q.from_3 q.there in
        parts_once s once m n p.from_3 p.there q.from_3 q.there (p.kind_is ∙ sym q.kind_is)
        (f _ _ (part p.left_is_lem e.0 p.there) (part q.left_is_lem e'.0 q.there))
        (g _ _ (part p.right_is_lem e.1 p.there) (part q.right_is_lem e'.1 q.there))
      where
        part : {i k : ℕ} {τ : Ty} → ty_of s i ≡ τ → i < k → k < type_count s → Which i τ
        part {i} {k} p l r = rw p at (which i (omega arith))

    same_number : (τ : Ty) {m n : ℕ} → Which m τ → Which n τ → m ≡ n
    same_number t_int is_int is_int = refl
    same_number t_err is_err is_err = refl
    same_number t_pkg is_pkg is_pkg = refl
    same_number (t_sum a b) (is_sum_lem p) (is_sum_lem q) = same_parts p q (λ i j. same_number a) (λ i j. same_number b)
    same_number (t_pair a b) (is_pair_lem p) (is_pair_lem q) =
        same_parts p q (λ i j. same_number a) (λ i j. same_number b)

    -- equal types have equal numbers
    pub ty_once : (m n : ℕ) → m < type_count s → n < type_count s → ty_of s m ≡ ty_of s n → m ≡ n
    ty_once m n h k p = same_number (ty_of s n) (rw p at (which m h)) (which n k)

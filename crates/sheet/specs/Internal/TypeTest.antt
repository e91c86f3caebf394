-- Whether a value has the type that a number names, by the table alone (the scope, "Memory", and the last
-- test of an unpack).
use Rattle.std.specs.Prelude.{Bool, false, List, ℕ, eqb, leb, ltb}
use Rattle.logic.specs.Booleans.{both}
use Rattle.language.specs.Syntax.{Value, int, err, inl, inr, pkg, pair, blank}
use Rattle.sheet.specs.declared.Kind.{Kind}
use Rattle.sheet.specs.declared.Kind.TheVariants.{Sum, Pair}
use Rattle.sheet.specs.Sheet.{same_kind}
use Rattle.sheet.specs.Internal.Tables.{types_in, left_in, right_in, kind_in}

-- the number names a type of a kind; the first with parts is 3
unfoldable pub is_of : List ℕ → Kind → ℕ → Bool
is_of t k ty = both (leb 3 ty) (both (ltb ty (types_in t)) (same_kind k (kind_in t ty)))

-- the number names a sum
abbrev pub is_sum : List ℕ → ℕ → Bool
is_sum t ty = is_of t Sum ty

-- the number names a pair
abbrev pub is_pair : List ℕ → ℕ → Bool
is_pair t ty = is_of t Pair ty

-- the value has the type that the number names; what a package holds is not looked at
unfoldable pub has_no : List ℕ → Value → ℕ → Bool
has_no t (int n) ty = eqb ty 0
has_no t (err e) ty = eqb ty 1
has_no t (inl v) ty = both (is_sum t ty) (has_no t v (left_in t ty))
has_no t (inr v) ty = both (is_sum t ty) (has_no t v (right_in t ty))
has_no t (pkg h v) ty = eqb ty 2
has_no t (pair v w) ty = both (is_pair t ty) (both (has_no t v (left_in t ty)) (has_no t w (right_in t ty)))
has_no t blank ty = false

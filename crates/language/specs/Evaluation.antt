-- Figure 2 and the rules of pairs (request (f)) as a function, over an environment of the values that enclosing cases
-- bind.
use Rattle.std.specs.Prelude.{Bool, true, false, [], ◌∷◌, ℕ, zero, suc, ◌+◌, ◌%◌, ◌^◌, leb}
use Rattle.language.specs.Syntax.{head_of, Value, int, err, inl, inr, pkg, pair, blank, Part, pick, Expr, val, loc}
use Rattle.language.specs.Syntax.{var, plus, left, right, pack, unpack, pairing, proj, size, has}
use Rattle.language.specs.World.{World, Mem, cell_words, wanted}
use Rattle.language.specs.Substitution.{Env}

-- A value; or a part of the expression has a value that is too long; or no rule applies.
pub data Res : Type 0 where
  ok : Value → Res
  long stuck : Res

unfoldable pub bind : Res → (Value → Res) → Res
bind (ok v) f = f v
bind long f = long
bind stuck f = stuck

unfoldable pub fit_if : Bool → Value → Res
fit_if true v = ok v
fit_if false v = long

-- v, if it is not too long
unfoldable pub fit : Value → Res
fit v = fit_if (leb (size v) cell_words) v

-- EE-PLUS: sums are taken modulo 2^32
unfoldable pub add_to : ℕ → Value → Res
add_to a (int b) = fit (int ((a + b) % 2 ^ 32))
add_to a (err e) = stuck
add_to a (inl v) = stuck
add_to a (inr v) = stuck
add_to a (pkg h v) = stuck
add_to a (pair v w) = stuck
add_to a blank = stuck

unfoldable pub add : Value → Value → Res
add (int a) w = add_to a w
add (err e) w = stuck
add (inl v) w = stuck
add (inr v) w = stuck
add (pkg h v) w = stuck
add (pair u v) w = stuck
add blank w = stuck

-- EE-PACK-OK and EE-PACK-FAIL, by whether the authority writes the label
unfoldable pub packed : Bool → ℕ → Value → Res
packed true l v = fit (inl (pkg (head_of l) v))
packed false l v = ok (inr (err 1))

-- EE-UNPACK-FAIL1, -FAIL2, -FAIL3 and -OK, by: the authority reads the wanted label; the package's label is at or below
-- it; the content has the wanted type
unfoldable pub opened : Bool → Bool → Bool → Value → Res
opened false b c v = ok (inr (err 1))
opened true false c v = ok (inr (err 2))
opened true true false v = ok (inr (err 3))
opened true true true v = fit (inl v)

-- an unpack of a value: the sum type t and the wanted label l are the script's
unfoldable pub unpacked : World → ℕ → ℕ → Value → Res
unpacked W t l (int n) = stuck
unpacked W t l (err e) = stuck
unpacked W t l (inl v) = stuck
unpacked W t l (inr v) = stuck
unpacked W t l (pkg h v) = opened (W.reads l) (W.below h.label l) (has v (wanted (W.ty t))) v
unpacked W t l (pair v w) = stuck
unpacked W t l blank = stuck

-- EE-PROJ: a part of a pair
unfoldable pub part_of : Part → Value → Res
part_of p (int n) = stuck
part_of p (err e) = stuck
part_of p (inl v) = stuck
part_of p (inr v) = stuck
part_of p (pkg h v) = stuck
part_of p (pair v w) = ok (pick p v w)
part_of p blank = stuck

unfoldable pub lookup : Env → ℕ → Res
lookup [] i = stuck
lookup (v ∷ ρ) zero = ok v
lookup (v ∷ ρ) (suc i) = lookup ρ i

unfoldable pub eval : World → Env → Mem → Expr → Res
eval W ρ M (val v) = ok v
eval W ρ M (loc x) = ok (M x)
eval W ρ M (var i) = lookup ρ i
eval W ρ M (plus a b) = bind (eval W ρ M a) (λ v. bind (eval W ρ M b) (λ w. add v w))
eval W ρ M (left t a) = bind (eval W ρ M a) (λ v. fit (inl v))
eval W ρ M (right t a) = bind (eval W ρ M a) (λ v. fit (inr v))
eval W ρ M (pack l a) = bind (eval W ρ M a) (λ v. packed (W.writes l) l v)
eval W ρ M (unpack t l a) = bind (eval W ρ M a) (λ v. unpacked W t l v)
eval W ρ M (pairing t a b) = bind (eval W ρ M a) (λ v. bind (eval W ρ M b) (λ w. fit (pair v w)))
eval W ρ M (proj p a) = bind (eval W ρ M a) (λ v. part_of p v)

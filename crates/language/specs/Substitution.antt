-- The paper's [v/a] c and M[x ↦ v]: a value for a variable, and for a location.
use Rattle.std.specs.Prelude.{cond, List, [], ◌∷◌, ℕ, zero, suc, eqb}
use Rattle.language.specs.Syntax.{Value, Expr, val, loc, var, plus, left, right, pack, unpack, pairing, proj, Cmd}
use Rattle.language.specs.Syntax.{skip, seq, assign, while, case}
use Rattle.language.specs.World.{Mem}

-- The values that enclosing cases bind, innermost first.
abbrev pub Env : Type 0
Env = List Value

-- one more binder between a variable and its use
unfoldable pub lift : Expr → Expr
lift (val v) = val v
lift (loc x) = loc x
lift (var i) = var (suc i)
lift (plus a b) = plus (lift a) (lift b)
lift (left t a) = left t (lift a)
lift (right t a) = right t (lift a)
lift (pack l a) = pack l (lift a)
lift (unpack t l a) = unpack t l (lift a)
lift (pairing t a b) = pairing t (lift a) (lift b)
lift (proj p a) = proj p (lift a)

-- variable i, below d binders, with the values ρ for the variables past these
unfoldable pub close_var : ℕ → Env → ℕ → Expr
close_var zero [] i = var i
close_var zero (v ∷ ρ) zero = val v
close_var zero (v ∷ ρ) (suc i) = close_var zero ρ i
close_var (suc d) ρ zero = var zero
close_var (suc d) ρ (suc i) = lift (close_var d ρ i)

-- an expression, and a command, below d binders, with these values
unfoldable pub close_e : ℕ → Env → Expr → Expr
close_e d ρ (val v) = val v
close_e d ρ (loc x) = loc x
close_e d ρ (var i) = close_var d ρ i
close_e d ρ (plus a b) = plus (close_e d ρ a) (close_e d ρ b)
close_e d ρ (left t a) = left t (close_e d ρ a)
close_e d ρ (right t a) = right t (close_e d ρ a)
close_e d ρ (pack l a) = pack l (close_e d ρ a)
close_e d ρ (unpack t l a) = unpack t l (close_e d ρ a)
close_e d ρ (pairing t a b) = pairing t (close_e d ρ a) (close_e d ρ b)
close_e d ρ (proj p a) = proj p (close_e d ρ a)

unfoldable pub close : ℕ → Env → Cmd → Cmd
close d ρ skip = skip
close d ρ (seq a b) = seq (close d ρ a) (close d ρ b)
close d ρ (assign x e) = assign x (close_e d ρ e)
close d ρ (while e c) = while (close_e d ρ e) (close d ρ c)
close d ρ (case e a b) = case (close_e d ρ e) (close (suc d) ρ a) (close (suc d) ρ b)

-- the paper's [v/a] c
unfoldable pub inst : Value → Cmd → Cmd
inst v c = close zero (v ∷ []) c

-- the paper's M[x ↦ v]
unfoldable pub update : Mem → ℕ → Value → Mem
update M x v = λ y. cond (eqb x y) v (M y)

-- What enclosing cases bind: for each case the number of its type and the members of its label, outermost first.
use Rattle.std.specs.Prelude.{List, [], ◌∷◌, ℕ, zero, suc, ◌+◌, ◌-◌, ◌≤◌, cond, ltb, get_or, set, length}
use Rattle.logic.specs.Booleans.{both}
use Rattle.script.specs.Names.{max_depth}
use Rattle.checks.specs.declared.Typed.{Typed}
use Rattle.checks.specs.Internal.Nodes.{plain_typed, nothing}
use Rattle.checker.specs.declared.bindings.Binding.{Binding}
use Rattle.checker.specs.declared.bindings.Bindings.{Bindings}

-- what place i holds, and nothing past the last place
abbrev pub binding_at : List Binding → ℕ → Binding
binding_at s i = get_or s i (record { ty = 0; label = 0 })

-- the type's number and the label's members at place i
abbrev pub bound_type : List Binding → ℕ → ℕ
bound_type s i = (binding_at s i).ty

abbrev pub bound_label : List Binding → ℕ → ℕ
bound_label s i = (binding_at s i).label

-- the places below d, the last of them first
unfoldable pub up_to : {A : Type 0} → (ℕ → A) → ℕ → List A
up_to f zero = []
up_to f (suc d) = f d ∷ up_to f d

-- the types and the labels that the enclosing cases bind, innermost first
abbrev pub bound_types : Bindings → List ℕ
bound_types b = up_to (bound_type b.cases) b.depth

abbrev pub bound_labels : Bindings → List ℕ
bound_labels b = up_to (bound_label b.cases) b.depth

-- there are places for the enclosing cases
abbrev pub Within : Bindings → Type 0
Within b = (b.depth ≤ max_depth) × (max_depth ≤ length b.cases)

-- one case deeper, with a type and a label bound
abbrev pub enter_of : Bindings → ℕ → ℕ → Bindings
enter_of b n a = record { cases = set b.cases b.depth (record { ty = n; label = a }); depth = b.depth + 1 }

-- out of the innermost case
abbrev pub leave_of : Bindings → Bindings
leave_of b = record { cases = b.cases; depth = b.depth - 1 }

-- variable i
unfoldable pub var_typed : Bindings → ℕ → ℕ → Typed
var_typed b i next =
    let place = b.depth - suc i in
    cond (both (ltb i b.depth) (ltb place max_depth))
    (plain_typed (bound_type b.cases place) (bound_label b.cases place) next)
    (nothing next)

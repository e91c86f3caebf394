-- What a sheet declares, over any labels; memories as declared; where a script starts; and the element of a list at a
-- place.
use Rattle.std.specs.Prelude.{◌≡◌, true, List, [], ◌∷◌, ℕ, zero, suc, ◌≤◌}
use Rattle.std.proofs.Math.Option.{Option, none, some}
use Rattle.language.specs.Syntax.{Ty, size, has}
use Rattle.language.specs.World.{Mem, cell_words}
use Rattle.language.specs.Labels.{Labels}

-- What a sheet says of types: the type that a type number names, and a location's type.
pub record Shapes : Type 0 where
  pub ty : ℕ → Ty
  pub loc_ty : ℕ → Ty

-- Definition 2: the memory's values have their declared types.
abbrev pub WellTyped : Shapes → Mem → Type 0
WellTyped S M = (x : ℕ) → has (M x) (S.loc_ty x) ≡ true

-- No value of the memory is too long.
abbrev pub Fitting : Mem → Type 0
Fitting M = (x : ℕ) → size (M x) ≤ cell_words

-- What a sheet declares: the types, the label that a label number names, and a location's label.
pub record Declarations (L : Type 0) : Type 0 where
  pub shapes : Shapes
  pub label : ℕ → L
  pub home : ℕ → L

-- the same types, every label struck out
abbrev pub unlabelled : {L : Type 0} → Declarations L → Declarations Unit
unlabelled D = record { shapes = D.shapes; label = λ l. tt; home = λ x. tt }

-- The label that surrounds a script whole: the one that it opens with, else bottom (request (d)).
unfoldable pub start_of : {L : Type 0} → Labels L → Declarations L → Option ℕ → L
start_of 𝓛 D none = 𝓛.bot
start_of 𝓛 D (some l) = D.label l

-- the d-th element, if there is one
unfoldable pub nth {ℓ} : {A : Type ℓ} → List A → ℕ → Option A
nth [] d = none
nth (x ∷ xs) zero = some x
nth (x ∷ xs) (suc d) = nth xs d

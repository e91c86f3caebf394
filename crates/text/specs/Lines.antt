-- A text as lines, one after another: how they are read, by any reader of one line, and how they are printed.
use Rattle.std.specs.Prelude.{ℕ, zero, suc, ◌≡◌, ◌↔◌, List, [], ◌∷◌, ◌++◌, length}
use Rattle.std.proofs.Math.Option.{Option, none, some}
use Rattle.text.specs.Reading.{Read}
use Rattle.text.specs.Reading.Read.{got, bad}

-- a line before others
unfoldable pub front : {A : Type 0} → A → Option (List A) → Option (List A)
front l none = none
front l (some ls) = some (l ∷ ls)

-- a line that is read, before those of what follows it
unfoldable pub onward : {A : Type 0} → Read A → (List ℕ → Option (List A)) → Option (List A)
onward (got l t) f = front l (f t)
onward bad f = none

-- the lines of a whole text, if there are at most k
unfoldable pub lines_up_to : {A : Type 0} → (List ℕ → Read A) → ℕ → List ℕ → Option (List A)
lines_up_to line zero [] = some []
lines_up_to line zero (b ∷ t) = none
lines_up_to line (suc k) [] = some []
lines_up_to line (suc k) (b ∷ t) = onward (line (b ∷ t)) (λ u. lines_up_to line k u)

-- the lines of a whole text: it has no more of them than bytes
unfoldable pub all_lines : {A : Type 0} → (List ℕ → Read A) → List ℕ → Option (List A)
all_lines line t = lines_up_to line (length t) t

-- lines printed one after another, by how one is printed before what follows it
unfoldable pub print_lines : {A : Type 0} → (A → List ℕ → List ℕ) → List A → List ℕ
print_lines print [] = []
print_lines print (l ∷ ls) = print l (print_lines print ls)

-- all lines are good
pub data AllGood {A : Type 0} (Good : A → Type 0) : List A → Type 0 where
  empty_good : AllGood Good []
  more_good : {l : A} {ls : List A} → Good l → AllGood Good ls → AllGood Good (l ∷ ls)

-- A line is read exactly where a good one stands printed, the end of the text is no line, and what follows a line is
-- printed after it.
pub record LineForm {A : Type 0} (line : List ℕ → Read A) (print : A → List ℕ → List ℕ)
    (Good : A → Type 0) : Type 0 where
  pub exact : (t : List ℕ) (l : A) (u : List ℕ) → (line t ≡ got l u) ↔ ((t ≡ print l u) × Good l)
  pub no_end : line [] ≡ bad
  pub ahead : (l : A) (u : List ℕ) → print l u ≡ print l [] ++ u

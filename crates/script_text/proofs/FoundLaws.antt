-- From the answers of the line reader back to what was read, and from a reading to its answer.
use mathlib.Core.Path.{◌≡◌, refl, sym, ap, ◌∙◌, fun_ext}
use mathlib.Core.List.{List}
use Prim.Native.Nat.{ℕ, ◌+◌, ◌≤◌, ◌<◌}
use native.Mathlib.Omega.{arith}
use lib.ListN.{length, get_or, drop, drop_of_length-le}
use Rattle.std.specs.Prelude.{Option, Some, None, option_map, option_and_then}
use Rattle.text.specs.Reading.Read.{got, bad}
use Rattle.text.specs.Number.{most}
use Rattle.text.specs.Field.{number_field, line_end, last_number}
use Rattle.text.specs.Internal.Place.{placed, placed_end}
use Rattle.text.proofs.Readings.{drop-step}
use Rattle.text.proofs.Places.{placed_none, placed_at, placed-bad, placed_then, placed_map, placed_last}
use Rattle.text.proofs.Fields.{number_field_within}
use Rattle.text.proofs.Lines.{line_within}
use Rattle.script.specs.declared.Row.{Row}
use Rattle.script.specs.Lines.{ScriptLine}
use Rattle.script.specs.Internal.Code.{row_of}
use Rattle.script_text.specs.Reading.{Form, bare, one, two, other, form_of, operands_of, line_of}
use Rattle.script_text.specs.Internal.Placed.{placed_line}
use Rattle.script_text.proofs.LineLaws.{script_lines}

-- ---- one function after another over an answer

pub map_map : {A B C : Type 0} (f : B → C) (g : A → B) (o : Option A)
    → option_map f (option_map g o) ≡ option_map (λ x. f (g x)) o
map_map f g None = refl
map_map f g (Some x) = refl

pub map_then : {A B C : Type 0} (f : B → C) (g : A → Option B) (o : Option A)
    → option_map f (option_and_then g o) ≡ option_and_then (λ x. option_map f (g x)) o
map_then f g None = refl
map_then f g (Some x) = refl

-- an answer that is made of another is there exactly where that one is
pub map_some : {A B : Type 0} {P : Type 0} (f : A → B) (o : Option A) (y : B) → Some y ≡ option_map f o
    → ((x : A) → Some x ≡ o → y ≡ f x → P) → P
map_some f None y e g = let z : ◌≡◌ {A = ℕ} 0 1 = cc in absurd (omega arith)
map_some f (Some x) y e g = g x refl (cc)

pub map_none : {A B : Type 0} (f : A → B) (o : Option A) → None ≡ option_map f o → None ≡ o
map_none f None e = refl
map_none f (Some x) e = let z : ◌≡◌ {A = ℕ} 0 1 = cc in absurd (omega arith)

-- ---- the answer to a line of each form

abbrev row_at_place : ScriptLine × ℕ → Row × ℕ
row_at_place r = (row_of r.0, r.1)

module _ (s : List ℕ) (i : ℕ) where
  pub placed-bare : (l : ScriptLine)
      → placed_line s (operands_of (bare l) (drop i s))
      ≡ option_map (λ p. (row_of l, p)) (placed_end s (line_end (drop i s)))
  unfolding operands_of
  placed-bare l = ap (option_map row_at_place) (placed_last s i (line_end (drop i s)) l) ∙ map_map row_at_place _ _

  pub placed-one : (f : ℕ → ScriptLine)
      → placed_line s (operands_of (one f) (drop i s))
      ≡ option_map (λ r. (row_of (f r.0), r.1)) (placed s (last_number most (drop i s)))
  unfolding operands_of
  placed-one f = ap (option_map row_at_place) (placed_map s (last_number most (drop i s)) f) ∙ map_map row_at_place _ _

  pub placed-two : (f : ℕ → ℕ → ScriptLine)
      → placed_line s (operands_of (two f) (drop i s))
      ≡ option_and_then (λ r. option_map (λ q. (row_of (f r.0 q.0), q.1)) (placed s (last_number most (drop r.1 s))))
      (placed s (number_field most (drop i s)))
  unfolding operands_of
  placed-two f =
      ap (option_map row_at_place)
      (placed_then s i (number_field most (drop i s)) _ (number_field_within most (drop i s)))
      ∙ map_then row_at_place _ (placed s (number_field most (drop i s)))
      ∙ ap (λ g. option_and_then g (placed s (number_field most (drop i s))))
      (fun_ext (λ (r : ℕ × ℕ). ap (option_map row_at_place) (placed_map s (last_number most (drop r.1 s)) (f r.0))
      ∙ map_map row_at_place _ _))

-- ---- the first field decides

module _ (s : List ℕ) (i : ℕ) where
  pub line_none : length s ≤ i → None ≡ placed_line s (line_of (drop i s))
  unfolding line_of
  line_none h = ap (option_map row_at_place) (sym (placed_none s _ (rw (drop_of_length-le s h))))

  line-form : (f : Form) → i < length s → form_of (get_or s i 0) ≡ f
      → line_of (drop i s) ≡ operands_of f (drop (i + 1) s)
  unfolding line_of
  line-form f h e = rw (drop-step s i h, e)

  -- the line that begins with the byte b
  pub line-kind : (b : ℕ) (f : Form) (r : Option (Row × ℕ)) → i < length s → get_or s i 0 ≡ b → form_of b ≡ f
      → r ≡ placed_line s (operands_of f (drop (i + 1) s))
      → r ≡ placed_line s (line_of (drop i s))
  line-kind b f r h q e p = p ∙ ap (placed_line s) (sym (line-form f h (ap form_of q ∙ e)))

  pub line_other : i < length s → form_of (get_or s i 0) ≡ other → None ≡ placed_line s (line_of (drop i s))
  unfolding operands_of
  line_other h e = ap (option_map row_at_place) (sym (placed_none s _ (line-form other h e)))

  -- ---- what an answer says

  pub found_at : {P : Type 0} (row : Row) (p : ℕ) → Some (row, p) ≡ placed_line s (line_of (drop i s))
      → ((l : ScriptLine) → line_of (drop i s) ≡ got l (drop p s) → p ≤ length s → row ≡ row_of l → P) → P
  found_at row p e f =
      map_some row_at_place (placed s (line_of (drop i s))) (row, p) e (λ x g h.
      let a : row ≡ row_of x.0 = ap (λ (y : Row × ℕ). y.0) h in
      let b : p ≡ x.1 = ap (λ (y : Row × ℕ). y.1) h in
      let y = placed_at s i _ (line_within script_lines (drop i s)) x.0 x.1 g in
      f x.0 (rw b y.0) (rw b y.1) a)

  pub found_none : None ≡ placed_line s (line_of (drop i s)) → line_of (drop i s) ≡ bad
  found_none e = placed-bad s i _ (map_none row_at_place _ e)

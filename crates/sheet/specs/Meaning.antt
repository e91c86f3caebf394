-- What a sheet means to the language: its types, its labels as a security lattice, what it declares, where a script
-- starts, and which labels an authority reads and writes.
use Rattle.std.specs.Prelude.{◌≡◌, refl, Bool, true, false, ℕ}
use Rattle.sets.specs.Sets.{everyone}
use Rattle.labels.specs.Labels.{below_of, join_of, confidentiality_of, integrity_of}
use Rattle.labels.specs.Labels.{bottom_of, reads_under, writes_of, effective, EffectiveLabel}
use Rattle.labels.specs.declared.Label.{Label}
use Rattle.labels.proofs.EffectiveLaws.{bottom_effective, join_effective, c_effective, i_effective}
use Rattle.language.specs.Syntax.{Script}
use Rattle.language.specs.World.{World}
use Rattle.language.specs.Labels.{Labels}
use Rattle.language.specs.Declarations.{Shapes, Declarations, start_of}
use Rattle.sheet.specs.Sheet.{Sheet, ty_of, label_no, location_no}

-- the types that type numbers name, and the locations' types
abbrev pub shapes_of : Sheet → Shapes
shapes_of s = record { ty = ty_of s; loc_ty = λ x. ty_of s (location_no s x).type }

-- the labels of n principals: the order, the join, C, I and bottom, each with the fact that it stays among them
abbrev pub labels_over : (n : ℕ) → Labels (EffectiveLabel n)
labels_over n =
    record {
      leq = λ a b. below_of a.raw b.raw;
      join = λ a b. record { raw = join_of a.raw b.raw; ok = join_effective n a.raw b.raw a.ok b.ok };
      conf = λ a. record { raw = confidentiality_of a.raw; ok = c_effective n a.raw a.ok };
      integ = λ a. record { raw = integrity_of (everyone n) a.raw; ok = i_effective n a.raw a.ok };
      bot = record { raw = bottom_of (everyone n); ok = bottom_effective n };
    }

-- a, if b says that it is effective for n principals; bottom otherwise
unfoldable pub effective_if : (n : ℕ) (a : Label) (b : Bool) → effective n a ≡ b → EffectiveLabel n
effective_if n a true h = record { raw = a; ok = h }
effective_if n a false h = record { raw = bottom_of (everyone n); ok = bottom_effective n }

-- a as a label that is effective for n principals. (Every label of a sheet of the right form is.)
unfoldable pub effectively : (n : ℕ) → Label → EffectiveLabel n
effectively n a = effective_if n a (effective n a) refl

-- what a sheet declares: its types, and the labels that label numbers name and that locations have
abbrev pub declarations_of : (s : Sheet) → Declarations (EffectiveLabel s.principals)
declarations_of s =
    record {
      shapes = shapes_of s;
      label = λ l. effectively s.principals (label_no s l);
      home = λ x. effectively s.principals (label_no s (location_no s x).label);
    }

-- the label that a script starts at: the one that it opens with, else bottom
abbrev pub start_label : (s : Sheet) → Script → EffectiveLabel s.principals
start_label s p = start_of (labels_over s.principals) (declarations_of s) p.opening.start

-- whether a label is at or below another, by the labels' numbers
abbrev pub below_no : Sheet → ℕ → ℕ → Bool
below_no s l m = below_of (label_no s l) (label_no s m)

-- whether a group reads a label, by the sheet's rule, and whether it writes it, by the label's number
abbrev pub reads_no : Sheet → ℕ → ℕ → Bool
reads_no s g l = reads_under s.rule s.principals g (label_no s l)

abbrev pub writes_no : Sheet → ℕ → ℕ → Bool
writes_no s g l = writes_of s.principals g (label_no s l)

-- whether a group reads the label that a script starts at, by the sheet's rule
abbrev pub reads_start : Sheet → ℕ → Script → Bool
reads_start s g p = reads_under s.rule s.principals g (start_label s p).raw

-- what a run under an authority rests on
abbrev pub world_of : Sheet → ℕ → World
world_of s authority =
    record {
      ty = ty_of s;
      below = below_no s;
      reads = reads_no s authority;
      writes = writes_no s authority;
    }

-- what a run of a script under an authority rests on; the script itself adds nothing to it
abbrev pub world_for : Sheet → ℕ → Script → World
world_for s authority p = world_of s authority

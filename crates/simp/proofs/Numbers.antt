-- No number applies: what the stages of a call then come to.
use mathlib.Core.Path.{◌≡◌}
use mathlib.Core.Bool.{true}
use mathlib.Core.List.{List, []}
use Prim.Native.Nat.{ℕ}
use borrow.Author.Tests.{eq-eqb}
use lib.ListN.{length}
use Rattle.language.specs.Syntax.{Script}
use Rattle.language.specs.Typing.{shape}
use Rattle.language.proofs.Exactness.{script_iff, exactness}
use Rattle.sheet.specs.Sheet.{Sheet}
use Rattle.sheet.specs.Meaning.{labels_over, declarations_of, shapes_of}
use Rattle.sheet.proofs.MeaningLaws.{least_label_laws}
use Rattle.memory.specs.Memory.{well_formed, slice_refusal, refusal_by, memory_refusal}
use Rattle.memory.specs.View.{view_refusal}
use Rattle.stages.specs.Calls.{strangers, untyped}
use Rattle.simp.specs.Judgements.{Typable, Principals, Sized}

module _ (s : Sheet) where
  -- 3
  pub no_strangers : (g : ℕ) → Principals s g → strangers s g ≡ 0
  unfolding strangers
  no_strangers g h = rw h

  -- 5 and 6
  pub typable_0 : (p : Script) → Typable s p → untyped s p ≡ 0
  unfolding untyped
  typable_0 p =
      ((exactness (labels_over s.principals) (least_label_laws s.principals) (declarations_of s)).accepted p).1

  pub 0_typable : (p : Script) → untyped s p ≡ 0 → Typable s p
  unfolding untyped
  0_typable p =
      ((exactness (labels_over s.principals) (least_label_laws s.principals) (declarations_of s)).accepted p).0

  -- an accepted script passes the test on types
  pub typable-shape : (p : Script) → Typable s p → shape (shapes_of s) [] p.command ≡ true
  typable-shape p h =
      ((script_iff (labels_over s.principals) (least_label_laws s.principals) (declarations_of s) p).1 h).0

  -- 7 and 8
  pub sized_0 : (ws : List ℕ) → Sized s ws → well_formed s ws ≡ true → memory_refusal s ws ≡ 0
  unfolding memory_refusal refusal_by slice_refusal
  sized_0 ws h k = rw (eq-eqb _ _ h, k)

  pub view-sized : (ws vs : List ℕ) → Sized s vs → view_refusal s ws (length vs) ≡ memory_refusal s ws
  unfolding view_refusal slice_refusal
  view-sized ws vs h = rw (eq-eqb _ _ h)

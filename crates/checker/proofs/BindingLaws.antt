-- What is bound at a place is read back, and the places below it stay.
use mathlib.Core.Path.{◌≡◌, refl, ap, ap₂, ◌∙◌}
use mathlib.Core.Bool.{Bool, true, false, cond}
use mathlib.Core.Option.{none, some}
use mathlib.Core.List.{List, [], ◌∷◌}
use Prim.Native.Nat.{ℕ, zero, suc, ◌+◌, ◌-◌, ◌<◌, ◌≤◌}
use native.Mathlib.Numerals.{add-one}
use native.Mathlib.Omega.{arith}
use lib.Dec.{ltb}
use lib.ListN.{length, length-set}
use lib.Seq.{get_or-set_same, get_or-set_other}
use borrow.Author.Tests.{lt-ltb, le-ltb}
use Rattle.logic.specs.Booleans.{both}
use Rattle.language.specs.Declarations.{nth}
use Rattle.script.specs.Names.{max_depth}
use Rattle.checks.specs.Internal.Nodes.{plain_typed, nothing}
use Rattle.checker.specs.declared.bindings.Binding.{Binding}
use Rattle.checker.specs.declared.bindings.Bindings.{Bindings}
use Rattle.checker.specs.Internal.Bindings.{binding_at, bound_type, bound_label, up_to, bound_types, bound_labels}
use Rattle.checker.specs.Internal.Bindings.{Within, enter_of, leave_of, var_typed}
use Rattle.checker.specs.Internal.Post.{Kept}

module _ {A : Type 0} where
  pub nth-up_to : (f : ℕ → A) (d i : ℕ) → i < d → nth (up_to f d) i ≡ some (f (d - suc i))
  unfolding nth up_to
  nth-up_to f zero i h = absurd (omega arith)
  nth-up_to f (suc d) zero h = let e : d ≡ suc d - 1 = omega arith in ap (λ (m : ℕ). some (f m)) e
  nth-up_to f (suc d) (suc i) h =
      let e : d - suc i ≡ suc d - suc (suc i) = omega arith in
      nth-up_to f d i (omega arith) ∙ ap (λ (m : ℕ). some (f m)) e

  pub nth_past : (f : ℕ → A) (d i : ℕ) → d ≤ i → nth (up_to f d) i ≡ none
  unfolding nth up_to
  nth_past f zero i h = refl
  nth_past f (suc d) zero h = absurd (omega arith)
  nth_past f (suc d) (suc i) h = nth_past f d i (omega arith)

  up_to_same : (f g : ℕ → A) (d : ℕ) → ((i : ℕ) → i < d → f i ≡ g i) → up_to f d ≡ up_to g d
  unfolding up_to
  up_to_same f g zero h = refl
  up_to_same f g (suc d) h =
      ap₂ (λ (x : A) (l : List A). x ∷ l) (h d (omega arith)) (up_to_same f g d (λ i k. h i (omega arith)))

  tail : List A → List A
  tail [] = []
  tail (x ∷ xs) = xs

  -- the places but the last of them
  up_to_fewer : (f : ℕ → A) (d : ℕ) → 0 < d → up_to f (d - 1) ≡ tail (up_to f d)
  unfolding up_to tail
  up_to_fewer f zero h = absurd (omega arith)
  up_to_fewer f (suc d) h = let e : suc d - 1 ≡ d = omega arith in ap (up_to f) e

pub kept_same : {b : Bindings} → Kept b b
kept_same = record { size = refl; depth = refl; types = refl; labels = refl }

pub kept_twice : {b c d : Bindings} → Kept b c → Kept c d → Kept b d
kept_twice k l = record {
  size = l.size ∙ k.size;
  depth = l.depth ∙ k.depth;
  types = l.types ∙ k.types;
  labels = l.labels ∙ k.labels;
}

-- what is entered, and what it holds
module _ (b : Bindings) (n a : ℕ) (h : b.depth < max_depth) (k : max_depth ≤ length b.cases) where
  here : binding_at (enter_of b n a).cases b.depth ≡ record { ty = n; label = a }
  here = get_or-set_same b.cases b.depth _ _ (omega arith)

  below : (i : ℕ) → i < b.depth → binding_at (enter_of b n a).cases i ≡ binding_at b.cases i
  below i l = get_or-set_other b.cases b.depth i _ _ (λ e. omega arith)

  entered : {A : Type 0} (f : Binding → A) → up_to (λ i. f (binding_at (enter_of b n a).cases i)) (b.depth + 1)
      ≡ f (record { ty = n; label = a }) ∷ up_to (λ i. f (binding_at b.cases i)) b.depth
  unfolding up_to
  entered {A} f =
      ap (up_to (λ i. f (binding_at (enter_of b n a).cases i))) (add-one b.depth)
      ∙ ap₂ (λ (x : A) (l : List A). x ∷ l) (ap f here) (up_to_same _ _ b.depth (λ i l. ap f (below i l)))

  pub entered_types : bound_types (enter_of b n a) ≡ n ∷ bound_types b
  entered_types = entered (λ c. c.ty)

  pub entered_labels : bound_labels (enter_of b n a) ≡ a ∷ bound_labels b
  entered_labels = entered (λ c. c.label)

  pub entered_within : Within (enter_of b n a)
  entered_within = (omega arith, omega (arith, length-set b.cases b.depth (record { ty = n; label = a })))

  -- what is bound is kept, where a case is left that was entered
  pub kept_left : {c : Bindings} → Kept (enter_of b n a) c → Kept b (leave_of c)
  unfolding tail
  kept_left {c} q =
      let some : 0 < c.depth = omega (arith, q.depth) in
      record {
        size = q.size ∙ length-set b.cases b.depth (record { ty = n; label = a });
        depth = omega (arith, q.depth);
        types = up_to_fewer (bound_type c.cases) c.depth some ∙ ap tail (q.types ∙ entered_types);
        labels = up_to_fewer (bound_label c.cases) c.depth some ∙ ap tail (q.labels ∙ entered_labels);
      }

pub kept_within : {b c : Bindings} → Kept b c → Within b → Within c
kept_within k w = (omega (arith, k.depth, w.0), omega (arith, k.size, w.1))

-- a variable is read from its place, if it has one
module _ (b : Bindings) (i next : ℕ) where
  pub var_in : i < b.depth → b.depth - suc i < max_depth
      → var_typed b i next
      ≡ plain_typed (bound_type b.cases (b.depth - suc i)) (bound_label b.cases (b.depth - suc i)) next
  unfolding var_typed both
  var_in h k = rw (lt-ltb i b.depth h, lt-ltb (b.depth - suc i) max_depth k)

  pub var_past : b.depth ≤ i → var_typed b i next ≡ nothing next
  unfolding var_typed both
  var_past h = rw (le-ltb i b.depth h)

  pub var_deep : max_depth ≤ b.depth - suc i → var_typed b i next ≡ nothing next
  unfolding var_typed both
  var_deep h = rw (le-ltb (b.depth - suc i) max_depth h) (on (ltb i b.depth))
    where
      on : (c : Bool) → cond (both c false)
          (plain_typed (bound_type b.cases (b.depth - suc i)) (bound_label b.cases (b.depth - suc i)) next)
          (nothing next) ≡ nothing next
      on true = refl
      on false = refl

  pub var_next : (var_typed b i next).next ≡ next
  unfolding var_typed
  var_next = on (both (ltb i b.depth) (ltb (b.depth - suc i) max_depth))
    where
      on : (c : Bool) → (cond c
          (plain_typed (bound_type b.cases (b.depth - suc i)) (bound_label b.cases (b.depth - suc i)) next)
          (nothing next)).next ≡ next
      on true = refl
      on false = refl

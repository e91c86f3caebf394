-- A run keeps values proper: what evaluation makes of proper values is proper.
use mathlib.Core.Path.{◌≡◌, refl}
use mathlib.Core.Bool.{true}
use Prim.Native.Nat.{ℕ, ◌<◌}
use borrow.Author.Tests.{le-leb, lt-ltb}
use Rattle.logic.proofs.BooleanLaws.{both_left, both_right, both_true}
use Rattle.language.specs.Syntax.{Value, pair, Part, first, second, pick}
use Rattle.language.proofs.Invariants.{Kept}
use Rattle.memory.specs.Memory.{proper_head, proper}

proper_part : (labels : ℕ) (p : Part) (v w : Value) → proper labels (pair v w) ≡ true
    → proper labels (pick p v w) ≡ true
unfolding proper pick
proper_part labels first v w h = both_left _ _ h
proper_part labels second v w h = both_right _ _ h

-- packs may name the labels below `labels`
pub proper_kept : (labels : ℕ) → Kept (λ v. proper labels v ≡ true) (λ l. l < labels)
unfolding proper_head proper
proper_kept labels =
    record {
      sum = λ n h. refl;
      error = λ e h k. both_true (le-leb 1 e h) (le-leb e 3 k);
      to_left = λ v p h. p;
      to_right = λ v p h. p;
      to_package = λ l v n p h. both_true (lt-ltb l labels n) p;
      from_left = λ v p. p;
      from_right = λ v p. p;
      to_pair = λ v w p q h. both_true p q;
      from_package = λ h v p. both_right _ _ p;
      from_pair = proper_part labels;
    }

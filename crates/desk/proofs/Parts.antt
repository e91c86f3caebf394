-- The texts of an input, taken out of its buffer one by one.
use Prim.Native.Nat.{ℕ, ◌*◌}
use native.Mathlib.Omega.{arith}
use mathlib.Core.Path.{◌≡◌, ap, ◌∙◌}
use mathlib.Core.List.{List}
use lib.ListN.{replicate, length-replicate}
use Rattle.parts.specs.declared.State.{State}
use Rattle.parts.specs.Parts.{keep}
use Rattle.parts.specs.Feeding.{beginning, Held, held, fed}
use Rattle.desk.specs.Output.{put, put_length}
use Rattle.desk.specs.Inputs.{shown_for, show_held, PutFor}
use Rattle.desk.proofs.Kept.{shows_input}

-- the output of an input that was fed whole into a buffer of zeros
pub put-shown : (input : List ℕ) (s : State) (b : List ℕ)
    → held s b ≡ fed 2 (held beginning (replicate (3 * keep) 0)) input → (out now : List ℕ) (r : ℕ)
    → (r ≡ put_length out (show_held s b)) × (now ≡ put out (show_held s b)) → PutFor shown_for out now r
put-shown input s b e out now r p =
    let zeros = replicate {A = ℕ} (3 * keep) 0 in
    let long = length-replicate {A = ℕ} (3 * keep) 0 in
    let q : show_held s b ≡ shown_for input
    = ap (λ (h : Held). show_held h.state h.buffer) e ∙ shows_input zeros input (omega arith) in
    (input, rw q at p.0, rw q at p.1)

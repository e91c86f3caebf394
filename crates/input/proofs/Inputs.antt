-- One input after another.
use Rattle.std.proofs.Common.{◌≡◌, ℕ, List, ◌++◌, sym, ap, ◌∙◌}
use Rattle.parts.specs.declared.State.{State}
use Rattle.parts.specs.Feeding.{Held, held, fed}
use Rattle.parts.proofs.Steps.{chunks}
use Rattle.input.specs.Input.{After}

pub after_more : (last : ℕ) (h k l : Held) → After last h k → After last k l → After last h l
after_more last h k l a b =
    (a.0 ++ b.0, b.1 ∙ ap (λ (x : Held). fed last x b.0) a.1 ∙ sym (chunks last h a.0 b.0))

-- a chunk, as its two parts tell it
pub after_chunk : (last : ℕ) (h : Held) (chunk : List ℕ) (s : State) (buffer : List ℕ) → s ≡ (fed last h chunk).state
    → buffer ≡ (fed last h chunk).buffer
    → After last h (held s buffer)
after_chunk last h chunk s buffer e f = (chunk, rw (e, f))

use Rattle.std.proofs.Common.{◌≡◌, ◌∷◌, get_or}
use Rattle.std.proofs.Math.Seq.{paste}
use Rattle.cells.proofs.push.Given as goal

abbrev pub invariant-loop-word : goal.invariant-loop-word
invariant-loop-word l =
    (l.word-items ≡ paste l.initial.word-items 0 (l.w ∷ l.initial.word-items) l.word-index)
    × (l.held ≡ get_or (l.w ∷ l.initial.word-items) l.word-index 0)

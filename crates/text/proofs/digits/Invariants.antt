-- What is still to be read from i with v is what was to be read at the start.
use Rattle.std.proofs.Common.{◌≡◌, ◌≤◌, ◌+◌, drop}
use Rattle.text.specs.Number.{digits}
use Rattle.text.proofs.digits.Given as goal

abbrev pub invariant-loop-i : goal.invariant-loop-i
invariant-loop-i l =
    (l.v ≤ l.bound) × (digits l.bound l.v (drop (l.from + l.i) l.s) ≡ digits l.bound 0 (drop l.from l.s))

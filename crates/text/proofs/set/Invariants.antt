-- What is still to be read from the byte that is reached with m is what was to be read at the start.
use Rattle.std.proofs.Common.{◌≡◌, ◌<◌, ◌+◌, ◌-◌, ◌^◌, drop}
use Rattle.text.specs.Set.{hex_digits, hex_set, set_digits}
use Rattle.text.proofs.set.Given as goal

abbrev pub invariant-loop-b : goal.invariant-loop-b
invariant-loop-b l =
    (l.m < 16 ^ l.b-index)
    × (hex_digits (set_digits - l.b-index) l.m (drop (l.at + l.b-index) l.s) ≡ hex_set (drop l.at l.s))

-- The loop: `out` has the powers over the labels below l.
use Rattle.std.proofs.Common.{◌≡◌}
use Rattle.sheet.specs.Internal.Powers.{powers_up_to}
use Rattle.sheet.proofs.powers.powers.Given as goal

abbrev pub invariant-loop-l : goal.invariant-loop-l
invariant-loop-l l = l.out ≡ powers_up_to l.table l.group l.l

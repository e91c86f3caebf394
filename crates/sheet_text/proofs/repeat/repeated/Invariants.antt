-- The loop: an item of the rest comes again exactly if one of all does.
use Rattle.std.proofs.Common.{◌≡◌, length}
use Rattle.sheet.specs.Sheet.{repeated}
use Rattle.sheet_text.proofs.repeat.repeated.Given as goal

abbrev pub invariant-loop-one : goal.invariant-loop-one
invariant-loop-one g l =
    repeated (λ x y. g.T.PartialEq.eq y x) l.rest ≡ repeated (λ x y. g.T.PartialEq.eq y x) l.fn.items

abbrev pub decreases-loop-one : goal.decreases-loop-one
decreases-loop-one g l = length l.rest

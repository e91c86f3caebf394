use Rattle.std.proofs.Common.{◌≡◌, ◌*◌, ◌++◌, drop}
use Rattle.language.specs.World.{cell_words}
use Rattle.memory.specs.Memory.{cells}
use Rattle.memory.proofs.ShownLaws as laws
use Rattle.memory.proofs.view_each.Given as goal

abbrev pub invariant-loop-x : goal.invariant-loop-x
invariant-loop-x l =
    l.shown ≡ cells l.x (laws.Shown l.table l.memory l.group) ++ drop (cell_words * l.x) l.initial.shown

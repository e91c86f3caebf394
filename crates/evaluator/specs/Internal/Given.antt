-- What a run reads, as the relations between words and trees speak of it.
use Rattle.std.specs.Prelude.{ℕ, List}
use Rattle.evaluator.specs.declared.World.{World}
use Rattle.evaluator.specs.Internal.Records.{Setting, Place}

abbrev pub setting_of : World → Setting
setting_of w = record { table = w.table.now; powers = w.powers }

abbrev pub place_in : World → ℕ → ℕ → List ℕ → Place
place_in w at depth cells = record { code = w.code.now; at = at; depth = depth; cells = cells }

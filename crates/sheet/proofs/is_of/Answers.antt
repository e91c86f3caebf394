use Rattle.std.proofs.Common.{arith}
use Rattle.std.proofs.lemmas.Grind.{common_steps}
use Rattle.logic.specs.Booleans.{both}
use Rattle.sheet.specs.Sheet.{same_kind}
use Rattle.sheet.specs.Internal.Tables.{kind_in}
use Rattle.sheet.specs.Internal.TypeTest.{is_of}
use Rattle.sheet.proofs.is_of.Goals as goal

pub returns-then-ty-types : goal.returns-then-ty-types
unfolding both kind_in is_of same_kind
returns-then-ty-types c = grind (arith, common_steps)

pub returns-else-ty-types : goal.returns-else-ty-types
unfolding both kind_in is_of same_kind
returns-else-ty-types c = grind (arith, common_steps)

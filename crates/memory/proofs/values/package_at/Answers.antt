use Rattle.std.proofs.Common.{sym, ◌∙◌, arith}
use borrow.Author.Tests.{lt-ltb, le-ltb}
use Rattle.logic.proofs.BooleanLaws.{both_no_left, both_yes_left}
use Rattle.memory.proofs.WalkLaws.{package_past, package_there}
use Rattle.memory.proofs.values.package_at.Goals as goal

pub returns-then-words-at : goal.returns-then-words-at
returns-then-words-at c w = package_past _ _ _ (omega arith)

pub returns-then-words-at-2 : goal.returns-then-words-at-2
returns-then-words-at-2 c w =
    package_there _ _ _ _ (omega arith) (sym (both_yes_left _ _ (lt-ltb _ _ c.if-words-at-2.true))) w

pub returns-else-words-at-2 : goal.returns-else-words-at-2
returns-else-words-at-2 c w =
    let e = le-ltb _ _ c.if-words-at-2.false in
    package_there _ _ _ _ (omega arith) (e ∙ sym (both_no_left _ _ e)) w

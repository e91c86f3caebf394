use Rattle.std.proofs.Common.{sym, ◌∙◌}
use borrow.Author.Tests.{lt-ltb, le-ltb}
use Rattle.logic.proofs.BooleanLaws.{both_no_left, both_yes_left}
use Rattle.memory.proofs.one_more.Goals as goal

pub returns-then-at-words : goal.returns-then-at-words
returns-then-at-words c = sym (both_yes_left _ _ (lt-ltb _ _ c.if-at-words.true))

pub returns-else-at-words : goal.returns-else-at-words
returns-else-at-words c =
    let e = le-ltb _ _ c.if-at-words.false in e ∙ sym (both_no_left _ _ e)

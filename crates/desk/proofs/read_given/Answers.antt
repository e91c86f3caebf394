-- What is given, by what the texts are read as.
use Rattle.std.proofs.Common.{◌∙◌, arith}
use Rattle.memory_text.specs.Internal.Answers.{parsed_memory}
use Rattle.desk.specs.Given.{given_of}
use Rattle.desk.proofs.Givens.{given_is, given_few, unread_is}
use Rattle.desk.proofs.read_given.Goals as goal

pub overflow_mul-result : goal.overflow_mul-result
overflow_mul-result c = omega (arith, given_few _ _ _ c.read_memory-memory.ensures c.unwrap_or-count.ensures)

pub returns : goal.returns
unfolding given_of parsed_memory
returns c =
    let e = c.read_memory-memory.ensures in
    let other = c.or-other.ensures
    ∙ rw (c.then_some.ensures, c.then_some-2.ensures)
    (unread_is c.group_line-group.result _ _ _ c.is_none.ensures (rw e at c.is_none-2.ensures)) in
    rw (← c.group_line-group.ensures, c.unwrap_or.ensures)
    (given_is _ _ e c.group_line-group.result _ _ c.unwrap_or-count.ensures other)

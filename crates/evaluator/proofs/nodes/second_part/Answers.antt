-- No pair, and the words after the first part.
use Rattle.std.proofs.Common.{refl}
use Rattle.language.specs.Syntax.{second}
use Rattle.evaluator.proofs.NodeLaws as laws
use Rattle.evaluator.proofs.nodes.second_part.Goals as goal

pub returns-then-word-ne-PAIR : goal.returns-then-word-ne-PAIR
returns-then-word-ne-PAIR c = laws.part_none second _ c.word.ensures c.if-word-ne-PAIR.true

pub returns : goal.returns
returns c = laws.part_second refl c.value_end-end.ensures c.pop_words.ensures

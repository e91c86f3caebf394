-- The sum of two integers, modulo 2^32.
use Rattle.evaluator.proofs.NodeLaws as laws
use Rattle.evaluator.proofs.nodes.sum.Goals as goal

pub returns : goal.returns
returns c = laws.sum_done c.word-m.ensures c.literal.ensures

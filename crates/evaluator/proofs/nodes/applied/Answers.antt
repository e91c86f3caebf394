-- Each kind's own function, by the number of the kind.
use Rattle.language.specs.Syntax.{first, second, pick}
use Rattle.evaluator.specs.Internal.Nodes.{o_left, o_right, o_pack, o_unpack, o_part, op_kind}
use Rattle.evaluator.proofs.NodeLaws as laws
use Rattle.evaluator.proofs.nodes.applied.Goals as goal

pub returns-in-10 : goal.returns-in-10
unfolding op_kind pick
returns-in-10 c = laws.applied_by _ _ _ _ _ o_left c.in-10.is c.tagged.ensures

pub returns-in-11 : goal.returns-in-11
unfolding op_kind pick
returns-in-11 c = laws.applied_by _ _ _ _ _ o_right c.in-11.is c.tagged-in-11.ensures

pub returns-in-12 : goal.returns-in-12
unfolding op_kind pick
returns-in-12 c = laws.applied_by _ _ _ _ _ o_pack c.in-12.is c.pack.ensures

pub returns-in-13 : goal.returns-in-13
unfolding op_kind pick
returns-in-13 c = laws.applied_by _ _ _ _ _ o_unpack c.in-13.is c.unpack.ensures

pub returns-in-15 : goal.returns-in-15
unfolding op_kind pick
returns-in-15 c = laws.applied_by _ _ _ _ _ (o_part first) c.in-15.is c.first_part.ensures

pub returns-in-16 : goal.returns-in-16
unfolding op_kind pick
returns-in-16 c = laws.applied_by _ _ _ _ _ (o_part second) c.in-16.is c.second_part.ensures

pub returns-in_default : goal.returns-in_default
unfolding op_kind pick
returns-in_default c = let r = c.in_default.in_default-own.rest in laws.applied_none _ _ _ _ _ r.0.0 r.0.1 r.1

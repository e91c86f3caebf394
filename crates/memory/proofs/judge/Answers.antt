use Rattle.std.proofs.Common.{length, ap, ◌∙◌, below_more, arith}
use Rattle.memory.specs.Verdict.{memory_number}
use Rattle.memory.proofs.CellsLaws.{length-cell_of}
use Rattle.memory.proofs.RefusalLaws as laws
use Rattle.memory.proofs.judge.Goals as goal

pub returns-then-memory-n : goal.returns-then-memory-n
unfolding memory_number
returns-then-memory-n c =
    let a = c.args in
    laws.refused_7 a.table.now a.memory.now (λ e. c.if-memory-n.true (omega (arith, c.locations-n.ensures)))

pub holds-requires : goal.holds-requires
holds-requires c = ap length c.location.ensures ∙ length-cell_of c.args.memory.now c.loop-x.x (omega arith)

pub returns-then-not-holds : goal.returns-then-not-holds
unfolding memory_number
returns-then-not-holds c =
    let a = c.args in
    laws.refused_8 a.table.now a.memory.now c.loop-x.x (omega (arith, c.locations-n.ensures))
    (omega (arith, c.locations-n.ensures))
    (laws.held a.table.now a.memory.now c.loop-x.x c.location.ensures c.location_type.ensures c.holds.ensures
    c.if-not-holds.true)

pub loop-x-preserved : goal.loop-x-preserved
loop-x-preserved c =
    let a = c.args in
    below_more _ _ c.loop-x.invariant
    (laws.held a.table.now a.memory.now c.loop-x.x c.location.ensures c.location_type.ensures c.holds.ensures
    c.if-not-holds.false)

pub returns : goal.returns
unfolding memory_number
returns c =
    let a = c.args in
    laws.refused_0 a.table.now a.memory.now (omega (arith, c.locations-n.ensures))
    (λ k h. c.loop-x.invariant k (omega (arith, c.locations-n.ensures)))

-- A memory that is no sheet's, a run that is done, and one that stops.
use Rattle.std.proofs.Common.{ℕ, take, drop, refl, ap, ◌∙◌, arith}
use Rattle.evaluator.proofs.EvalLaws.{stopped}
use Rattle.interpreter.proofs.RunLaws as laws
use Rattle.interpreter.proofs.run.Goals as goal

pub returns-then-n : goal.returns-then-n
returns-then-n c = laws.run_large (omega arith)

pub returns-in-Ok : goal.returns-in-Ok
returns-in-Ok c =
    laws.run_done _ laws.no_cells c.args.memory.now laws.cells-whole
    (laws.memory-stored c.args.memory.now c.copy_from_slice.new.self c.copy_from_slice.ensures.after)
    c.powers.ensures c.in-Ok.ensures refl c.copy_from_slice-in-Ok.ensures.len
    (c.copy_from_slice-in-Ok.ensures.after
    ∙ ap (λ (n : ℕ). take n (drop 144 c.exec-ended.new.work)) (omega arith))

pub returns-in-Err : goal.returns-in-Err
returns-in-Err c =
    laws.run_kept _ laws.no_cells c.args.memory.now laws.cells-whole
    (laws.memory-stored c.args.memory.now c.copy_from_slice.new.self c.copy_from_slice.ensures.after)
    c.powers.ensures c.in-Err.ensures (stopped _)

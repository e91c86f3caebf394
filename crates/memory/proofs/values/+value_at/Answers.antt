use Rattle.std.proofs.Common.{rules, tests, arith}
use Rattle.logic.specs.Booleans.{both}
use Rattle.memory.specs.Memory.{proper}
use Rattle.language.specs.Syntax.{int, err}
use Rattle.memory.specs.Internal.Post.{num_int, num_err}
use Rattle.memory.proofs.WordLaws.{to_left, to_right}
use Rattle.memory.proofs.WalkLaws as laws
use Rattle.memory.proofs.values.+value_at.Goals as goal

pub returns-then-words-at : goal.returns-then-words-at
returns-then-words-at t c = laws.walk_past _ _ _ (omega arith)

pub returns-in-1 : goal.returns-in-1
unfolding proper
returns-in-1 t c =
    laws.walk_numeral _ _ _ (omega arith) num_int c.in-1.is
    (c.number_at.ensures _ int (λ n b q. search (rules, tests)))

pub returns-in-2 : goal.returns-in-2
unfolding proper both
returns-in-2 t c =
    laws.walk_numeral _ _ _ (omega arith) num_err c.in-2.is
    (c.number_at-in-2.ensures _ err (λ n b q. search (rules, tests)))

pub returns-in-3 : goal.returns-in-3
returns-in-3 t c = laws.walk_side _ _ _ (omega arith) to_left c.in-3.is c.value_at.ensures

pub returns-in-4 : goal.returns-in-4
returns-in-4 t c = laws.walk_side _ _ _ (omega arith) to_right c.in-4.is c.value_at-in-4.ensures

pub returns-in-5 : goal.returns-in-5
returns-in-5 t c =
    laws.walk_pkg _ _ _ (omega arith) c.in-5.is (c.package_at.ensures c.value_at-content.ensures)

pub returns-in-6 : goal.returns-in-6
returns-in-6 t c =
    rw c.pair_of.ensures
    (laws.walk_pair _ _ _ (omega arith) c.in-6.is c.value_at-first.ensures c.value_at-second.ensures)

pub returns-in_default : goal.returns-in_default
returns-in_default t c = laws.walk_none _ _ _ (omega arith) (search rules)

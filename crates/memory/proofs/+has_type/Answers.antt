use Rattle.std.proofs.Common.{rules, sym, ap, ◌∙◌, arith}
use mathlib.Core.Bool.{false≢true}
use Rattle.sheet.specs.Internal.Tables.{right_in}
use Rattle.sheet.specs.Internal.TypeTest.{has_no}
use Rattle.logic.proofs.BooleanLaws.{both_off, both_on}
use Rattle.memory.specs.Words.{value_of}
use Rattle.memory.specs.Internal.Post.{num_int, num_err}
use Rattle.memory.proofs.TypeTestLaws as laws
use Rattle.memory.proofs.+has_type.Goals as goal
use Rattle.memory.proofs.+has_type.Goals.{then-is_pair, else-is_pair}

pub returns-then-words-at : goal.returns-then-words-at
returns-then-words-at t c =
    let a = c.args in laws.type_past a.table.now a.words.now a.ty a.at (omega arith)

pub has_type-requires-then-has_type : goal.has_type-requires-then-has_type
has_type-requires-then-has_type t c = (omega (arith, c.value_at.ensures.forward), tt)

pub returns-in-1 : goal.returns-in-1
returns-in-1 t c =
    let a = c.args in
    c.one_more.ensures ∙ laws.type-numeral a.table.now a.words.now a.ty a.at (omega arith) num_int c.in-1.is

pub returns-in-2 : goal.returns-in-2
returns-in-2 t c =
    let a = c.args in
    c.one_more-in-2.ensures ∙ laws.type-numeral a.table.now a.words.now a.ty a.at (omega arith) num_err c.in-2.is

pub returns-then-is_sum : goal.returns-then-is_sum
returns-then-is_sum t c =
    let a = c.args in
    laws.type-inl a.table.now a.words.now a.ty a.at (omega arith) c.in-3.is
    (c.has_type.ensures ∙ ap (has_no _ _) c.left_part.ensures ∙ both_on _ _ (sym c.is_sum.ensures ∙ c.if-is_sum.true))

pub returns-else-is_sum : goal.returns-else-is_sum
returns-else-is_sum t c =
    let a = c.args in
    laws.type-inl a.table.now a.words.now a.ty a.at (omega arith) c.in-3.is
    (c.if-is_sum.false ∙ both_off _ _ (sym c.is_sum.ensures ∙ c.if-is_sum.false))

pub returns-then-is_sum-2 : goal.returns-then-is_sum-2
returns-then-is_sum-2 t c =
    let a = c.args in
    laws.type-inr a.table.now a.words.now a.ty a.at (omega arith) c.in-4.is
    (c.has_type-then-is_sum-2.ensures ∙ ap (has_no _ _) c.right_part.ensures
    ∙ both_on _ _ (sym c.is_sum-in-4.ensures ∙ c.if-is_sum-2.true))

pub returns-else-is_sum-2 : goal.returns-else-is_sum-2
returns-else-is_sum-2 t c =
    let a = c.args in
    laws.type-inr a.table.now a.words.now a.ty a.at (omega arith) c.in-4.is
    (c.if-is_sum-2.false ∙ both_off _ _ (sym c.is_sum-in-4.ensures ∙ c.if-is_sum-2.false))

pub returns-in-5 : goal.returns-in-5
returns-in-5 t c =
    let a = c.args in
    c.one_more-in-5.ensures ∙ laws.type-pkg a.table.now a.words.now a.ty a.at (omega arith) c.in-5.is

pub returns-then-has_type : goal.returns-then-has_type
returns-then-has_type t c =
    let a = c.args in
    elim c.if-is_pair.branch [
      | then-is_pair w ↦ laws.type-pair a.table.now a.words.now a.ty a.at (omega arith) c.in-6.is
          (c.has_type-then-has_type.ensures ∙ ap (has_no _ _) c.right_part-then-has_type.ensures
          ∙ ap (λ us. has_no a.table.now (value_of us) (right_in a.table.now a.ty)) c.value_at.ensures.after
          ∙ both_on _ _ (sym (w.has_type-then-is_pair.ensures ∙ ap (has_no _ _) w.left_part-then-is_pair.ensures)
          ∙ (sym w.value-is ∙ c.if-has_type.true))
          ∙ both_on _ _ (sym c.is_pair.ensures ∙ w.if-is_pair.true))
      | else-is_pair w ↦ absurd (false≢true (sym w.if-is_pair.false ∙ (sym w.value-is ∙ c.if-has_type.true)))
    ]

pub returns-else-has_type : goal.returns-else-has_type
returns-else-has_type t c =
    let a = c.args in
    elim c.if-is_pair.branch [
      | then-is_pair w ↦ laws.type-pair a.table.now a.words.now a.ty a.at (omega arith) c.in-6.is
          (c.if-has_type.false
          ∙ both_off _ _ (sym (w.has_type-then-is_pair.ensures ∙ ap (has_no _ _) w.left_part-then-is_pair.ensures)
          ∙ (sym w.value-is ∙ c.if-has_type.false))
          ∙ both_on _ _ (sym c.is_pair.ensures ∙ w.if-is_pair.true))
      | else-is_pair w ↦ laws.type-pair a.table.now a.words.now a.ty a.at (omega arith) c.in-6.is
          (c.if-has_type.false ∙ both_off _ _ (sym c.is_pair.ensures ∙ w.if-is_pair.false))
    ]

pub returns-in_default : goal.returns-in_default
returns-in_default t c =
    let a = c.args in laws.type-none a.table.now a.words.now a.ty a.at (omega arith) (search rules)

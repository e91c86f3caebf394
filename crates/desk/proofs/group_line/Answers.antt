-- A set and the end of the line, a set and something else, or no set.
use Rattle.std.proofs.Common.{sym, ◌∙◌}
use Rattle.text.proofs.Places.{placed_at, placed-bad}
use Rattle.text.proofs.Sets.{set_within}
use Rattle.desk.specs.Fields.{group_of}
use Rattle.desk.proofs.Fields.{only_whole, only_part, only_none}
use Rattle.desk.proofs.group_line.Goals as goal

pub returns-in_err-group : goal.returns-in_err-group
unfolding group_of
returns-in_err-group c =
    c.from_residual.ensures ∙ sym (only_none _ (placed-bad c.args.s.now 0 _ c.in_err-group.ensures))

pub returns-then-closes : goal.returns-then-closes
unfolding group_of
returns-then-closes c =
    let s = c.args.s.now in
    let e = placed_at s 0 _ (set_within _) _ _ c.in_ok-group.ensures in
    sym (only_whole _ s _ c.in_ok-group.p e.0 (sym c.closes.ensures ∙ c.if-closes.true))

pub returns-else-closes : goal.returns-else-closes
unfolding group_of
returns-else-closes c =
    let s = c.args.s.now in
    let e = placed_at s 0 _ (set_within _) _ _ c.in_ok-group.ensures in
    sym (only_part _ s _ c.in_ok-group.p e.0 (sym c.closes.ensures ∙ c.if-closes.false))

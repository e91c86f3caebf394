use Rattle.std.proofs.Common.{rules, ◌≡◌, true, false, leb}
use Rattle.logic.specs.Booleans.{both}
use Rattle.sheet_text.proofs.DraftLaws.{begin_taken, begin_none, holds_none}
use Rattle.sheet_text.proofs.draft.begin.Goals as goal

pub returns-then-not-contains : goal.returns-then-not-contains
unfolding both
returns-then-not-contains c =
    let e : both (leb 1 c.in-P.n) (leb c.in-P.n 16) ≡ false = search rules in
    rw c.in-P.is (holds_none _ _ (begin_none _ e))

pub returns : goal.returns
unfolding both
returns c =
    let e : both (leb 1 c.in-P.n) (leb c.in-P.n 16) ≡ true = search rules in
    rw (c.put_principals.ensures, c.requires, c.in-P.is) (begin_taken _ e)

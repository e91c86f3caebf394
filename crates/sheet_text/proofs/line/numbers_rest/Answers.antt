use Rattle.std.proofs.Common.{rules, ◌≡◌}
use Rattle.sheet_text.proofs.FoundLaws.{placed-numbers_rest}
use Rattle.sheet_text.proofs.line.numbers_rest.Goals as goal

pub returns-in_err-a : goal.returns-in_err-a
returns-in_err-a g c = λ f h. rw (placed-numbers_rest, ← c.in_err-a.ensures) c.from_residual.ensures

pub returns-in_err-b : goal.returns-in_err-b
returns-in_err-b g c =
    λ f h. rw (placed-numbers_rest, ← c.in_ok-a.ensures, ← c.in_err-b.ensures) c.from_residual-in_err-b.ensures

pub returns : goal.returns
returns g c =
    λ f h.
    let e : c.line.result ≡ f c.in_ok-a.a c.in_ok-b.b = h _ _ (search rules) (search rules) _ c.line.ensures in
    rw (placed-numbers_rest, ← c.in_ok-a.ensures, ← c.in_ok-b.ensures, e)

use Rattle.std.proofs.Common.{rules, ◌≡◌}
use Rattle.sheet_text.proofs.FoundLaws.{placed-number_rest}
use Rattle.sheet_text.proofs.line.number_rest.Goals as goal

pub returns-in_err-n : goal.returns-in_err-n
returns-in_err-n g c = λ f h. rw (placed-number_rest, ← c.in_err-n.ensures) c.from_residual.ensures

pub returns : goal.returns
returns g c =
    λ f h.
    let e : c.line.result ≡ f c.in_ok-n.n = h _ (search rules) _ c.line.ensures in
    rw (placed-number_rest, ← c.in_ok-n.ensures, e)

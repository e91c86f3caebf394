-- `script_text::decode_text` meets its contract.
use Rattle.std.proofs.Common.{sym, ap, ◌∙◌, ◌-◌}
use Rattle.std.specs.Prelude.{option_map}
use Rattle.script_text.proofs.OpeningLaws.{decode_long, decode_refused, decode_after}
use Rattle.script_text.proofs.decode_text.Goals as goal

pub returns-then-not-fits : goal.returns-then-not-fits
returns-then-not-fits c = sym (decode_long _ (sym c.fits.ensures ∙ c.if-not-fits.true))

pub returns-in_err-start : goal.returns-in_err-start
returns-in_err-start c =
    rw c.from_residual.ensures
    (sym (decode_refused _ (sym c.fits.ensures ∙ c.if-not-fits.false) c.in_err-start.ensures))

pub returns-in_err-count : goal.returns-in_err-count
returns-in_err-count c =
    rw c.from_residual-in_err-count.ensures
    (sym (decode_after c.args.s.now (sym c.fits.ensures ∙ c.if-not-fits.false) _ _ c.in_ok-start.ensures _
    c.is_some.ensures _ (ap (λ b. 512 - b) c.from-most.ensures) ∙ ap (option_map _) (sym c.in_err-count.ensures)))

pub returns : goal.returns
returns c =
    sym (decode_after c.args.s.now (sym c.fits.ensures ∙ c.if-not-fits.false) _ _ c.in_ok-start.ensures _
    c.is_some.ensures _ (ap (λ b. 512 - b) c.from-most.ensures) ∙ ap (option_map _) (sym c.in_ok-count.ensures))

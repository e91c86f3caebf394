use Rattle.std.proofs.Common.{rules, ◌≡◌, Some, None, Err, sym, ◌∙◌}
use Rattle.sheet_text.specs.Sheets.{sheet_of}
use Rattle.sheet_text.specs.declared.SheetError.TheVariants.{Malformed}
use Rattle.sheet_text.proofs.ReadLaws.{formed_read, counts-few, parsed-malformed, parsed-repeating, parsed-accepted}
use Rattle.sheet_text.proofs.judge.Goals as goal

pub returns-in_err-ok_or : goal.returns-in_err-ok_or
unfolding sheet_of
returns-in_err-ok_or c =
    let told : c.draft_of.result ≡ None = search rules in
    let e : c.from_residual.result ≡ Err Malformed = search rules in
    rw e (parsed-malformed _ _ _ c.draft_of.ensures told)

pub repeats-requires : goal.repeats-requires
repeats-requires c =
    let told : c.draft_of.result ≡ Some c.in_ok-ok_or.field-0 = search rules in
    counts-few _ _ _ told _ (formed_read _) c.draft_of.ensures

pub returns-then-repeats : goal.returns-then-repeats
unfolding sheet_of
returns-then-repeats c =
    let told : c.draft_of.result ≡ Some c.in_ok-ok_or.field-0 = search rules in
    parsed-repeating _ _ _ told _ (formed_read _) c.draft_of.ensures (sym c.repeats.ensures ∙ c.if-repeats.true)

pub returns : goal.returns
unfolding sheet_of
returns c =
    let told : c.draft_of.result ≡ Some c.in_ok-ok_or.field-0 = search rules in
    parsed-accepted _ _ _ told _ (formed_read _) c.draft_of.ensures (sym c.repeats.ensures ∙ c.if-repeats.false)

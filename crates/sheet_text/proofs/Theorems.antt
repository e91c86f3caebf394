-- Exactly which texts are parsed to what.
use mathlib.Core.Path.{◌≡◌, refl, sym, ap, ◌∙◌}
use mathlib.Core.Bool.{true, false}
use mathlib.Core.List.{List}
use mathlib.Core.Option.{Option, none, some}
use Prim.Native.Nat.{ℕ, ◌≤◌}
use native.Mathlib.Omega.{arith}
use lib.Dec.{leb}
use lib.ListN.{length}
use borrow.Author.Tests.{le-leb, leb-true}
use Rattle.text.specs.Reading.{fits, limit}
use Rattle.text.specs.Lines.{print_lines}
use Rattle.logic.proofs.OptionLaws.{none_some, some_path}
use Rattle.logic.proofs.BooleanLaws.{cond_split}
use Rattle.text.proofs.Lines.{all_lines_exact}
use Rattle.sheet.specs.Sheet.{Sheet, repeats}
use Rattle.sheet_text.specs.declared.line.SheetLine.{SheetLine}
use Rattle.sheet_text.specs.Lines.{sheet_lines, line_bytes, sheet_bytes}
use Rattle.sheet_text.specs.Reading.{lines_of}
use Rattle.sheet_text.specs.Sheets.{build_read, sheet_read, ParsedSheet, malformed, repeating, accepted, judged}
use Rattle.sheet_text.specs.Sheets.{sheet_of}
use Rattle.sheet_text.specs.Theorems.{IsSheet, AcceptedExact, RepeatingExact, MalformedExact, OneSheet}
use Rattle.sheet_text.proofs.LineLaws.{sheet-lines}
use Rattle.sheet_text.proofs.BuildLaws.{build-sound}
use Rattle.sheet_text.proofs.CompleteLaws.{build-complete}

-- ---- texts of the form

build_in_sound : (t : List ℕ) (s : Sheet) (o : Option (List SheetLine)) → lines_of t ≡ o → length t ≤ limit
    → build_read o ≡ some s → IsSheet t s
unfolding build_read sheet_bytes
build_in_sound t s none e h k = none_some k
build_in_sound t s (some ls) e h k =
    let b = build-sound ls s k in
    record {
      printed = ((all_lines_exact sheet-lines t ls).0 e).0 ∙ ap (print_lines line_bytes) b.0;
      short = h;
      is_formed = b.1;
    }

pub sheet_in_sound : (t : List ℕ) (s : Sheet) → sheet_read t ≡ some s → IsSheet t s
unfolding sheet_read fits
sheet_in_sound t s e =
    cond_split (leb (length t) limit) _ _ _ (λ h k. build_in_sound t s (lines_of t) refl (leb-true _ _ h) k)
    (λ h k. none_some k) e

pub sheet_in_print : (t : List ℕ) (s : Sheet) → IsSheet t s → sheet_read t ≡ some s
unfolding sheet_read fits build_read sheet_bytes
sheet_in_print t s i =
    let b = build-complete s i.is_formed in
    let fit = (build-sound (sheet_lines s) s b).2 in
    let l = (all_lines_exact sheet-lines t (sheet_lines s)).1 (i.printed, fit) in
    rw (le-leb _ _ i.short, l) b

-- ---- what texts are parsed to

pub judged_once : (s : Sheet) → repeats s ≡ false → judged (some s) ≡ accepted s
unfolding judged
judged_once s e = rw e

pub judged_again : (s : Sheet) → repeats s ≡ true → judged (some s) ≡ repeating
unfolding judged
judged_again s e = rw e

-- a sheet that is judged is refused for its repeats, or accepted
pub judged_split : {P : Type 0} (o : Option Sheet) (x : ParsedSheet) → judged o ≡ x
    → (o ≡ none → x ≡ malformed → P)
    → ((s : Sheet) → o ≡ some s → repeats s ≡ true → x ≡ repeating → P)
    → ((s : Sheet) → o ≡ some s → repeats s ≡ false → x ≡ accepted s → P) → P
unfolding judged
judged_split none x e f g h = f refl (sym e)
judged_split (some s) x e f g h = cond_split (repeats s) _ _ _ (λ r k. g s refl r (sym k)) (λ r k. h s refl r (sym k)) e

-- ---- the theorems

pub accepted_exact : AcceptedExact
unfolding sheet_of
accepted_exact t s = (
  λ e. judged_split (sheet_read t) (accepted s) e
      (λ o x. let z : ◌≡◌ {A = ℕ} 0 1 = cc in absurd (omega arith))
      (λ s' o r x. let z : ◌≡◌ {A = ℕ} 0 1 = cc in absurd (omega arith))
      (λ s' o r x. let k : s' ≡ s = cc in rw (← k) (sheet_in_sound t s' o, r)),
  λ p. ap judged (sheet_in_print t s p.0) ∙ judged_once s p.1,
)

pub repeating_exact : RepeatingExact
unfolding sheet_of
repeating_exact t = (
  λ e. judged_split (sheet_read t) repeating e
      (λ o x. let z : ◌≡◌ {A = ℕ} 0 1 = cc in absurd (omega arith))
      (λ s o r x. (s, sheet_in_sound t s o, r))
      (λ s o r x. let z : ◌≡◌ {A = ℕ} 0 1 = cc in absurd (omega arith)),
  λ p. ap judged (sheet_in_print t p.0 p.1) ∙ judged_again p.0 p.2,
)

pub malformed_exact : MalformedExact
unfolding sheet_of
malformed_exact t = (
  λ e s i. not_malformed s (sym (ap judged (sheet_in_print t s i)) ∙ e),
  λ h. judged_split (sheet_read t) (judged (sheet_read t)) refl (λ o x. x)
      (λ s o r x. absurd (h s (sheet_in_sound t s o))) (λ s o r x. absurd (h s (sheet_in_sound t s o))),
)
  where
    not_malformed : (s : Sheet) → judged (some s) ≡ malformed → ⊥
    not_malformed s e =
        judged_split (some s) malformed e
        (λ o x. none_some (sym o))
        (λ s' o r x. let z : ◌≡◌ {A = ℕ} 0 1 = cc in omega arith)
        (λ s' o r x. let z : ◌≡◌ {A = ℕ} 0 1 = cc in omega arith)

pub one_sheet : OneSheet
one_sheet t s s' i j = some_path (sym (sheet_in_print t s i) ∙ sheet_in_print t s' j)

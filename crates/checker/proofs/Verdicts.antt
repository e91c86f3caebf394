-- The answer of the code is the scope's number, and says which derivations there are.
use mathlib.Core.Path.{◌≡◌, refl, sym, ap, ap₂, ◌∙◌}
use mathlib.Core.Bool.{Bool, true, false, cond}
use mathlib.Core.List.{List, []}
use Prim.Native.Nat.{ℕ}
use native.Mathlib.Omega.{arith}
use Rattle.language.specs.Syntax.{Script}
use Rattle.language.specs.Typing.{flow, refusal}
use Rattle.language.proofs.Exactness.{exactness}
use Rattle.script.specs.Lines.{Source}
use Rattle.sheet.specs.Sheet.{Sheet, formed, repeats}
use Rattle.sheet.specs.Internal.Tables.{table_of}
use Rattle.sheet.specs.Internal.Starts.{start_no}
use Rattle.sheet.specs.Meaning.{labels_over, declarations_of}
use Rattle.sheet.proofs.MeaningLaws.{least_label_laws}
use Rattle.members.specs.Internal.Members.{label_member}
use Rattle.checks.specs.declared.Passed.{Passed}
use Rattle.checker.specs.Internal.Numbers.{shape_no, conditions_on}
use Rattle.checker.specs.declared.bindings.Bindings.{Bindings}
use Rattle.checker.specs.Internal.Bindings.{up_to, Within}
use Rattle.checker.specs.Verdict.{verdict_number}
use Rattle.std.specs.Prelude.{Result, Option, None, Some, unwrap_or, MatchOption}
use Rattle.sheet.specs.Sheet.{max_labels}
use Rattle.members.proofs.MemberLaws.{label_past}
use Rattle.checker.specs.declared.TypingError.{TypingError}
use Rattle.checker.specs.Internal.Post.{ChecksCmd, ChecksCode, KeepsCode, verdict_of}
use Rattle.checker.specs.Theorems.{CheckerExact}
use Rattle.checker.proofs.TypeLaws.{no_bound, shape_agree}
use Rattle.checker.proofs.LabelLaws.{flow-table, keeps_table}

verdict-number : (typed flow : Bool) → verdict_number (verdict_of typed flow) ≡ cond typed (cond flow 0 6) 5
unfolding verdict_number
verdict-number true true = refl
verdict-number true false = refl
verdict-number false flow = refl

-- where the code starts: at what `map_or` gives, where its function gives a label's member
pub start-member : (start : Option ℕ) (P : ℕ → Type 0) (r : ℕ) → MatchOption start (r ≡ 0) P
    → ((l : ℕ) → P l → r ≡ label_member l) → r ≡ label_member (unwrap_or start max_labels)
start-member None P r h f = h ∙ sym (label_past max_labels (omega arith))
start-member (Some l) P r h f = f l h

-- the number that the table gives
number : (s : Sheet) → formed s ≡ true → repeats s ≡ false → (p : Script) → Source p.command
    → cond (shape_no (table_of s) [] p.command)
    (cond (flow (conditions_on (table_of s)) (label_member (start_no p.opening.start)) [] p.command) 0 6) 5
    ≡ refusal (labels_over s.principals) (declarations_of s) p
unfolding refusal
number s fm once p src = rw (shape_agree s fm once src (no_bound), ← flow-table s fm p)

pub check-answers : (ws t : List ℕ) (start : ℕ) {b b' : Bindings} {x : Passed} {r : Result (Unit {0}) TypingError}
    {pc : ℕ} → pc ≡ label_member start → Within b → b.depth ≡ 0 → ChecksCmd ws 0 t b pc x b'
    → r ≡ verdict_of x.typed x.holds.flow → ChecksCode ws t start (verdict_number r)
unfolding up_to
check-answers ws t start {b} {x = x} m room none cx e =
    record {
      exact = λ s fm once table k p src names w i.
          let y = (cx.means k p.command [] src w (rw none names) room).0 in
          ap verdict_number (e ∙ ap₂ verdict_of y.typed_is y.flow_is) ∙ verdict-number _ _
          ∙ rw (none, m, i, table) (number s fm once p src);
    }

pub check_keeps : (ws t : List ℕ) {b b' : Bindings} {x : Passed} {pc : ℕ} {r : Bool}
    → Within b → b.depth ≡ 0 → ChecksCmd ws 0 t b pc x b'
    → r ≡ x.holds.keeping → KeepsCode ws t r
unfolding up_to
check_keeps ws t room none cx e =
    record {
      says = λ s fm table k p src names w.
          e ∙ (cx.means k p.command [] src w (rw none names) room).0.keeping_is
          ∙ rw (none, table) (sym (keeps_table s fm p));
    }

pub checker_exact : CheckerExact
checker_exact s p =
    let x = exactness (labels_over s.principals) (least_label_laws s.principals) (declarations_of s) in
    record { accepted = x.accepted p; refused_5 = x.refused_5 p; refused_6 = x.refused_6 p }

-- Demand 2 of simp_trust; its number is that of simp_check, and keeping is 0 or 1.
use mathlib.Core.Logic.{◌↔◌}
use mathlib.Core.Path.{◌≡◌, refl, sym, ◌∙◌, subst}
use mathlib.Core.Bool.{Bool, true, false, cond}
use mathlib.Core.List.{List, [], ◌∷◌}
use mathlib.Core.Option.{Option, none, some}
use Prim.Native.Nat.{ℕ, zero, suc}
use native.Mathlib.Omega.{arith}
use Rattle.logic.proofs.BooleanLaws.{absurd_false}
use Rattle.language.specs.Syntax.{Script}
use Rattle.language.specs.Trust.{trust_keeping}
use Rattle.sheet.specs.Sheet.{Sheet}
use Rattle.sheet.specs.Meaning.{labels_over, declarations_of}
use Rattle.sheet_text.specs.Sheets.{ParsedSheet, malformed, repeating, accepted, sheet_of}
use Rattle.script_text.specs.Counts.{counts_of}
use Rattle.script_text.specs.Script.{script_of}
use Rattle.script_text.specs.Theorems.{IsScript}
use Rattle.stages.specs.Answers.{TrustAnswer, refused_trust}
use Rattle.stages.specs.Calls.{on_sheet, unless, on_script, untyped, number_of, check_of, keeping_bit, trust_on}
use Rattle.stages.specs.Calls.{trust_of}
use Rattle.numbers.specs.Rows.{numbers, Among, here, later, First}
use Rattle.numbers.specs.Calls.{Demand2Of}
use Rattle.numbers.proofs.RowLaws.{by_rows, exactly}
use Rattle.simp.specs.Judgements.{OnSheet, OfScript, Typable, check_rows}
use Rattle.simp.specs.Trust.{TrustKeeping, KeepingAnswer}
use Rattle.simp.specs.TrustKept.{SaidKeeping}
use Rattle.simp.specs.Demands.{trust_call}
use Rattle.simp.proofs.Numbers.{typable_0}
use Rattle.simp.proofs.Judged.{read, parsed, their, past_all, past_2, past_4, past_6}

-- ---- the stages against the rows

-- none of 1, 2, 4, 5 and 6 applies
record Accepts (sheet script : List ℕ) : Type 0 where
  its_sheet : Sheet
  its_script : Script
  on_sheet_lem : OnSheet sheet its_sheet
  of_script : IsScript (counts_of its_sheet) script its_script
  typable : Typable its_sheet its_script

module _ (sheet script : List ℕ) where
  accepts : First refused_trust (λ _. Accepts sheet script) (check_rows sheet script) (trust_of sheet script)
  unfolding trust_of trust_on
  accepts =
      let E : TrustAnswer → Type 0 = λ _. Accepts sheet script in
      past_2 refused_trust E sheet _ _ λ s h.
      past_4 refused_trust E h _ script _ λ p i.
      past_6 refused_trust E h _ script p _ i λ t.
      past_all refused_trust E (record { its_sheet = s; its_script = p; on_sheet_lem = h; of_script = i; typable = t })

  accepted_so : (a : Accepts sheet script)
      → trust_of sheet script ≡ record { answer = 0; keeping = keeping_bit a.its_sheet a.its_script }
  unfolding trust_of trust_on on_sheet on_script unless
  accepted_so a = rw (
    read a.on_sheet_lem,
    parsed script a.on_sheet_lem a.of_script,
    typable_0 a.its_sheet a.its_script a.typable,
  ) refl

-- ---- the bit

abbrev bit : Bool → ℕ
bit b = cond b 1 0

bit-among : (b : Bool) → Among (0 ∷ 1 ∷ []) (bit b)
bit-among true = later here
bit-among false = here

bit_one : (b : Bool) → (bit b ≡ 1) ↔ (b ≡ true)
bit_one true = (λ e. refl, λ e. refl)
bit_one false = (λ e. absurd (omega arith), λ e. absurd (absurd_false e))

-- there is no other
bit_is : (b : Bool) {k : ℕ} → Among (0 ∷ 1 ∷ []) k → (k ≡ 1) ↔ (b ≡ true) → bit b ≡ k
bit_is true i h = sym (h.1 refl)
bit_is false here h = refl
bit_is false (later here) h = absurd (absurd_false (h.0 refl))
bit_is false (later (later i)) h = elim i [ ]

module _ (s : Sheet) (p : Script) where
  answers_so : KeepingAnswer s p (record { answer = 0; keeping = keeping_bit s p })
  unfolding keeping_bit
  answers_so =
      let b = trust_keeping (labels_over s.principals) (declarations_of s) p in
      record { not_refused = refl; one_or_none = bit-among b; its_keeping = bit_one b }

  same_answer : {r : TrustAnswer} {k : ℕ} → r.answer ≡ 0 → k ≡ r.keeping → record { answer = 0; keeping = k } ≡ r
  same_answer a e = rw (e, ← a) refl

  no_other : {r : TrustAnswer} → KeepingAnswer s p r → record { answer = 0; keeping = keeping_bit s p } ≡ r
  unfolding keeping_bit
  no_other k = same_answer k.not_refused (bit_is _ k.one_or_none k.its_keeping)

-- ---- demands

pub trust-exactly : (sheet script : List ℕ) → Demand2Of (trust_call sheet script)
trust-exactly sheet script =
    exactly refused_trust _ _ (trust_of sheet script) (check_rows sheet script)
    (λ n a r.
    let s : Sheet = a.its_sheet in
    let p : Script = a.its_script in
    let is = accepted_so sheet script a in (
      λ e. (s, a.on_sheet_lem.form, (p, a.of_script, subst (KeepingAnswer s p) (sym is ∙ e) (answers_so s p))),
      λ o. is ∙ no_other s p (their (λ z d. KeepingAnswer z d r) a.on_sheet_lem a.of_script o),
    ))
    (accepts sheet script)

-- its number is that of simp_check
pub as_check : (sheet script : List ℕ) → (trust_of sheet script).answer ≡ check_of sheet script
unfolding trust_of trust_on check_of number_of on_sheet on_script unless
as_check sheet script = on (sheet_of sheet)
  where
    numbered : (s : Sheet) (p : Script) (k : ℕ)
        → (unless refused_trust k (record { answer = 0; keeping = keeping_bit s p })).answer ≡ k
    numbered s p zero = refl
    numbered s p (suc k) = refl

    scripted : (s : Sheet) (o : Option Script)
        → (on_script refused_trust o
        (λ p. unless refused_trust (untyped s p) (record { answer = 0; keeping = keeping_bit s p }))).answer
        ≡ on_script (λ k. k) o (untyped s)
    scripted s none = refl
    scripted s (some p) = numbered s p (untyped s p)

    on : (a : ParsedSheet)
        → (on_sheet refused_trust a (λ s. trust_on s script)).answer ≡ on_sheet (λ k. k) a (λ s. number_of s script)
    on malformed = refl
    on repeating = refl
    on (accepted s) = scripted s (script_of (counts_of s) script)

-- keeping is 0 or 1
pub one_bit : (sheet script : List ℕ) → Among (0 ∷ 1 ∷ []) (trust_of sheet script).keeping
one_bit sheet script =
    by_rows refused_trust _ (λ r. Among (0 ∷ 1 ∷ []) r.keeping) (check_rows sheet script)
    (λ k i g. here) (λ r n o. o.2.2.one_or_none) _ ((trust-exactly sheet script _).0 refl)

-- a script of which simp_trust says that it is accepted and trust-keeping is
pub said_so : (sheet script : List ℕ) → SaidKeeping sheet script → OfScript sheet script TrustKeeping
unfolding numbers
said_so sheet script =
    by_rows refused_trust _ (λ r. r.keeping ≡ 1 → OfScript sheet script TrustKeeping) (check_rows sheet script)
    (λ k i g e. absurd (omega arith))
    (λ r n o e. (o.0, o.1, (o.2.0, o.2.1, o.2.2.its_keeping.0 e)))
    _ ((trust-exactly sheet script _).0 refl)

-- What the stages of a call ensure, on the table that they are given: for any table, and where it is that of a sheet
-- that isn't refused.
use Rattle.std.specs.Prelude.{◌≡◌, Bool, true, false, cond, List, [], ℕ, ◌*◌, ◌≤◌, length, take, Result, Ok, Err}
use Rattle.std.specs.Prelude.{IfOk, Option as Optional, Some, None}
use Rattle.std.proofs.Math.Option.{Option, some}
use Rattle.sets.specs.Sets.{within}
use Rattle.language.specs.Syntax.{Script}
use Rattle.language.specs.Trust.{trust_keeping}
use Rattle.script.specs.Lines.{Source, cmd_lines}
use Rattle.script.specs.Internal.Code.{code}
use Rattle.script.specs.Names.{named}
use Rattle.sheet.specs.Sheet.{Sheet, formed, repeats}
use Rattle.sheet.specs.Internal.Tables.{table_of, everyone_in}
use Rattle.sheet.specs.Meaning.{labels_over, declarations_of}
use Rattle.script_text.specs.Counts.{counts_of}
use Rattle.script_text.specs.Script.{script_of}
use Rattle.script_text.specs.Internal.Decoded.{counts_in, no_code, decoded_script}
use Rattle.script_text.specs.declared.Decoded.{Decoded}
use Rattle.memory.specs.Memory.{memory_refusal}
use Rattle.memory.specs.Internal.InTable.{refusal_in, view_in, view_refusal_in}
use Rattle.checker.specs.declared.TypingError.{TypingError}
use Rattle.checker.specs.Verdict.{verdict_number}
use Rattle.evaluator.specs.declared.Stop.{Stop}
use Rattle.evaluator.specs.State.{state_number}
use Rattle.stages.specs.declared.refusal.Refusal.{Refusal}
use Rattle.stages.specs.declared.Outcome.{Outcome}
use Rattle.stages.specs.declared.Trust.{Trust}
use Rattle.stages.specs.declared.Accepted.{Accepted}
use Rattle.stages.specs.Refusals.{refusal_number, answer_number}
use Rattle.stages.specs.Answers.{Ran, refused_run, Viewed, refused_view, TrustAnswer, refused_trust}
use Rattle.stages.specs.Calls.{unless, on_script, untyped, number_of, accepted_run, run_on, trust_on}

-- t is the table of the sheet s, which is of the form and repeats nothing
pub record TableOf (t : List ℕ) (s : Sheet) : Type 0 where
  pub form : formed s ≡ true
  pub once : repeats s ≡ false
  pub words : t ≡ table_of s

-- ---- By what a table says, whatever its words are. Free is what the checker and a run find where the table is no
-- sheet's: the number of a verdict, whether a script is trust-keeping, and the run.

-- the number of one of the three verdicts, and of one of the four states in which a run ends
abbrev pub OfVerdict : ℕ → Type 0
OfVerdict number = (verdict : Result Unit TypingError) × (number ≡ verdict_number verdict)

abbrev pub OfState : ℕ → Type 0
OfState answer = (ended : Result Unit Stop) × (answer ≡ state_number ended)

-- 3: the group holds a principal that isn't in the table's set of all
unfoldable pub strangers_in : List ℕ → ℕ → ℕ
strangers_in t group = cond (within group (everyone_in t)) 0 3

-- the number of a script, as number_of has it on a sheet
unfoldable pub number_in : ℕ → List ℕ → List ℕ → ℕ
number_in verdict t script = on_script (λ k. k) (script_of (counts_in t) script) (λ _. verdict)

-- what is answered of a script, as trust_on has it on a sheet
unfoldable pub trust_in : ℕ → Bool → List ℕ → List ℕ → TrustAnswer
trust_in verdict keeping t script =
    on_script refused_trust (script_of (counts_in t) script) (λ _.
    unless refused_trust verdict (
    record { answer = 0; keeping = cond keeping 1 0 }))

-- a run, as run_on has it on a sheet
unfoldable pub run_in : ℕ → Ran → List ℕ → List ℕ → List ℕ → ℕ → Ran
run_in verdict run t script memory authority =
    unless (refused_run memory) (strangers_in t authority) (
    on_script (refused_run memory) (script_of (counts_in t) script) (λ _.
    unless (refused_run memory) verdict (
    unless (refused_run memory) (refusal_in t memory) run)))

-- a view, as view_of has it on a sheet; nothing is free
unfoldable pub viewed_in : List ℕ → List ℕ → ℕ → List ℕ → Viewed
viewed_in t memory group view =
    unless (refused_view view) (strangers_in t group) (
    unless (refused_view view) (view_refusal_in t memory (length view)) (
    record { answer = 0; view = view_in t group memory }))

-- ---- what the functions ensure

-- whether there is a script, and it is trust-keeping
unfoldable pub keeping_in : Sheet → Option Script → Bool
keeping_in s o = on_script (λ k. false) o (λ p. trust_keeping (labels_over s.principals) (declarations_of s) p)

-- ws is the code of a script that is accepted on a sheet
pub record AcceptedCode (s : Sheet) (script ws : List ℕ) : Type 0 where
  pub parsed : Script
  pub is_its : script_of (counts_of s) script ≡ some parsed
  pub source : Source parsed.command
  pub names : named (counts_of s) 0 parsed.command ≡ true
  pub typed : untyped s parsed ≡ 0
  pub lines : ws ≡ code (cmd_lines parsed.command [])

-- the words that are left by what was decoded, or where nothing was
unfoldable pub code_left : Optional (Decoded × List ℕ) → List ℕ
code_left None = no_code
code_left (Some d) = d.1

-- the lines that were decoded, if any were
abbrev pub lines_of : Optional (Decoded × List ℕ) → ℕ
lines_of None = 0
lines_of (Some d) = d.0.count

-- a is what is known of the script that was accepted: its lines, the code that they have in words, and its trust
pub record AcceptedAs (script t : List ℕ) (a : Accepted) (words : List ℕ) : Type 0 where
  pub count_is : a.count ≡ lines_of (decoded_script (script_of (counts_in t) script))
  pub has_code : (s : Sheet) → TableOf t s → AcceptedCode s script (take (a.count * 3) words)
  pub says : (s : Sheet) → TableOf t s → a.keeping ≡ keeping_in s (script_of (counts_of s) script)

-- r is the script's refusal or what is known of it, and words are what its reader leaves
pub record Accepts (script t : List ℕ) (r : Result Accepted Refusal) (words : List ℕ) : Type 0 where
  pub words_are : words ≡ code_left (decoded_script (script_of (counts_in t) script))
  pub numbered : (s : Sheet) → TableOf t s → answer_number r ≡ number_of s script
  pub accepted : IfOk r (λ a. AcceptedAs script t a words)
  pub in_table : (verdict : ℕ) × OfVerdict verdict × (answer_number r ≡ number_in verdict t script)

-- r is the script's number, and count and words are what its reader leaves; where r is 0, that is the code of an
-- accepted script.
pub record NumbersScript (script t : List ℕ) (r count : ℕ) (words : List ℕ) : Type 0 where
  pub count_is : count ≡ lines_of (decoded_script (script_of (counts_in t) script))
  pub words_are : words ≡ code_left (decoded_script (script_of (counts_in t) script))
  pub numbered : (s : Sheet) → TableOf t s → r ≡ number_of s script
  pub accepted : (s : Sheet) → TableOf t s → r ≡ 0 → AcceptedCode s script (take (count * 3) words)
  pub in_table : (verdict : ℕ) × OfVerdict verdict × (r ≡ number_in verdict t script)

-- Whatever the table and the code are: the memory is untouched unless the answer is 0, and no more steps are taken
-- than the budget has.
pub record Spares (memory : List ℕ) (budget : ℕ) (r : Ran) : Type 0 where
  pub untouched : (r.answer ≡ 0 → ⊥) → r.memory ≡ memory
  pub within : r.steps ≤ budget

pub record RunsAccepted (ws t memory : List ℕ) (authority budget : ℕ) (r : Ran) : Type 0 where
  pub spares : Spares memory budget r
  pub ran : (s : Sheet) → TableOf t s → (script : List ℕ) (a : AcceptedCode s script ws) → memory_refusal s memory ≡ 0
      → r ≡ accepted_run s memory authority budget a.parsed
  pub in_table : OfState r.answer

pub record ChecksOn (script t : List ℕ) (r : ℕ) : Type 0 where
  pub checked : (s : Sheet) → TableOf t s → r ≡ number_of s script
  pub in_table : (verdict : ℕ) × OfVerdict verdict × (r ≡ number_in verdict t script)

-- what a call answers of a script's trust, and of a run with the memory that it leaves
abbrev pub answered_trust : Result Trust Refusal → TrustAnswer
answered_trust (Ok trust) = record { answer = trust.answer; keeping = trust.keeping }
answered_trust (Err refusal) = refused_trust (refusal_number refusal)

abbrev pub answered_run : Result Outcome Refusal → List ℕ → Ran
answered_run (Ok outcome) memory = record { answer = outcome.answer; steps = outcome.steps; memory = memory }
answered_run (Err refusal) memory = refused_run memory (refusal_number refusal)

pub record TrustsOn (script t : List ℕ) (r : TrustAnswer) : Type 0 where
  pub no_keeping : (r.answer ≡ 0 → ⊥) → r.keeping ≡ 0
  pub trusted : (s : Sheet) → TableOf t s → r ≡ trust_on s script
  pub in_table : (verdict : ℕ) × OfVerdict verdict × (keeping : Bool) × (r ≡ trust_in verdict keeping t script)

pub record RunsOn (script t memory : List ℕ) (authority budget : ℕ) (r : Ran) : Type 0 where
  pub spares : Spares memory budget r
  pub ran : (s : Sheet) → TableOf t s → r ≡ run_on s script memory authority budget
  pub in_table : (verdict : ℕ) × OfVerdict verdict × (run : Ran) × Spares memory budget run × OfState run.answer
      × (r ≡ run_in verdict run t script memory authority)

-- The calls on one script, and views, as functions of what they are given: the answer, the steps, and what every lent
-- slice then holds. The numbers are the scope's ("From the input", "From the state"); the first that applies, in the
-- order judged, is given (simp, Judgements.antt).
use Rattle.std.specs.Prelude.{cond, List, ℕ, zero, suc, ◌-◌, length}
use Rattle.std.proofs.Math.Option.{Option, none, some}
use Rattle.sets.specs.Sets.{within, everyone}
use Rattle.language.specs.Syntax.{Script}
use Rattle.language.specs.Transition.{Out, done, spent, over, wrong, iterate}
use Rattle.language.specs.Typing.{refusal}
use Rattle.language.specs.Trust.{trust_keeping}
use Rattle.sheet.specs.Sheet.{Sheet, location_count}
use Rattle.sheet.specs.Meaning.{labels_over, declarations_of, world_for}
use Rattle.sheet_text.specs.Sheets.{ParsedSheet, malformed, repeating, accepted, sheet_of}
use Rattle.script_text.specs.Counts.{counts_of}
use Rattle.script_text.specs.Script.{script_of}
use Rattle.memory.specs.Memory.{memory_of, words_of, memory_refusal}
use Rattle.memory.specs.View.{view_words, view_refusal}
use Rattle.stages.specs.Answers.{Ran, refused_run, Viewed, refused_view, TrustAnswer, refused_trust}

-- ---- in the order judged; `refuse` says what a number leads to. (7 and 8 are crate memory's:
-- memory_refusal, view_refusal.)

-- 1, 2
unfoldable pub on_sheet : {A : Type 0} → (ℕ → A) → ParsedSheet → (Sheet → A) → A
on_sheet refuse malformed go = refuse 1
on_sheet refuse repeating go = refuse 2
on_sheet refuse (accepted s) go = go s

-- a number that refuses, or 0
unfoldable pub unless : {A : Type 0} → (ℕ → A) → ℕ → A → A
unless refuse zero go = go
unless refuse (suc k) go = refuse (suc k)

-- 3: the authority or group holds a principal not on the sheet
unfoldable pub strangers : Sheet → ℕ → ℕ
strangers s group = cond (within group (everyone s.principals)) 0 3

-- 4
unfoldable pub on_script : {A : Type 0} → (ℕ → A) → Option Script → (Script → A) → A
on_script refuse none go = refuse 4
on_script refuse (some p) go = go p

-- 5, 6: no derivation by figures 4 and 5, over the labels of the sheet's principals
unfoldable pub untyped : Sheet → Script → ℕ
untyped s p = refusal (labels_over s.principals) (declarations_of s) p

-- The number of a script on a sheet: 4, 5 or 6, or 0 where it is accepted.
unfoldable pub number_of : Sheet → List ℕ → ℕ
number_of s script = on_script (λ k. k) (script_of (counts_of s) script) (λ p. untyped s p)

-- ---- the calls

-- simp_check: 0, 1, 2, 4, 5 or 6
unfoldable pub check_of : List ℕ → List ℕ → ℕ
check_of sheet script = on_sheet (λ k. k) (sheet_of sheet) (λ s. number_of s script)

-- A run on n locations that ended so. Done, it leaves the words of its last memory; else the memory is as it was.
-- (`wrong` is no outcome of an accepted script: crate language's TypeSoundness.)
unfoldable pub ended : ℕ → ℕ → List ℕ → Out → Ran
ended n budget memory (done M rest) = record { answer = 0; steps = budget - rest; memory = words_of n M }
ended n budget memory spent = record { answer = 9; steps = budget; memory = memory }
ended n budget memory (over rest) = record { answer = 10; steps = budget - rest; memory = memory }
ended n budget memory wrong = record { answer = 9; steps = budget; memory = memory }

-- The run of an accepted script from a memory that isn't refused.
abbrev pub accepted_run : Sheet → List ℕ → ℕ → ℕ → Script → Ran
accepted_run s memory authority budget p =
    ended (location_count s) budget memory (iterate (world_for s authority p) budget (memory_of memory) p.command)

-- A run on a sheet that isn't refused.
abbrev pub run_on : Sheet → List ℕ → List ℕ → ℕ → ℕ → Ran
run_on s script memory authority budget =
    unless (refused_run memory) (strangers s authority) (
    on_script (refused_run memory) (script_of (counts_of s) script) (λ p.
    unless (refused_run memory) (untyped s p) (
    unless (refused_run memory) (memory_refusal s memory) (
    accepted_run s memory authority budget p))))

-- simp_run
unfoldable pub run_of : List ℕ → List ℕ → List ℕ → ℕ → ℕ → Ran
run_of sheet script memory authority budget =
    on_sheet (refused_run memory) (sheet_of sheet) (λ s. run_on s script memory authority budget)

-- simp_view
unfoldable pub view_of : List ℕ → List ℕ → ℕ → List ℕ → Viewed
view_of sheet memory group view =
    on_sheet (refused_view view) (sheet_of sheet) (λ s.
    unless (refused_view view) (strangers s group) (
    unless (refused_view view) (view_refusal s memory (length view)) (
    record { answer = 0; view = view_words s group memory })))

-- 1 for a trust-keeping script, else 0
unfoldable pub keeping_bit : Sheet → Script → ℕ
keeping_bit s p = cond (trust_keeping (labels_over s.principals) (declarations_of s) p) 1 0

-- What is answered of a script on a sheet.
unfoldable pub trust_on : Sheet → List ℕ → TrustAnswer
trust_on s script =
    on_script refused_trust (script_of (counts_of s) script) (λ p.
    unless refused_trust (untyped s p) (
    record { answer = 0; keeping = keeping_bit s p }))

-- simp_trust
unfoldable pub trust_of : List ℕ → List ℕ → TrustAnswer
trust_of sheet script = on_sheet refused_trust (sheet_of sheet) (λ s. trust_on s script)

-- What each call must answer, by the papers, as a table (crate numbers): its numbers in the order judged, each with
-- when it applies, and what holds where none does. (Of a round Rounds.antt says it, of smallest groups Groups.antt, of
-- trust-keeping scripts Trust.antt.)
-- The demands say that the calls answer so.
-- `well_formed`, `memory_of`, `words_of` and `view_words` are crate memory's: its theorems MemoriesExactly and
-- ViewsExactly say that a memory of the right size is well-formed exactly if it is the words of values as declared, and
-- that views of such memories are equal exactly if the masked values are.
use Rattle.std.specs.Prelude.{◌⊎◌, ◌≡◌, true, false, List, [], ◌∷◌, ℕ, ◌*◌, ◌<◌, ◌≤◌, length}
use Rattle.sets.specs.Sets.{within, everyone}
use Rattle.language.specs.Syntax.{Cmd, skip, Script}
use Rattle.language.specs.World.{Mem, cell_words}
use Rattle.language.specs.Figures.{Steps, LongStep, NoneLong}
use Rattle.language.specs.Labels.{struck}
use Rattle.language.specs.Declarations.{unlabelled}
use Rattle.language.specs.Rules.{Derivable}
use Rattle.sheet.specs.Sheet.{Sheet, repeats, location_count}
use Rattle.sheet.specs.Meaning.{labels_over, declarations_of, world_for}
use Rattle.sheet_text.specs.Theorems.{IsSheet}
use Rattle.script_text.specs.Counts.{counts_of}
use Rattle.script_text.specs.Theorems.{IsScript}
use Rattle.memory.specs.Memory.{memory_of, words_of, well_formed}
use Rattle.memory.specs.View.{view_words}
use Rattle.stages.specs.Answers.{Ran, refused_run, Viewed, refused_view}
use Rattle.numbers.specs.Rows.{Row, ◌when◌}
use Rattle.numbers.specs.Calls.{Table}

-- ---- of a sheet s and a script p

-- Figures 4 and 5 give the script a derivation; and one with every label condition struck out.
abbrev pub Typable : Sheet → Script → Type 0
Typable s p = Derivable (labels_over s.principals) (declarations_of s) p

abbrev pub TypableUnlabelled : Sheet → Script → Type 0
TypableUnlabelled s p = Derivable struck (unlabelled (declarations_of s)) p

-- Every member is a principal of the sheet.
abbrev pub Principals : Sheet → ℕ → Type 0
Principals s group = within group (everyone s.principals) ≡ true

-- The slice is 16 words for each location.
abbrev pub Sized : Sheet → List ℕ → Type 0
Sized s words = length words ≡ cell_words * location_count s

-- ---- of the texts: a text is that of one sheet at most (crate sheet_text's OneSheet), and on a sheet that of one
-- script at most (crate script_text's ScriptExact)

-- The text is that of a sheet, and P holds of that sheet.
abbrev pub OfSheet : List ℕ → (Sheet → Type 0) → Type 0
OfSheet sheet P = (s : Sheet) × IsSheet sheet s × P s

-- The texts are those of a sheet and of a script on it, and P holds of that sheet and the script.
abbrev pub OfScript : List ℕ → List ℕ → (Sheet → Script → Type 0) → Type 0
OfScript sheet script P = OfSheet sheet (λ s. (p : Script) × IsScript (counts_of s) script p × P s p)

-- ---- when each number applies

-- 1: it is the text of no sheet.
abbrev pub NoSheet : List ℕ → Type 0
NoSheet sheet = (s : Sheet) → ¬ IsSheet sheet s

-- 2: the sheet repeats a type or a label.
abbrev pub Repeats : List ℕ → Type 0
Repeats sheet = OfSheet sheet (λ s. repeats s ≡ true)

-- 3: somebody in the authority or the group is no principal of the sheet.
abbrev pub Strangers : List ℕ → ℕ → Type 0
Strangers sheet group = OfSheet sheet (λ s. ¬ Principals s group)

-- 4: it is the text of no script on this sheet.
abbrev pub NoScript : List ℕ → List ℕ → Type 0
NoScript sheet script = OfSheet sheet (λ s. (p : Script) → ¬ IsScript (counts_of s) script p)

-- 5: even with every label condition struck out the script has no derivation.
abbrev pub IllTyped : List ℕ → List ℕ → Type 0
IllTyped sheet script = OfScript sheet script (λ s p. ¬ TypableUnlabelled s p)

-- 6: the script has no derivation. (Where 5 applies it has none either; 5 comes first, and is given.)
abbrev pub IllLabelled : List ℕ → List ℕ → Type 0
IllLabelled sheet script = OfScript sheet script (λ s p. ¬ Typable s p)

-- 7: the slice isn't 16 words for each location.
abbrev pub OtherSize : List ℕ → List ℕ → Type 0
OtherSize sheet words = OfSheet sheet (λ s. ¬ Sized s words)

-- 8: the memory is not well-formed.
abbrev pub IllFormed : List ℕ → List ℕ → Type 0
IllFormed sheet memory = OfSheet sheet (λ s. well_formed s memory ≡ false)

-- ---- simp_check

abbrev pub check_rows : List ℕ → List ℕ → List Row
check_rows sheet script =
    1 when NoSheet sheet
    ∷ 2 when Repeats sheet
    ∷ 4 when NoScript sheet script
    ∷ 5 when IllTyped sheet script
    ∷ 6 when IllLabelled sheet script
    ∷ []

abbrev pub check_table : List ℕ → List ℕ → Table ℕ
check_table sheet script = record { rows = check_rows sheet script; refuse = λ k. k; Else = λ r. r ≡ 0 }

-- ---- simp_run

abbrev pub run_rows : List ℕ → List ℕ → List ℕ → ℕ → List Row
run_rows sheet script memory authority =
    1 when NoSheet sheet
    ∷ 2 when Repeats sheet
    ∷ 3 when Strangers sheet authority
    ∷ 4 when NoScript sheet script
    ∷ 5 when IllTyped sheet script
    ∷ 6 when IllLabelled sheet script
    ∷ 7 when OtherSize sheet memory
    ∷ 8 when IllFormed sheet memory
    ∷ []

-- How a run of p on s goes, by figure 3 under the authority: what is answered, and what the lent memory then holds. It
-- is the language's RunEnds, in numbers and words.
pub data Ends (s : Sheet) (p : Script) (memory : List ℕ) (authority budget : ℕ) : Ran → Type 0 where
  -- done: skip after k transitions
  ends_0 : {M' : Mem} {k : ℕ} → k ≤ budget → Steps (world_for s authority p) k (memory_of memory) p.command M' skip
      → NoneLong (world_for s authority p) k (memory_of memory) p.command
      → Ends s p memory authority budget (record { answer = 0; steps = k; memory = words_of (location_count s) M' })
  -- spent: after as many transitions as the budget has, the command is not skip, and no step within it met 10
  ends_9 : {c' : Cmd} {M' : Mem}
      → Steps (world_for s authority p) budget (memory_of memory) p.command M' c' → ¬ (c' ≡ skip)
      → NoneLong (world_for s authority p) budget (memory_of memory) p.command
      → Ends s p memory authority budget (record { answer = 9; steps = budget; memory = memory })
  -- too long: after k transitions, fewer than the budget, the next step meets a value of more than 16 words
  ends_10 : {c' : Cmd} {M' : Mem} {k : ℕ} → k < budget
      → Steps (world_for s authority p) k (memory_of memory) p.command M' c'
      → LongStep (world_for s authority p) M' c' → NoneLong (world_for s authority p) k (memory_of memory) p.command
      → Ends s p memory authority budget (record { answer = 10; steps = k; memory = memory })

abbrev pub run_table : List ℕ → List ℕ → List ℕ → ℕ → ℕ → Table Ran
run_table sheet script memory authority budget = record {
  rows = run_rows sheet script memory authority;
  refuse = refused_run memory;
  Else = λ r. OfScript sheet script (λ s p. Ends s p memory authority budget r);
}

-- ---- simp_view

abbrev pub view_rows : List ℕ → List ℕ → ℕ → List ℕ → List Row
view_rows sheet memory group view =
    1 when NoSheet sheet
    ∷ 2 when Repeats sheet
    ∷ 3 when Strangers sheet group
    ∷ 7 when (OtherSize sheet memory ⊎ OtherSize sheet view)
    ∷ 8 when IllFormed sheet memory
    ∷ []

abbrev pub view_table : List ℕ → List ℕ → ℕ → List ℕ → Table Viewed
view_table sheet memory group view = record {
  rows = view_rows sheet memory group view;
  refuse = refused_view view;
  Else = λ v. OfSheet sheet (λ s. v ≡ record { answer = 0; view = view_words s group memory });
}

-- ---- no number applies, said of the sheet and the script

-- neither 1 nor 2
pub record OnSheet (sheet : List ℕ) (s : Sheet) : Type 0 where
  pub form : IsSheet sheet s
  pub once : repeats s ≡ false

-- none of 1 to 8: a run may start
pub record Started (sheet script memory : List ℕ) (authority : ℕ) (s : Sheet) (p : Script) : Type 0 where
  pub on_sheet_lem : OnSheet sheet s
  pub principals : Principals s authority
  pub of_script : IsScript (counts_of s) script p
  pub typable : Typable s p
  pub sized : Sized s memory
  pub well_formed_lem : well_formed s memory ≡ true

-- Every promise, by the name of its proof, at its type: the table of contents of what is proved. docs/PROMISES.md is
-- this list for a reader, and tests/promises holds the two together, with the statements and the proofs.
use Rattle.std.specs.Prelude.{List, ℕ}
use Rattle.sets.specs.Meaning.{MasksAreSets}
use Rattle.labels.specs.Lattice.{SecurityLattices, NonTrivial, OneLabel, EmptyGroups, ClosedBelow, ReadingDownward}
use Rattle.labels.specs.Lattice.{ReadsBelow, TwoRules, PoliciesEffective}
use Rattle.language.specs.Theorems.{Theorems, LeastLabels, StricterFlow, TrustDerivable}
use Rattle.sheet.specs.Theorems.{LeastLabelLawsHold, SameLabelsOnSheets, NumbersAgreeOnSheets, ReadingOnSheets}
use Rattle.text.specs.Reading.{Read}
use Rattle.text.specs.Lines.{LineForm}
use Rattle.text.specs.Theorems.{NumberExact, SetExact, NumberFieldExact, SetFieldExact, LineEndExact, LastNumberExact}
use Rattle.text.specs.Theorems.{LinesExact, AllLinesExact}
use Rattle.sheet_text.specs.Theorems.{AcceptedExact, RepeatingExact, MalformedExact, OneSheet}
use Rattle.script_text.specs.Theorems.{ScriptExact}
use Rattle.memory.specs.Theorems.{WordsExactly, CellExactly, MemoriesExactly, ViewsExactly, MasksExactly}
use Rattle.memory_text.specs.Theorems.{MemoryExact}
use Rattle.checker.specs.Theorems.{CheckerExact}
use Rattle.numbers.specs.Theorems.{EveryTable}
use Rattle.simp.specs.Demands.{Demand1, Demand2, Demand3}
use Rattle.simp.specs.RoundView.{RoundView}
use Rattle.simp.specs.SmallestGroups.{SmallestGroups}
use Rattle.simp.specs.StartUnseen.{StartUnseen}
use Rattle.simp.specs.TrustKept.{TrustKept}
use Rattle.simp.specs.ReadingRules.{OnlyReading, DownwardSuffices}
use Rattle.simp.specs.Cases.{CasesHold}
use Rattle.scripts.specs.Theorems.{PartingExact}
use Rattle.groups.specs.Theorems.{GroupsExact, ReadersHoldOne, ReadingGrows, SingleReaders}
use Rattle.parts.specs.Theorems.{JoinedApart, MissingEmpty, Chunks, HoldsTexts}
use Rattle.desk.specs.Theorems.{GroupExact, SameOrder, ShowInOrder, KeptEnough, ShowsInput}

pub record Promises : Type 1 where
  -- ---- The calls

  -- Each call gives the first number that applies, in their order; after any call the lent memory holds a finished
  -- run's values or what it held before, and a refused call writes to no lent slice.
  pub demand_1 : Demand1
  -- Each call answers exactly what the papers say: the numbers, the typing rules, the memory and the step count of
  -- the evaluation rules, the smallest groups, whether a script is trust-keeping.
  pub demand_2 : Demand2
  -- Noninterference: two done runs of an accepted script under one authority, from memories that give a group the same
  -- view, leave memories that do.
  pub demand_3 : Demand3
  -- Two rounds of the same scripts under one authority, from memories that give a group the same view, leave memories
  -- that do, where each script is done in both.
  pub round_view : RoundView
  -- simp_groups lists a group exactly if it is a set of the sheet's principals that reads the label while none of its
  -- proper subsets does; the list rises, its length is the count, and the places after it are kept.
  pub smallest_groups : SmallestGroups
  -- A group that can't read a script's starting label is shown the same before and after every run of it, and of a
  -- round of such scripts, done, stopped or refused.
  pub start_unseen : StartUnseen
  -- Where a group is distrusted and what it writes is blanked out: two done runs of an accepted, trust-keeping script
  -- under one authority, from memories that are alike in what is left, leave memories that are; and so do rounds of
  -- such scripts.
  pub trust_kept : TrustKept
  -- A sheet's rule of reading decides who reads, and nothing else: who writes, what is left where a group is
  -- distrusted, which sheets, scripts and memories are refused, which scripts are trust-keeping, where a script starts
  -- and what else a run goes by stay.
  pub only_reading : OnlyReading
  -- What the view promises, noninterference of runs and rounds and that a start that isn't read isn't seen, rests on
  -- one fact about reading: it is promised to everyone who reads with a label every label below it by readers alone.
  pub downward_suffices : DownwardSuffices
  -- The scope's starred cases, its two of long values, and those of each request: rounds, smallest groups, starting
  -- labels, trust-keeping scripts, pairs and one reader by himself, each in a table of its own.
  pub cases_hold : CasesHold
  -- Of any table of refusal numbers: the first that applies is given, and it settles the whole answer; there is exactly
  -- one answer where it is settled which row applies first, and there is exactly one where none applies. Demand 1
  -- holds of any call that fits its table and answers by it.
  pub every_table : EveryTable
  -- ---- The language

  -- The functions agree with the figures; runs are determinate, sound and end as the figures have it; typing is exact;
  -- the paper's theorems 1 and 2, noninterference, of one expression and of one command; confinement.
  pub theorems : Theorems
  -- The scope's least label of an expression is the least that figure 4 gives it: figure 4 gives the expression a type
  -- at a label exactly if it gives it that type at the least label, and the least label is at or below that label.
  pub least_labels : LeastLabels
  -- A command passes stricter conditions on unpacks exactly if it passes the conditions and each of its unpacks the
  -- test besides; so trust-keeping is what noninterference asks for where a group is distrusted.
  pub stricter_flow : StricterFlow
  -- A script has a derivation and is trust-keeping exactly if figures 4 and 5 give it one where the rule of unpack
  -- compares whole labels, writers as well as readers, instead of C alone.
  pub trust_derivable : TrustDerivable
  -- For every sheet and script the number that the checker's contract gives on a sheet that isn't refused says which
  -- derivations there are: 0 if there is one, 5 if there is none even with the labels struck out, 6 otherwise.
  pub checker_exact : CheckerExact
  -- ---- Principals and labels

  -- A set of principals is a number whose bit p is principal p; the operations on numbers are those on sets.
  pub masks_are_sets : MasksAreSets
  -- The labels of up to 16 principals are a bounded order with joins; C, I, reading by the scope's rule and writing
  -- obey the laws of the paper's section 2.2.
  pub security_lattices : SecurityLattices
  -- The lattice of two principals or more is not trivial.
  pub non_trivial : NonTrivial
  -- One principal has one label.
  pub one_label : OneLabel
  -- Where there is a principal, the empty group reads nothing by the scope's rule and writes nothing.
  pub empty_groups : EmptyGroups
  -- Who reads with a label what is below it by readers alone reads with it every label below it.
  pub closed_below : ClosedBelow
  -- Every group reads so, by the scope's rule and where one reads by himself.
  pub reading_downward : ReadingDownward
  -- Who reads a label reads every label below it, by both rules, of up to 16 principals.
  pub reads_below : ReadsBelow
  -- Where one reads by himself, a group reads exactly if a member does as a group of one; it reads no more than by the
  -- scope's rule, a group of one as much, and the empty group nothing.
  pub two_rules : TwoRules
  -- The label of policies that name only the n principals is effective.
  pub policies_effective : PoliciesEffective
  -- Of any access structure the smallest groups are those of one list.
  pub groups_exact : GroupsExact
  -- Of an access structure that grows with the group, a group reads exactly if it holds a listed one.
  pub readers_hold_one : ReadersHoldOne
  -- By the sheet's rule of reading, who reads a label grows with the group.
  pub reading_grows : ReadingGrows
  -- Where one reads by himself, the smallest groups are the single readers.
  pub single_readers : SingleReaders
  -- The labels that a sheet's scripts are typed over obey the laws that exact typing asks for.
  pub least_label_laws : LeastLabelLawsHold
  -- Typing and running go by the same labels of a sheet.
  pub same_labels_on_sheets : SameLabelsOnSheets
  -- On a sheet that repeats nothing, equal numbers and equal meaning agree.
  pub numbers_agree_on_sheets : NumbersAgreeOnSheets
  -- A group reads a label of a sheet by its rule: for every owner one of its members is a reader, or one of its members
  -- is a reader for every owner.
  pub reading_on_sheets : ReadingOnSheets
  -- ---- The texts

  -- A number is read exactly where its decimal form stands.
  pub number_exact : NumberExact
  -- A set is read exactly where its four digits stand.
  pub set_exact : SetExact
  -- A field that is a number is read exactly where its printed form stands.
  pub number_field_exact : NumberFieldExact
  -- A field that is a set is read exactly where its printed form stands.
  pub set_field_exact : SetFieldExact
  -- The end of a line is read exactly where byte 10 stands.
  pub line_end_exact : LineEndExact
  -- The last field of a line, a number, is read exactly where it and the end of the line stand.
  pub last_number_exact : LastNumberExact
  -- Lines of a form are read as at most k of them exactly where these stand printed one after another.
  pub lines_exact : {A : Type 0} {line : List ℕ → Read A} {print : A → List ℕ → List ℕ} {Good : A → Type 0}
      → LineForm line print Good → LinesExact line print Good
  -- And as any number of them.
  pub all_lines_exact : {A : Type 0} {line : List ℕ → Read A} {print : A → List ℕ → List ℕ} {Good : A → Type 0}
      → LineForm line print Good → AllLinesExact line print Good
  -- A text is accepted as a sheet exactly where it is the printed form of one of the right form, is not too long, and
  -- the sheet repeats nothing.
  pub accepted_exact : AcceptedExact
  -- A sheet is refused by 2 exactly where it is of its form and repeats a type or a label.
  pub repeating_exact : RepeatingExact
  -- A text is refused by 1 exactly where it is the printed form of no sheet of the right form, or too long.
  pub malformed_exact : MalformedExact
  -- A text is that of one sheet at most.
  pub one_sheet : OneSheet
  -- On a sheet of the form, a script is read exactly where the text is the printed form of an opening and a command
  -- within the bounds that name only what is there.
  pub script_exact : ScriptExact
  -- The scripts of a text are these exactly where no line of them is empty and the text is these,
  -- joined by empty lines.
  pub parting_exact : PartingExact
  -- A memory text is read exactly where it is the printed form of a memory.
  pub memory_exact : MemoryExact
  -- ---- Memories and views

  -- Words are read back as the value that they are the words of, and as no other that is proper.
  pub words_exactly : WordsExactly
  -- A location's words pass exactly if they are the cell of a proper value that passes the test.
  pub cell_exactly : CellExactly
  -- A memory is well-formed exactly if it is the words of values as the sheet declares them.
  pub memories_exactly : MemoriesExactly
  -- Two well-formed memories give a group the same view exactly if their masked values are equal.
  pub views_exactly : ViewsExactly
  -- By any rule of who sees which label: what is shown of two well-formed memories is the same exactly if their masked
  -- values are.
  pub masks_exactly : MasksExactly
  -- ---- The programs

  -- Texts of whole lines, no line of them empty, and a last text, joined by empty lines, are parted into these again.
  pub joined_apart : JoinedApart
  -- Missing texts are empty.
  pub missing_empty : MissingEmpty
  -- Chunks fed one after another are their concatenation.
  pub chunks : Chunks
  -- A buffer that is long enough holds what is kept of each text.
  pub holds_texts : HoldsTexts
  -- A group is four digits and byte 10.
  pub group_exact : GroupExact
  -- The list by which show orders the refusals is the order of a view's table.
  pub same_order : SameOrder
  -- Show prints the first number that applies, in the order 1 2 3 8, or the view.
  pub show_in_order : ShowInOrder
  -- The first 16,385 bytes of each text settle what show prints.
  pub kept_enough : KeptEnough
  -- What show's buffer holds of an input gives what the input gives.
  pub shows_input : ShowsInput

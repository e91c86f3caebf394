-- What a case is and when it holds, with the sheets and memories that more than one table of cases has.
use Rattle.std.specs.Prelude.{◌≡◌, Bool, List, [], ◌∷◌, ◌++◌, ℕ, zero, suc}
use Prim.Native.String.{String}
use Rattle.labels.specs.Labels.{Policy, policy, label_of, reads_pooled_of, writes_of, reads_under}
use Rattle.labels.specs.declared.Rule.TheVariants.{Alone}
use Rattle.sheet.specs.Padding.{padded}
use Rattle.sheet_text.specs.Sheets.{sheet_of}
use Rattle.memory.specs.View.{trusted_words}
use Rattle.stages.specs.Calls.{on_sheet, check_of, run_of, view_of, trust_of}
use Rattle.scripts.specs.Parting.{most_scripts}
use Rattle.rounds.specs.Calls.{round_of}
use Rattle.groups.specs.Calls.{groups_of}
use Rattle.simp.specs.Texts.{bytes}

-- the scope's sheet
unfoldable pub sheet : String
sheet = "P 3\nT 0 1\nL\nL\nO 0 0000 0000\nL\nO 0 0000 0007\nX 0 0\nX 0 2\nX 4 0\nX 5 2\n"

-- no location, and fourteen sums, types 5 to 18: each has the type before it on its left, the first int+int
unfoldable pub nested : String
nested =
    "P 1\nT 3 0\nT 5 0\nT 6 0\nT 7 0\nT 8 0\nT 9 0\nT 10 0\nT 11 0\nT 12 0\nT 13 0\nT 14 0\nT 15 0\nT 16 0\nT 17 0\n"

-- scripts in one text, parted by empty lines
unfoldable pub parted : List String → List ℕ
parted [] = []
parted (t ∷ []) = bytes t
parted (t ∷ u ∷ ts) = bytes t ++ (10 ∷ parted (u ∷ ts))

-- a text so many times over
unfoldable pub times : ℕ → String → List ℕ
times zero t = []
times (suc n) t = bytes t ++ times n t

-- what is left of a memory where a group is distrusted; nothing on a sheet that is refused
unfoldable pub trusted_on : String → ℕ → List ℕ → List ℕ
trusted_on on group m = on_sheet (λ k. []) (sheet_of (bytes on)) (λ s. trusted_words s group m)

pub data Case : Type 0 where
  -- of four principals, whether a group reads by the pooled rule, or writes, the label with these policies
  reads_pooled writes : List Policy → ℕ → Bool → Case
  -- likewise, whether one of the group's members reads it by himself
  reads_alone : List Policy → ℕ → Bool → Case
  -- a script, and what checking it answers
  checks : String → ℕ → Case
  -- a sheet, a script, and what checking it answers
  checks_on : String → String → ℕ → Case
  -- an opening, so many `;` and as many `s`, and a last command: together a script; and what checking it answers
  checks_long : String → ℕ → String → ℕ → Case
  -- a script, a memory and an authority; the steps of the run, which is done, and the memory that it leaves
  runs : String → List ℕ → ℕ → ℕ → List ℕ → Case
  -- a script, a memory and an authority: a run that is spent, whatever the budget
  spends : String → List ℕ → ℕ → Case
  -- on the sheet `nested`, a script, what its run answers, and the steps
  answers : String → ℕ → ℕ → Case
  -- a sheet, a script, a memory and an authority; what the run answers, its steps, and the memory that it leaves
  runs_on : String → String → List ℕ → ℕ → ℕ → ℕ → List ℕ → Case
  -- a sheet, a group and a memory: what the group's view shows of it
  views : String → ℕ → List ℕ → List ℕ → Case
  -- a sheet, scripts, a memory and a budget, without authority: what the round answers, what each script answers and
  -- its steps, and the memory that the round leaves
  rounds : String → List String → List ℕ → ℕ → ℕ → List ℕ → List ℕ → List ℕ → Case
  -- a sheet, a script, and what simp_trust answers: the number, and 1 if the script is accepted and trust-keeping
  trusts : String → String → ℕ → ℕ → Case
  -- a sheet, a script, an authority, a group of distrusted parties and a memory: what is left of the memory, and what
  -- is left of the one after the run, which is done
  distrusts : String → String → ℕ → ℕ → List ℕ → List ℕ → List ℕ → Case
  -- a sheet, a label and places: what simp_groups answers, how many groups, and what the places then hold
  groups : String → ℕ → List ℕ → ℕ → ℕ → List ℕ → Case

-- the largest budget
abbrev pub largest : ℕ
largest = 4294967295

unfoldable pub Holds : Case → Type 0
Holds (reads_pooled ps g b) = reads_pooled_of 4 g (label_of 4 ps) ≡ b
Holds (reads_alone ps g b) = reads_under Alone 4 g (label_of 4 ps) ≡ b
Holds (writes ps g b) = writes_of 4 g (label_of 4 ps) ≡ b
Holds (checks script answer) = check_of (bytes sheet) (bytes script) ≡ answer
Holds (checks_on on script answer) = check_of (bytes on) (bytes script) ≡ answer
Holds (checks_long opening n last answer) =
    check_of (bytes sheet) (bytes opening ++ (times n ";\n" ++ (times n "s\n" ++ bytes last))) ≡ answer
Holds (runs script m authority steps after) =
    run_of (bytes sheet) (bytes script) m authority largest ≡ record { answer = 0; steps = steps; memory = after }
Holds (spends script m authority) =
    (budget : ℕ)
    → run_of (bytes sheet) (bytes script) m authority budget ≡ record { answer = 9; steps = budget; memory = m }
Holds (answers script answer steps) =
    run_of (bytes nested) (bytes script) [] 0 largest ≡ record { answer = answer; steps = steps; memory = [] }
Holds (runs_on on script m authority answer steps after) =
    run_of (bytes on) (bytes script) m authority largest ≡ record { answer = answer; steps = steps; memory = after }
Holds (views on group m shown) = view_of (bytes on) m group m ≡ record { answer = 0; view = shown }
Holds (rounds on scripts m budget answer each steps after) =
    round_of (bytes on) (parted scripts) m 0 budget
    ≡ record { answer = answer; answers = padded most_scripts each; steps = padded most_scripts steps; memory = after }
Holds (trusts on script answer keeping) =
    trust_of (bytes on) (bytes script) ≡ record { answer = answer; keeping = keeping }
Holds (distrusts on script authority group m trusted trusted') =
    let r = run_of (bytes on) (bytes script) m authority largest in
    (trusted_on on group m ≡ trusted) × (r.answer ≡ 0) × (trusted_on on group r.memory ≡ trusted')
Holds (groups on l places answer count after) =
    groups_of (bytes on) l places ≡ record { answer = answer; count = count; places = after }

-- every case of a table holds
unfoldable pub Each : List Case → Type 0
Each [] = Unit {0}
Each (c ∷ cs) = Holds c × Each cs

-- {0: readers 1, writers 2; 1: readers 0, writers 2 and 3}
unfoldable pub two_policies : List Policy
two_policies = policy 0 0b0010 0b0100 ∷ policy 1 0b0001 0b1100 ∷ []

-- {0: 2; 1: 3}, readers only listed
unfoldable pub readers_only : List Policy
readers_only = policy 0 0b0100 0 ∷ policy 1 0b1000 0 ∷ []

-- two principals; bottom, with both for readers and each owner for its writer, and a label that both may write too; a
-- location of each
unfoldable pub two_starts : String
two_starts = "P 2\nL\nO 0 0003 0000\nO 1 0003 0000\nL\nX 0 0\nX 0 1\n"

-- locations; each row is filled up with zeros
unfoldable pub filled_rows : List (List ℕ) → List ℕ
filled_rows [] = []
filled_rows (row ∷ rows) = padded 16 row ++ filled_rows rows

-- four of them
unfoldable pub four_locations : List ℕ → List ℕ → List ℕ → List ℕ → List ℕ
four_locations a b c d = filled_rows (a ∷ b ∷ c ∷ d ∷ [])

-- a memory on `sheet`: two integers, and an error in each of the other locations
unfoldable pub before : List ℕ
before = four_locations (1 ∷ 5 ∷ []) (1 ∷ 62 ∷ []) (4 ∷ 2 ∷ 1 ∷ []) (4 ∷ 2 ∷ 1 ∷ [])

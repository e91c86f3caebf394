-- What a sheet's rule of reading decides (request (g)): who reads, and nothing else. What the view promises rests on
-- one fact about reading, which both rules have (crate labels' ReadingDownward): who reads a label reads every label
-- below it, by readers alone (DownwardClosed).
use Rattle.std.specs.Prelude.{◌↔◌, ◌≡◌, Bool, true, List, ℕ}
use Rattle.labels.specs.declared.Label.{Label}
use Rattle.labels.specs.declared.Rule.{Rule}
use Rattle.labels.specs.Labels.{reads_under}
use Rattle.labels.specs.Lattice.{DownwardClosed}
use Rattle.language.specs.Syntax.{Script}
use Rattle.language.specs.Typing.{refusal}
use Rattle.language.specs.Trust.{trust_keeping}
use Rattle.sheet.specs.Sheet.{Sheet, label_no, location_no, location_count, formed, repeats}
use Rattle.sheet.specs.Meaning.{labels_over, declarations_of, start_label, reads_no, writes_no, world_for}
use Rattle.sheet_text.specs.Theorems.{IsSheet}
use Rattle.script_text.specs.Counts.{counts_of}
use Rattle.script_text.specs.Theorems.{IsScript}
use Rattle.memory.specs.Memory.{memory_of, memory_refusal}
use Rattle.memory.specs.View.{view_by, view_words, trusted_words}
use Rattle.stages.specs.Calls.{run_of}
use Rattle.scripts.specs.Parting.{script_texts}
use Rattle.rounds.specs.Answers.{Gate}
use Rattle.rounds.specs.Calls.{round_by}
use Rattle.simp.specs.Rounds.{EachOpen}
use Rattle.simp.specs.RoundView.{EachDone}
use Rattle.simp.specs.StartUnseen.{StartHidden}

-- ---- the rule decides who reads, and nothing else

-- the sheet with this rule, otherwise the same
abbrev pub ruled : Rule → Sheet → Sheet
ruled rule s = record {
  principals = s.principals;
  rule = rule;
  compounds = s.compounds;
  labels = s.labels;
  locations = s.locations;
}

-- What is the same on a sheet with another rule.
pub record OnlyReading : Type 0 where
  -- who writes a label
  pub writing : (rule : Rule) (s : Sheet) (g l : ℕ) → writes_no (ruled rule s) g l ≡ writes_no s g l
  -- what is left of a memory where a group is distrusted
  pub distrusting : (rule : Rule) (s : Sheet) (g : ℕ) (ws : List ℕ)
      → trusted_words (ruled rule s) g ws ≡ trusted_words s g ws
  -- whether it is of the right form, and whether it repeats something (1 and 2)
  pub sheets : (rule : Rule) (s : Sheet) → (formed (ruled rule s) ≡ formed s) × (repeats (ruled rule s) ≡ repeats s)
  -- how much there is to name (4)
  pub names : (rule : Rule) (s : Sheet) → counts_of (ruled rule s) ≡ counts_of s
  -- which scripts have a derivation (5 and 6)
  pub typing : (rule : Rule) (s : Sheet) (p : Script)
      → refusal (labels_over s.principals) (declarations_of (ruled rule s)) p
      ≡ refusal (labels_over s.principals) (declarations_of s) p
  -- which scripts are trust-keeping
  pub keeping : (rule : Rule) (s : Sheet) (p : Script)
      → trust_keeping (labels_over s.principals) (declarations_of (ruled rule s)) p
      ≡ trust_keeping (labels_over s.principals) (declarations_of s) p
  -- which memories are refused (7 and 8)
  pub memories : (rule : Rule) (s : Sheet) (ws : List ℕ) → memory_refusal (ruled rule s) ws ≡ memory_refusal s ws
  -- what a run rests on, but for who reads: that is by the other rule
  pub runs : (rule : Rule) (s : Sheet) (authority : ℕ) (p : Script) → let w = world_for s authority p in
      world_for (ruled rule s) authority p
      ≡ record { ty = w.ty; below = w.below; reads = reads_no (ruled rule s) authority; writes = w.writes }
  -- the label that a script starts at
  pub starts : (rule : Rule) (s : Sheet) (p : Script) → start_label (ruled rule s) p ≡ start_label s p

-- ---- what the view promises rests on one fact about reading

-- what is shown of the memory ws to one who reads the labels `reads`
abbrev pub shown_by : Sheet → (Label → Bool) → List ℕ → List ℕ
shown_by s reads ws = view_by (location_count s) (λ (x : ℕ). reads (label_no s (location_no s x).label))
    (λ (l : ℕ). reads (label_no s l)) (memory_of ws)

-- he doesn't read the label that the script with this text starts at
abbrev pub StartUnread : (Label → Bool) → List ℕ → List ℕ → Type 0
StartUnread reads sheet script =
    (s : Sheet) (p : Script) → IsSheet sheet s → IsScript (counts_of s) script p
    → ¬ (reads (start_label s p).raw ≡ true)

-- What is promised to him of the words that he is shown: the same as to a group. (Demand3, RoundView and StartUnseen
-- say besides that simp_view gives a group its view before and after, or the same number.)
pub record PromisedTo (reads : Label → Bool) (sheet : List ℕ) (s : Sheet) : Type 0 where
  -- demand 3: if two memories show him the same and both runs are done, what they leave shows him the same
  pub kept : (script : List ℕ) (authority budget budget' : ℕ) (memory memory' : List ℕ)
      → shown_by s reads memory ≡ shown_by s reads memory'
      → (run_of sheet script memory authority budget).answer ≡ 0
      → (run_of sheet script memory' authority budget').answer ≡ 0
      → shown_by s reads (run_of sheet script memory authority budget).memory
      ≡ shown_by s reads (run_of sheet script memory' authority budget').memory
  -- likewise a round, as RoundView (request (a))
  pub round_kept : (gate : Gate) (scripts : List ℕ) (authority budget budget' : ℕ) (memory memory' : List ℕ)
      → shown_by s reads memory ≡ shown_by s reads memory'
      → EachDone gate (round_by gate sheet scripts memory authority budget)
      → EachDone gate (round_by gate sheet scripts memory' authority budget')
      → shown_by s reads (round_by gate sheet scripts memory authority budget).memory
      ≡ shown_by s reads (round_by gate sheet scripts memory' authority budget').memory
  -- a run of a script whose starting label he doesn't read leaves what he is shown as it was, and so does a round of
  -- such scripts, as StartUnseen (request (d))
  pub unseen : (script : List ℕ) → StartUnread reads sheet script → (authority budget : ℕ) (memory : List ℕ)
      → shown_by s reads (run_of sheet script memory authority budget).memory ≡ shown_by s reads memory
  pub round_unseen : (gate : Gate) (scripts : List ℕ) → EachOpen (StartUnread reads sheet) gate 0 (script_texts scripts)
      → (authority budget : ℕ) (memory : List ℕ)
      → shown_by s reads (round_by gate sheet scripts memory authority budget).memory ≡ shown_by s reads memory

-- It is promised to everyone who reads with a label every label below it, on any sheet. A group is shown what he is who
-- reads the labels that it reads by the sheet's rule, and the starts hidden from it are those that he doesn't read.
-- (The run's authority reads by the sheet's rule; of that nothing is asked.)
pub record DownwardSuffices : Type 0 where
  pub promised : (reads : Label → Bool) → DownwardClosed reads → (sheet : List ℕ) (s : Sheet) → IsSheet sheet s
      → PromisedTo reads sheet s
  pub to_groups : (s : Sheet) (g : ℕ) (ws : List ℕ)
      → shown_by s (reads_under s.rule s.principals g) ws ≡ view_words s g ws
  pub starts_of_groups : (sheet : List ℕ) (s : Sheet) → IsSheet sheet s → (g : ℕ) (script : List ℕ)
      → StartHidden sheet g script ↔ StartUnread (reads_under s.rule s.principals g) sheet script

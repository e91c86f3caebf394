-- A group that can't read a script's starting label is shown the same before and after: an instance of confinement.
use mathlib.Core.Path.{◌≡◌, sym, ap, ◌∙◌}
use mathlib.Core.List.{List}
use Prim.Native.Nat.{ℕ}
use Rattle.language.specs.Syntax.{Cmd, skip, Script}
use Rattle.language.specs.World.{World, Mem}
use Rattle.language.specs.Transition.{done}
use Rattle.language.specs.Figures.{Steps}
use Rattle.language.specs.Theorems.{RunEnds, ends_done}
use Rattle.sheet.specs.Sheet.{Sheet}
use Rattle.memory.specs.Memory.{memory_of, memory_refusal}
use Rattle.memory.specs.View.{view_words, view_refusal}
use Rattle.memory.proofs.Exactness.{memories_exactly, views_exactly}
use Rattle.stages.specs.Calls.{on_sheet, run_of, view_of}
use Rattle.simp.specs.Judgements.{OnSheet, Started}
use Rattle.simp.specs.StartUnseen.{StartHidden, StartUnseen}
use Rattle.simp.proofs.Judged.{read}
use Rattle.simp.proofs.SecondDemand.{declared, by_figures}
use Rattle.simp.proofs.FirstDemand.{starts, run_answers}
use Rattle.simp.proofs.ThirdDemand.{Done, started, done_run, done_declared}
use Rattle.simp.proofs.Readers.{shown_confined}
use Rattle.simp.proofs.RoundDemands.{by_zero}
use Rattle.simp.proofs.RoundRuns.{round-leaves}

-- a run that is done is a trace
pub done_steps : {W : World} {b l : ℕ} {M M' : Mem} {c : Cmd} → RunEnds W b M c (done M' l)
    → (k : ℕ) × Steps W k M c M' skip
done_steps (ends_done {k} e t n) = (k, t)

-- memories that are refused alike and show the group the same words
viewed_alike : {sheet : List ℕ} {s : Sheet} (group : ℕ) (m m' view : List ℕ) → OnSheet sheet s
    → memory_refusal s m ≡ memory_refusal s m'
    → view_words s group m ≡ view_words s group m' → view_of sheet m group view ≡ view_of sheet m' group view
unfolding view_of on_sheet view_refusal
viewed_alike group m m' view i e w = rw (read i, e, w)

module _ (sheet : List ℕ) (group : ℕ) (authority budget : ℕ) (view : List ℕ) where
  -- a memory gives the group the view that another one gives
  abbrev Alike : List ℕ → List ℕ → Type 0
  Alike m m' = view_of sheet m group view ≡ view_of sheet m' group view

  -- a done run
  done_alike : (script memory left : List ℕ) {s : Sheet} {p : Script} → StartHidden sheet group script
      → (st : Started sheet script memory authority s p)
      → Done s p memory authority budget left → Alike left memory
  done_alike script memory left {s} {p} hidden st ran =
      let d = done_declared st ran in
      let run = done_steps ((by_figures st budget _).0 ran.run) in
      let masks = shown_confined s st.on_sheet_lem.form.is_formed group p st.typable
      (hidden s p st.on_sheet_lem.form st.of_script) authority run.0
      (memory_of memory) ran.reached skip run.1 in
      let same = (views_exactly s group).same_of_values ran.reached (memory_of memory) d (declared st) masks in
      let back = (memories_exactly s).words memory (started st) in
      viewed_alike group left memory view st.on_sheet_lem
      (ap (memory_refusal s) ran.words ∙ (memories_exactly s).accepted ran.reached d ∙ sym (started st))
      (ap (view_words s group) ran.words ∙ same ∙ ap (view_words s group) back)

  run_alike : (script memory : List ℕ) → StartHidden sheet group script
      → Alike (run_of sheet script memory authority budget).memory memory
  run_alike script memory hidden =
      by_zero (run_of sheet script memory authority budget).answer
      (λ h. let st = starts sheet script memory authority budget h in
      done_alike script memory _ hidden st.2 (done_run budget st.2 h))
      (λ n. ap (λ (m : List ℕ). view_of sheet m group view) ((run_answers sheet script memory authority budget).kept n))

pub start_unseen : StartUnseen
start_unseen = record {
  run = λ sheet script group hidden authority budget memory view.
      run_alike sheet group authority budget view script memory hidden;
  round = λ sheet scripts group gate hidden authority budget memory view.
      round-leaves (λ m. view_of sheet m group view) sheet authority budget (StartHidden sheet group)
      (run_alike sheet group authority budget view) gate scripts memory hidden;
}

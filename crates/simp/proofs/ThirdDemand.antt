-- Demand 3, from noninterference of the language.
use mathlib.Core.Path.{◌≡◌, refl, sym, ap, ◌∙◌, subst}
use mathlib.Core.Bool.{Bool}
use mathlib.Core.List.{List}
use Prim.Native.Nat.{ℕ, suc}
use native.Mathlib.Omega.{arith}
use Rattle.language.specs.Syntax.{Script}
use Rattle.language.specs.World.{Mem}
use Rattle.language.specs.Transition.{Out, done, spent, over, wrong, iterate}
use Rattle.sheet.specs.Sheet.{Sheet, location_count}
use Rattle.sheet.specs.Meaning.{world_for}
use Rattle.sheet_text.proofs.Theorems.{one_sheet}
use Rattle.memory.specs.Memory.{memory_of, words_of, well_formed, memory_refusal}
use Rattle.language.specs.View.{mask_mem}
use Rattle.memory.specs.View.{view_by, view_words}
use Rattle.memory.specs.Theorems.{Declared}
use Rattle.memory.proofs.Exactness.{memories_exactly, views_exactly, masks_exactly}
use Rattle.memory.proofs.MemoryLaws.{unrefused-length, unrefused-formed}
use Rattle.stages.specs.Answers.{Ran, Viewed}
use Rattle.stages.specs.Calls.{ended, run_of, view_of}
use Rattle.stages.proofs.Kept.{left_declared}
use Rattle.simp.specs.Judgements.{OnSheet, Principals, Sized, Started}
use Rattle.simp.specs.Demands.{Demand3}
use Rattle.simp.proofs.Numbers.{sized_0, typable-shape}
use Rattle.simp.proofs.Judged.{one_script}
use Rattle.simp.proofs.SecondDemand.{declared, started-run, Shows, shown-view}
use Rattle.simp.proofs.FirstDemand.{starts, shows}
use Rattle.simp.proofs.Readers.{shown_kept}

refused : {k : ℕ} {A : Type 0} → suc k ≡ 0 → A
refused h = absurd (omega arith)

-- how a run of p on s from a well-formed memory ended, if it is done
pub record Done (s : Sheet) (p : Script) (memory : List ℕ) (authority budget : ℕ) (left : List ℕ) : Type 0 where
  pub reached : Mem
  pub rest : ℕ
  pub run : iterate (world_for s authority p) budget (memory_of memory) p.command ≡ done reached rest
  pub words : left ≡ words_of (location_count s) reached

ended_done : (s : Sheet) (p : Script) (memory : List ℕ) (authority budget : ℕ) (o : Out)
    → iterate (world_for s authority p) budget (memory_of memory) p.command ≡ o
    → (ended (location_count s) budget memory o).answer ≡ 0
    → Done s p memory authority budget (ended (location_count s) budget memory o).memory
unfolding ended
ended_done s p memory authority budget (done M l) e h = record { reached = M; rest = l; run = e; words = refl }
ended_done s p memory authority budget spent e h = refused h
ended_done s p memory authority budget (over l) e h = refused h
ended_done s p memory authority budget wrong e h = refused h

-- the memory that a run starts from
pub started : {sheet script memory : List ℕ} {authority : ℕ} {s : Sheet} {p : Script}
    → Started sheet script memory authority s p → memory_refusal s memory ≡ 0
started {memory = memory} {s = s} st = sized_0 s memory st.sized st.well_formed_lem

-- a text is that of one sheet, and on it of one script
same_start : {sheet script memory memory' : List ℕ} {authority : ℕ} {s s' : Sheet} {p p' : Script}
    → Started sheet script memory authority s p
    → Started sheet script memory' authority s' p' → Started sheet script memory' authority s p
same_start {sheet} {script} {memory} {memory'} {authority} {s} {s'} {p} {p'} st st' =
    let moved : Started sheet script memory' authority s p' =
    subst (λ (z : Sheet). Started sheet script memory' authority z p')
    (one_sheet sheet s' s st'.on_sheet_lem.form st.on_sheet_lem.form) st' in
    subst (λ (d : Script). Started sheet script memory' authority s d)
    (one_script script st.on_sheet_lem st.of_script moved.of_script) moved

pub done_run : {sheet script memory : List ℕ} {authority : ℕ} {s : Sheet} {p : Script} (budget : ℕ)
    → Started sheet script memory authority s p
    → (run_of sheet script memory authority budget).answer ≡ 0
    → Done s p memory authority budget (run_of sheet script memory authority budget).memory
done_run {sheet} {script} {memory} {authority} {s} {p} budget st h =
    let e = started-run st budget in
    subst (λ (r : Ran). Done s p memory authority budget r.memory) (sym e)
    (ended_done s p memory authority budget (iterate (world_for s authority p) budget (memory_of memory) p.command)
    refl (sym (ap (λ (r : Ran). r.answer) e) ∙ h))

-- it leaves values as the sheet declares them
pub done_declared : {sheet script memory : List ℕ} {authority : ℕ} {s : Sheet} {p : Script} {budget : ℕ} {left : List ℕ}
    → Started sheet script memory authority s p
    → (ran : Done s p memory authority budget left) → Declared s ran.reached
done_declared {memory = memory} {authority = authority} {s = s} {p = p} {budget = budget} st ran =
    left_declared s p.command st.of_script.source st.of_script.named_there
    (typable-shape s p st.typable) authority budget ran.rest
    (memory_of memory) ran.reached (declared st) ran.run

-- two done runs of one script, on its sheet
pub record TwoRuns (sheet script memory memory' : List ℕ) (authority budget budget' : ℕ) : Type 0 where
  pub its_sheet : Sheet
  pub its_script : Script
  pub one : Started sheet script memory authority its_sheet its_script
  pub two : Started sheet script memory' authority its_sheet its_script
  pub ran : Done its_sheet its_script memory authority budget (run_of sheet script memory authority budget).memory
  pub ran' : Done its_sheet its_script memory' authority budget' (run_of sheet script memory' authority budget').memory

pub two_runs : (sheet script memory memory' : List ℕ) (authority budget budget' : ℕ)
    → (run_of sheet script memory authority budget).answer ≡ 0
    → (run_of sheet script memory' authority budget').answer ≡ 0
    → TwoRuns sheet script memory memory' authority budget budget'
two_runs sheet script memory memory' authority budget budget' r r' =
    let st = starts sheet script memory authority budget r in
    let two : Started sheet script memory' authority st.0 st.1 =
    same_start st.2 (starts sheet script memory' authority budget' r').2 in
    record {
      its_sheet = st.0;
      its_script = st.1;
      one = st.2;
      two = two;
      ran = done_run budget st.2 r;
      ran' = done_run budget' two r';
    }

-- What two done runs of one script keep of masks, they keep of words, by any rule of who sees which label.
pub words_kept : {sheet script m m' : List ℕ} {authority b b' : ℕ} (runs : TwoRuns sheet script m m' authority b b')
    (sees shows : ℕ → Bool)
    → ((M N M' N' : Mem) (l l' : ℕ) → ((x : ℕ) → mask_mem sees shows M x ≡ mask_mem sees shows N x)
    → iterate (world_for runs.its_sheet authority runs.its_script) b M runs.its_script.command ≡ done M' l
    → iterate (world_for runs.its_sheet authority runs.its_script) b' N runs.its_script.command ≡ done N' l'
    → (x : ℕ) → mask_mem sees shows M' x ≡ mask_mem sees shows N' x)
    → view_by (location_count runs.its_sheet) sees shows (memory_of m)
    ≡ view_by (location_count runs.its_sheet) sees shows (memory_of m')
    → view_by (location_count runs.its_sheet) sees shows (memory_of (run_of sheet script m authority b).memory)
    ≡ view_by (location_count runs.its_sheet) sees shows (memory_of (run_of sheet script m' authority b').memory)
words_kept {m = m} {m' = m'} runs sees shows kept h =
    let exact = masks_exactly runs.its_sheet sees shows in
    let ran = runs.ran in
    let ran' = runs.ran' in
    let before = (exact.same_words_lem m m' (started runs.one) (started runs.two)).0 h in
    rw (ran.words, ran'.words)
    (exact.same_of_values ran.reached ran'.reached (done_declared runs.one ran)
    (done_declared runs.two ran')
    (kept (memory_of m) (memory_of m') ran.reached ran'.reached ran.rest ran'.rest before
    ran.run ran'.run))

-- a view that was handed out, on the sheet of a run
record Shown (sheet memory : List ℕ) (group : ℕ) (view : List ℕ) (s : Sheet) : Type 0 where
  known : Principals s group
  room : Sized s view
  words : (view_of sheet memory group view).view ≡ view_words s group memory

shown_on : {sheet : List ℕ} {s : Sheet} (group : ℕ) (memory view : List ℕ) → OnSheet sheet s
    → (view_of sheet memory group view).answer ≡ 0
    → Shown sheet memory group view s
shown_on {sheet} {s} group memory view i h =
    let z = shows sheet memory group view h in
    subst (Shown sheet memory group view) (one_sheet sheet z.its_sheet s z.on_sheet_lem.form i.form)
    (record { known = z.known; room = z.room; words = ap (λ (v : Viewed). v.view) (shown-view z) })

-- the view of the words of a memory as declared
left_view : {sheet : List ℕ} {s : Sheet} (group : ℕ) (left view : List ℕ) (M : Mem) → OnSheet sheet s
    → Principals s group → Sized s view → Declared s M
    → left ≡ words_of (location_count s) M
    → view_of sheet left group view ≡ record { answer = 0; view = view_words s group (words_of (location_count s) M) }
unfolding memory_refusal
left_view {sheet} {s} group left view M i p y d e =
    let z = (memories_exactly s).accepted M d in
    let ws = words_of (location_count s) M in
    let h : Shows sheet ws group view = record {
      its_sheet = s;
      on_sheet_lem = i;
      known = p;
      sized = unrefused-length (location_count s) (well_formed s ws) ws z;
      room = y;
      well_formed_lem = unrefused-formed (location_count s) (well_formed s ws) ws z;
    } in
    ap (λ (us : List ℕ). view_of sheet us group view) e ∙ shown-view h

pub demand_3 : Demand3
demand_3 sheet script k authority b b' group m m' v v' same r r' =
    let runs = two_runs sheet script m m' authority b b' r r' in
    let s : Sheet = runs.its_sheet in
    let p : Script = runs.its_script in
    let one = runs.one in
    let two = runs.two in
    let on : OnSheet sheet s = one.on_sheet_lem in
    let ran = runs.ran in
    let ran' = runs.ran' in
    let d = done_declared one ran in
    let d' = done_declared two ran' in
    let shown = shown_on group m v on same.shown in
    let shown' = shown_on group m' v' on same.shown' in
    let before = ((views_exactly s group).same_view m m' (started one) (started two)).0
    (sym shown.words ∙ same.same ∙ shown'.words) in
    let after = shown_kept s on.form.is_formed group p one.typable authority b b' ran.rest ran'.rest
    (memory_of m) (memory_of m') ran.reached ran'.reached
    before ran.run ran'.run in
    let e = left_view group (run_of sheet script m authority b).memory v ran.reached on shown.known
    shown.room d ran.words in
    let e' = left_view group (run_of sheet script m' authority b').memory v' ran'.reached on shown.known
    shown'.room d' ran'.words in
    record {
      shown = ap (λ (z : Viewed). z.answer) e;
      shown' = ap (λ (z : Viewed). z.answer) e';
      same = ap (λ (z : Viewed). z.view) e
          ∙ (views_exactly s group).same_of_values ran.reached ran'.reached d d' after
          ∙ sym (ap (λ (z : Viewed). z.view) e');
    }

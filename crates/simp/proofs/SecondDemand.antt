-- Demand 2 of the calls on one script: each answers what the papers say.
use mathlib.Core.Logic.{◌↔◌}
use mathlib.Core.Path.{◌≡◌, refl, sym, ap, ◌∙◌, subst}
use mathlib.Core.Bool.{true}
use mathlib.Core.List.{List}
use Prim.Native.Nat.{ℕ, zero, suc, ◌+◌, ◌-◌}
use native.Mathlib.Omega.{arith}
use Rattle.language.specs.Syntax.{Script}
use Rattle.language.specs.Transition.{Out, done, spent, over, iterate}
use Rattle.language.specs.Theorems.{ends_done, ends_spent, ends_over, RunEnds}
use Rattle.language.proofs.Outcome.{outcome}
use Rattle.sheet.specs.Sheet.{Sheet, location_count}
use Rattle.sheet.specs.Meaning.{shapes_of, world_for}
use Rattle.memory.specs.Memory.{memory_of, words_of, well_formed}
use Rattle.memory.specs.View.{view_words}
use Rattle.memory.specs.Theorems.{Declared}
use Rattle.memory.proofs.Exactness.{memories_exactly}
use Rattle.stages.specs.Answers.{Ran, refused_run, Viewed, refused_view}
use Rattle.stages.specs.Calls.{on_sheet, unless, on_script, untyped, number_of, check_of, ended, run_of, view_of}
use Rattle.numbers.specs.Rows.{First}
use Rattle.numbers.specs.Calls.{AnswerBy, Demand2Of}
use Rattle.simp.specs.Judgements.{OnSheet, Principals, Sized, Started, Ends, ends_0, ends_9, ends_10}
use Rattle.simp.specs.Judgements.{check_rows, check_table, run_rows, view_rows}
use Rattle.simp.specs.Demands.{check_call, run_call, view_call}
use Rattle.simp.proofs.Numbers.{no_strangers, typable_0, typable-shape, sized_0, view-sized}
use Rattle.numbers.proofs.RowLaws.{exactly}
use Rattle.simp.proofs.Judged.{read, parsed, its, their, past_all, past_2, past_3, past_4, past_6, past_8}
use Rattle.simp.proofs.Judged.{past_view_8}

-- ---- check

pub unless_0 : (k : ℕ) → unless (λ j. j) k 0 ≡ k
unfolding unless
unless_0 zero = refl
unless_0 (suc k) = refl

checked : (sheet script : List ℕ) → AnswerBy (check_table sheet script) (check_of sheet script)
unfolding check_of number_of
checked sheet script =
    past_2 (λ k. k) (λ r. r ≡ 0) sheet _ _ λ s h.
    past_4 (λ k. k) (λ r. r ≡ 0) h _ script _ λ p i.
    subst (First (λ k. k) (λ r. r ≡ 0) _) (unless_0 (untyped s p))
    (past_6 (λ k. k) (λ r. r ≡ 0) h _ script p 0 i λ t. past_all (λ k. k) (λ r. r ≡ 0) refl)

pub check-exactly : (sheet script : List ℕ) → Demand2Of (check_call sheet script)
check-exactly sheet script =
    exactly (λ k. k) _ _ (check_of sheet script) (check_rows sheet script) (λ n z r. (λ e. sym e ∙ z, λ y. z ∙ sym y))
    (checked sheet script)

-- ---- run

-- none of 1 to 8 applies
abbrev pub Starts : List ℕ → List ℕ → List ℕ → ℕ → Type 0
Starts sheet script memory authority = (s : Sheet) × (p : Script) × Started sheet script memory authority s p

pub run-starts : (sheet script memory : List ℕ) (authority budget : ℕ)
    → First (refused_run memory) (λ _. Starts sheet script memory authority) (run_rows sheet script memory authority)
    (run_of sheet script memory authority budget)
unfolding run_of
run-starts sheet script memory authority budget =
    let R = refused_run memory in
    let E : Ran → Type 0 = λ _. Starts sheet script memory authority in
    past_2 R E sheet _ _ λ s h.
    past_3 R E h _ authority _ λ a.
    past_4 R E h _ script _ λ p i.
    past_6 R E h _ script p _ i λ t.
    past_8 R E h _ memory _ λ z w.
    past_all R E (
      s,
      p,
      record
          { on_sheet_lem = h; principals = a; of_script = i; typable = t; sized = z; well_formed_lem = w },
    )

module _ {sheet script memory : List ℕ} {authority : ℕ} {s : Sheet} {p : Script}
    (st : Started sheet script memory authority s p) where
  pub declared : Declared s (memory_of memory)
  declared = (memories_exactly s).values memory (sized_0 s memory st.sized st.well_formed_lem)

module _ {sheet script memory : List ℕ} {authority : ℕ} {s : Sheet} {p : Script}
    (st : Started sheet script memory authority s p) (budget : ℕ) where
  pub by_figures : (o : Out) → (iterate (world_for s authority p) budget (memory_of memory) p.command ≡ o)
      ↔ RunEnds (world_for s authority p) budget (memory_of memory) p.command o
  by_figures o = outcome (shapes_of s) (world_for s authority p) (λ t. refl) p.command
      (typable-shape s p st.typable) (memory_of memory)
      (declared st).typed (declared st).fitting budget o

  -- a run that starts is refused by none of 1 to 8
  pub started-run : run_of sheet script memory authority budget
      ≡ ended (location_count s) budget memory (iterate (world_for s authority p) budget (memory_of memory) p.command)
  unfolding run_of on_sheet on_script unless
  started-run =
      rw (
        read st.on_sheet_lem,
        no_strangers s authority st.principals,
        parsed script st.on_sheet_lem st.of_script,
        typable_0 s p st.typable,
        sized_0 s memory st.sized st.well_formed_lem,
      ) refl

  -- it ends as the figures have it
  so_ends : (o : Out) → RunEnds (world_for s authority p) budget (memory_of memory) p.command o
      → Ends s p memory authority budget (ended (location_count s) budget memory o)
  unfolding ended
  so_ends o (ends_done {k} {l} {M'} e t n) =
      let z : k ≡ budget - l = omega arith in
      subst (λ (j : ℕ). Ends s p memory authority budget
      (record { answer = 0; steps = j; memory = words_of (location_count s) M' })) z (ends_0 (omega arith) t n)
  so_ends o (ends_spent t h n) = ends_9 t h n
  so_ends o (ends_over {k} {l} e t h n) =
      let z : k ≡ budget - suc l = omega arith in
      subst (λ (j : ℕ). Ends s p memory authority budget (record { answer = 10; steps = j; memory = memory })) z
      (ends_10 (omega arith) t h n)

  pub run_ends : Ends s p memory authority budget (run_of sheet script memory authority budget)
  run_ends = subst (Ends s p memory authority budget) (sym started-run) (so_ends _ ((by_figures _).0 refl))

  ran : (o : Out) → RunEnds (world_for s authority p) budget (memory_of memory) p.command o
      → run_of sheet script memory authority budget ≡ ended (location_count s) budget memory o
  ran o e = started-run ∙ ap (ended (location_count s) budget memory) ((by_figures o).1 e)

  -- and in one way
  ran_so : {r : Ran} → Ends s p memory authority budget r → run_of sheet script memory authority budget ≡ r
  unfolding ended
  ran_so (ends_9 t h n) = ran spent (ends_spent t h n)
  ran_so (ends_10 {k = k} l t h n) =
      let left : ℕ = budget - suc k in
      let z : k + suc left ≡ budget = omega arith in
      let y : budget - suc left ≡ k = omega arith in
      ran (over (suc left)) (ends_over z t h n) ∙ ap (λ (j : ℕ). record { answer = 10; steps = j; memory = memory }) y
  ran_so (ends_0 {M' = M'} {k = k} l t n) =
      let z : k + (budget - k) ≡ budget = omega arith in
      let y : budget - (budget - k) ≡ k = omega arith in
      ran (done M' (budget - k)) (ends_done z t n)
      ∙ ap (λ (j : ℕ). record { answer = 0; steps = j; memory = words_of (location_count s) M' }) y

pub run-exactly : (sheet script memory : List ℕ) (authority budget : ℕ)
    → Demand2Of (run_call sheet script memory authority budget)
run-exactly sheet script memory authority budget =
    exactly (refused_run memory) _ _ (run_of sheet script memory authority budget)
    (run_rows sheet script memory authority)
    (λ n (s, p, st) r. (
      λ e. (
        s,
        st.on_sheet_lem.form,
        (p, st.of_script, subst (Ends s p memory authority budget) e (run_ends st budget)),
      ),
      λ o. ran_so st budget (their (λ z d. Ends z d memory authority budget r) st.on_sheet_lem st.of_script o),
    ))
    (run-starts sheet script memory authority budget)

-- ---- view

-- none of 1, 2, 3, 7 and 8 applies
pub record Shows (sheet memory : List ℕ) (group : ℕ) (view : List ℕ) : Type 0 where
  pub its_sheet : Sheet
  pub on_sheet_lem : OnSheet sheet its_sheet
  pub known : Principals its_sheet group
  pub sized : Sized its_sheet memory
  pub room : Sized its_sheet view
  pub well_formed_lem : well_formed its_sheet memory ≡ true

pub view_shows : (sheet memory : List ℕ) (group : ℕ) (view : List ℕ)
    → First (refused_view view) (λ _. Shows sheet memory group view) (view_rows sheet memory group view)
    (view_of sheet memory group view)
unfolding view_of
view_shows sheet memory group view =
    let R = refused_view view in
    let E : Viewed → Type 0 = λ _. Shows sheet memory group view in
    past_2 R E sheet _ _ λ s h.
    past_3 R E h _ group _ λ p.
    past_view_8 R E h _ memory view _ λ z y w.
    past_all R E (record { its_sheet = s; on_sheet_lem = h; known = p; sized = z; room = y; well_formed_lem = w })

pub shown-view : {sheet memory : List ℕ} {group : ℕ} {view : List ℕ} (h : Shows sheet memory group view)
    → view_of sheet memory group view ≡ record { answer = 0; view = view_words h.its_sheet group memory }
unfolding view_of on_sheet unless
shown-view {sheet} {memory} {group} {view} h =
    let s : Sheet = h.its_sheet in
    rw (
      read h.on_sheet_lem,
      no_strangers s group h.known,
      view-sized s memory view h.room,
      sized_0 s memory h.sized h.well_formed_lem,
    ) refl

pub view-exactly : (sheet memory : List ℕ) (group : ℕ) (view : List ℕ)
    → Demand2Of (view_call sheet memory group view)
view-exactly sheet memory group view =
    exactly (refused_view view) _ _ (view_of sheet memory group view) (view_rows sheet memory group view)
    (λ n h v. (
      λ e. (h.its_sheet, h.on_sheet_lem.form, sym e ∙ shown-view h),
      λ o. shown-view h
          ∙ sym (its (λ s. v ≡ record { answer = 0; view = view_words s group memory }) h.on_sheet_lem.form o),
    ))
    (view_shows sheet memory group view)

-- The rule of reading decides who reads and nothing else; and what the view promises, to everyone whose reading is
-- closed downward.
use mathlib.Core.Path.{◌≡◌, refl, sym, ap, ◌∙◌, subst}
use mathlib.Core.Bool.{Bool, true}
use mathlib.Core.List.{List}
use Prim.Native.Nat.{ℕ}
use Rattle.labels.specs.declared.Label.{Label}
use Rattle.labels.specs.Labels.{reads_under}
use Rattle.labels.specs.Lattice.{DownwardClosed}
use Rattle.language.specs.Syntax.{skip, Script}
use Rattle.sheet.specs.Sheet.{Sheet, ty_of, type_count, labels_of, label_no, label_count, location_no, location_count}
use Rattle.sheet.specs.Sheet.{formed}
use Rattle.sheet.specs.Sheet.{repeats}
use Rattle.sheet.specs.Meaning.{start_label}
use Rattle.sheet_text.specs.Theorems.{IsSheet}
use Rattle.sheet_text.proofs.Theorems.{one_sheet}
use Rattle.memory.specs.Memory.{memory_of, as_declared, well_formed, memory_refusal}
use Rattle.memory.specs.View.{sees_no, view_words, trusted_label_no, trusted_location_no, trusted_words}
use Rattle.memory.proofs.Exactness.{memories_exactly, masks_exactly}
use Rattle.stages.specs.Calls.{run_of}
use Rattle.scripts.specs.Parting.{script_texts}
use Rattle.simp.specs.Judgements.{Started}
use Rattle.simp.specs.ReadingRules.{OnlyReading, shown_by, StartUnread, PromisedTo, DownwardSuffices}
use Rattle.simp.proofs.SecondDemand.{declared, by_figures}
use Rattle.simp.proofs.FirstDemand.{starts, run_answers}
use Rattle.simp.proofs.ThirdDemand.{Done, started, done_run, done_declared, TwoRuns, two_runs, words_kept}
use Rattle.simp.proofs.RoundDemands.{by_zero}
use Rattle.simp.proofs.RoundRuns.{of_each, rounds_keep, round-leaves}
use Rattle.simp.proofs.Unseen.{done_steps}
use Rattle.simp.proofs.Readers.{sees_by, shows_by, kept_by, confined_by}

-- ---- the rule decides nothing else

pub only_reading : OnlyReading
unfolding labels_of label_no label_count location_no location_count ty_of type_count formed repeats trusted_words
    trusted_location_no trusted_label_no memory_refusal well_formed as_declared
only_reading = record {
  writing = λ rule s g l. refl;
  distrusting = λ rule s g ws. refl;
  sheets = λ rule s. (refl, refl);
  names = λ rule s. refl;
  typing = λ rule s p. refl;
  keeping = λ rule s p. refl;
  memories = λ rule s ws. refl;
  runs = λ rule s authority p. refl;
  starts = λ rule s p. refl;
}

-- ---- what is promised to one who reads the labels `reads`

module _ (reads : Label → Bool) (down : DownwardClosed reads) (sheet : List ℕ) where
  -- what two memories show him, on the sheet of the runs
  runs_show : (script m m' : List ℕ) (authority b b' : ℕ) (runs : TwoRuns sheet script m m' authority b b')
      → shown_by runs.its_sheet reads m ≡ shown_by runs.its_sheet reads m'
      → shown_by runs.its_sheet reads (run_of sheet script m authority b).memory
      ≡ shown_by runs.its_sheet reads (run_of sheet script m' authority b').memory
  runs_show script m m' authority b b' runs =
      let s : Sheet = runs.its_sheet in
      words_kept runs (sees_by s reads) (shows_by s reads) (λ M N M' N' l l'.
      kept_by s runs.one.on_sheet_lem.form.is_formed reads down runs.its_script
      runs.one.typable authority b b' l l' M N M' N')

  -- and what a done run leaves of a script whose starting label he doesn't read
  done_shows : {script memory left : List ℕ} {s : Sheet} {p : Script} (authority budget : ℕ)
      → StartUnread reads sheet script
      → (st : Started sheet script memory authority s p) → Done s p memory authority budget left
      → shown_by s reads left ≡ shown_by s reads memory
  done_shows {script} {memory} {left} {s} {p} authority budget unread st ran =
      let run = done_steps ((by_figures st budget _).0 ran.run) in
      let hidden = unread s p st.on_sheet_lem.form st.of_script in
      let masks = confined_by s st.on_sheet_lem.form.is_formed reads down p st.typable hidden authority run.0
      (memory_of memory) ran.reached skip run.1 in
      ap (shown_by s reads) ran.words
      ∙ (masks_exactly s (sees_by s reads) (shows_by s reads)).same_of_values ran.reached (memory_of memory)
      (done_declared st ran) (declared st) masks
      ∙ ap (shown_by s reads) ((memories_exactly s).words memory (started st))

  module _ (s : Sheet) (i : IsSheet sheet s) where
    kept : (authority b b' : ℕ) (script m m' : List ℕ) → shown_by s reads m ≡ shown_by s reads m'
        → (run_of sheet script m authority b).answer ≡ 0 → (run_of sheet script m' authority b').answer ≡ 0
        → shown_by s reads (run_of sheet script m authority b).memory
        ≡ shown_by s reads (run_of sheet script m' authority b').memory
    kept authority b b' script m m' h r r' =
        let runs = two_runs sheet script m m' authority b b' r r' in
        let same = one_sheet sheet runs.its_sheet s runs.one.on_sheet_lem.form i in
        subst (λ (z : Sheet). shown_by z reads (run_of sheet script m authority b).memory
        ≡ shown_by z reads (run_of sheet script m' authority b').memory) same
        (runs_show script m m' authority b b' runs
        (subst (λ (z : Sheet). shown_by z reads m ≡ shown_by z reads m') (sym same) h))

    unseen : (authority b : ℕ) (script m : List ℕ) → StartUnread reads sheet script
        → shown_by s reads (run_of sheet script m authority b).memory ≡ shown_by s reads m
    unseen authority b script m unread =
        by_zero (run_of sheet script m authority b).answer
        (λ r.
        let st = starts sheet script m authority b r in
        subst (λ (z : Sheet). shown_by z reads (run_of sheet script m authority b).memory ≡ shown_by z reads m)
        (one_sheet sheet st.0 s st.2.on_sheet_lem.form i)
        (done_shows authority b unread st.2 (done_run b st.2 r)))
        (λ n. ap (shown_by s reads) ((run_answers sheet script m authority b).kept n))

    promised_to : PromisedTo reads sheet s
    promised_to = record {
      kept = λ script authority b b' m m'. kept authority b b' script m m';
      round_kept = λ gate scripts authority b b' m m'.
          rounds_keep gate sheet authority b b' (λ u v. shown_by s reads u ≡ shown_by s reads v) (λ t. Unit {0})
          (λ t u v _. kept authority b b' t u v)
          scripts m m' (of_each gate (λ t. tt) 0 (script_texts scripts));
      unseen = λ script unread authority b m. unseen authority b script m unread;
      round_unseen = λ gate scripts unread authority b m.
          round-leaves (shown_by s reads) sheet authority b (StartUnread reads sheet)
          (unseen authority b) gate scripts m unread;
    }

pub downward_suffices : DownwardSuffices
unfolding view_words sees_no
downward_suffices = record {
  promised = promised_to;
  to_groups = λ s g ws. refl;
  starts_of_groups = λ sheet s i g script. (
    λ h s' p i' j r.
        h s' p i' j (subst (λ (z : Sheet). reads_under z.rule z.principals g (start_label s' p).raw ≡ true)
        (one_sheet sheet s s' i i') r),
    λ h s' p i' j r.
        h s' p i' j (subst (λ (z : Sheet). reads_under z.rule z.principals g (start_label s' p).raw ≡ true)
        (one_sheet sheet s' s i' i) r),
  );
}

-- What is alike in what is left stays so, where a group is distrusted: an instance of noninterference.
use mathlib.Core.Path.{◌≡◌, subst}
use mathlib.Core.List.{List}
use Prim.Native.Nat.{ℕ}
use Rattle.sheet.specs.Sheet.{Sheet}
use Rattle.sheet_text.proofs.Theorems.{one_sheet}
use Rattle.memory.specs.View.{trusted_label_no, trusted_location_no, trusted_words}
use Rattle.stages.specs.Calls.{run_of}
use Rattle.simp.specs.Trust.{TrustKeeping}
use Rattle.simp.specs.TrustKept.{SameTrusted, SaidKeeping, TrustKept}
use Rattle.simp.proofs.Judged.{their}
use Rattle.simp.proofs.ThirdDemand.{TwoRuns, two_runs, words_kept}
use Rattle.simp.proofs.Trusters.{left_kept}
use Rattle.simp.proofs.TrustDemands.{said_so}
use Rattle.simp.proofs.RoundRuns.{rounds_keep}

module _ (sheet : List ℕ) (authority budget budget' group : ℕ) where
  -- on the sheet of the runs
  runs_alike : (script m m' : List ℕ) (runs : TwoRuns sheet script m m' authority budget budget')
      → TrustKeeping runs.its_sheet runs.its_script
      → trusted_words runs.its_sheet group m ≡ trusted_words runs.its_sheet group m'
      → trusted_words runs.its_sheet group (run_of sheet script m authority budget).memory
      ≡ trusted_words runs.its_sheet group (run_of sheet script m' authority budget').memory
  unfolding trusted_words
  runs_alike script m m' runs k =
      let s : Sheet = runs.its_sheet in
      words_kept runs (trusted_location_no s group) (trusted_label_no s group) (λ M N M' N' l l'.
      left_kept s runs.one.on_sheet_lem.form.is_formed group runs.its_script
      runs.one.typable k authority budget budget' l l' M N M' N')

  run_kept : (script m m' : List ℕ) → SaidKeeping sheet script → SameTrusted sheet group m m'
      → (run_of sheet script m authority budget).answer ≡ 0 → (run_of sheet script m' authority budget').answer ≡ 0
      → SameTrusted sheet group (run_of sheet script m authority budget).memory
      (run_of sheet script m' authority budget').memory
  run_kept script m m' said h r r' s i =
      let runs = two_runs sheet script m m' authority budget budget' r r' in
      let on = runs.one.on_sheet_lem in
      let k = their TrustKeeping on runs.one.of_script (said_so sheet script said) in
      subst (λ (z : Sheet). trusted_words z group (run_of sheet script m authority budget).memory
      ≡ trusted_words z group (run_of sheet script m' authority budget').memory)
      (one_sheet sheet runs.its_sheet s on.form i)
      (runs_alike script m m' runs k (h runs.its_sheet on.form))

pub trust_kept : TrustKept
trust_kept = record {
  run = λ sheet script said authority budget budget' group memory memory'.
      run_kept sheet authority budget budget' group script memory memory' said;
  round = λ gate sheet scripts said authority budget budget' group memory memory'.
      rounds_keep gate sheet authority budget budget' (SameTrusted sheet group) (SaidKeeping sheet)
      (run_kept sheet authority budget budget' group) scripts memory memory' said;
}

-- What a group is shown after a round follows from what it is shown before: each script is an instance of demand 3.
use mathlib.Core.Path.{◌≡◌, refl}
use mathlib.Core.List.{List}
use Prim.Native.Nat.{ℕ}
use Rattle.stages.specs.Calls.{on_sheet, on_script, number_of, check_of, run_of}
use Rattle.scripts.specs.Parting.{script_texts}
use Rattle.simp.specs.Demands.{SameView}
use Rattle.simp.specs.RoundView.{RoundView}
use Rattle.simp.proofs.Numbers.{typable_0}
use Rattle.simp.proofs.Judged.{read, parsed}
use Rattle.simp.proofs.FirstDemand.{starts}
use Rattle.simp.proofs.ThirdDemand.{demand_3}
use Rattle.simp.proofs.RoundRuns.{of_each, rounds_keep}

-- the script of a run that is done is accepted
done_accepted : (sheet script memory : List ℕ) (authority budget : ℕ)
    → (run_of sheet script memory authority budget).answer ≡ 0 → check_of sheet script ≡ 0
unfolding check_of number_of on_sheet on_script
done_accepted sheet script memory authority budget h =
    let st = starts sheet script memory authority budget h in
    rw (
      read st.2.on_sheet_lem,
      parsed script st.2.on_sheet_lem st.2.of_script,
      typable_0 st.0 st.1 st.2.typable,
    ) refl

pub round_view : RoundView
round_view gate sheet scripts authority budget budget' group memory memory' view view' =
    rounds_keep gate sheet authority budget budget' (λ m m'. SameView sheet group m m' view view') (λ t. Unit {0})
    (λ t m m' _ h z z'.
    demand_3 sheet t (done_accepted sheet t m authority budget z) authority budget budget' group m m' view view' h z z')
    scripts memory memory' (of_each gate (λ t. tt) 0 (script_texts scripts))

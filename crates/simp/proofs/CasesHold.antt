-- The cases hold, a table at a time, by computing; the one that is spent for every budget by induction over it.
use mathlib.Core.Path.{◌≡◌, refl, ap}
use Prim.Native.Nat.{ℕ, zero, suc}
use Rattle.language.specs.Syntax.{int, val, left, Cmd, skip, seq, while, size}
use Rattle.language.specs.World.{World, Mem}
use Rattle.language.specs.Evaluation.{bind, fit, fit_if, eval}
use Rattle.language.specs.Transition.{spent, done, run, iterate, step, after, branch, branch_v, at_seq}
use Rattle.stages.specs.Calls.{ended}
use Rattle.simp.specs.CaseKinds.{Holds, spends, Each, sheet, nested, parted, times, trusted_on, two_policies}
use Rattle.simp.specs.CaseKinds.{readers_only, two_starts, filled_rows, four_locations, before}
use Rattle.simp.specs.ScopeCases.{starred_cases, after_pack, after_unpack, long_value_cases}
use Rattle.simp.specs.RoundCases.{round_cases, before_with}
use Rattle.simp.specs.GroupCases.{group_cases, two_labels}
use Rattle.simp.specs.StartCases.{start_cases, after_start}
use Rattle.simp.specs.TrustCases.{trust_cases, two_packages, packages, packages_trusted}
use Rattle.simp.specs.PairCases.{pair_cases, pair_types, long_pairs, deep_pair, most_types, too_many_types, pairs}
use Rattle.simp.specs.PairCases.{first_of, pair_of, pairs_with, leaf_of, long_with}
use Rattle.simp.specs.ReaderCases.{reader_cases, together, by_himself, last_reader, each_his_own, below_together}
use Rattle.simp.specs.ReaderCases.{below_by_himself, with_package, package_shown}
use Rattle.simp.specs.Cases.{CasesHold}
use Rattle.simp.proofs.Computing.{calls_used, rounds_used, groups_used}

-- `w`, `l 3`, `i 1`, `s`
abbrev endless : Cmd
endless = while (left 3 (val (int 1))) skip

module _ (W : World) (M : Mem) where
  -- from the loop, and from the loop once its body is done
  turns : (b : ℕ) → (run b W done M endless ≡ spent) × (run b W done M (seq skip endless) ≡ spent)
  unfolding run step after branch branch_v at_seq eval bind fit fit_if size
  turns zero = (refl, refl)
  turns (suc b) = ((turns b).1, (turns b).0)

  endless-spent : (b : ℕ) → iterate W b M endless ≡ spent
  unfolding iterate
  endless-spent b = (turns b).0

spent_always : Holds (spends "w\nl 3\ni 1\ns\n" before 0b000)
unfolding Holds sheet filled_rows four_locations before calls_used
spent_always budget = ap (ended 4 budget before) (endless-spent _ _ budget)

-- a case, and the cases after it
infixr 4 ◌&◌
abbrev ◌&◌ : {A B : Type 0} → A → B → A × B
a & b = (a, b)

starred_hold : Each starred_cases
unfolding Each Holds starred_cases sheet two_policies readers_only filled_rows four_locations before after_pack
    after_unpack
    calls_used
starred_hold =
    refl & refl & refl & refl & refl & refl & refl & refl & refl & refl & refl & refl & refl & refl & refl
    & spent_always & tt

long_values_hold : Each long_value_cases
unfolding Each Holds long_value_cases nested calls_used
long_values_hold = refl & refl & tt

rounds_hold : Each round_cases
unfolding Each Holds round_cases sheet nested parted filled_rows four_locations before before_with calls_used
    rounds_used
rounds_hold = refl & refl & refl & refl & refl & refl & refl & tt

smallest-groups_hold : Each group_cases
unfolding Each Holds group_cases two_labels calls_used groups_used
smallest-groups_hold = refl & refl & refl & refl & refl & refl & tt

starting_labels_hold : Each start_cases
unfolding Each Holds start_cases sheet times two_starts filled_rows four_locations before after_start calls_used
starting_labels_hold =
    refl & refl & refl & refl & refl & refl & refl & refl & refl & refl & refl & refl & refl & refl & refl & refl
    & refl & refl & refl & refl & refl & refl & refl & refl & refl & tt

trust-keeping_hold : Each trust_cases
unfolding Each Holds trust_cases trusted_on sheet two_starts filled_rows four_locations before two_packages packages
    packages_trusted calls_used
trust-keeping_hold =
    refl & refl & refl & refl & refl & refl & refl & refl & refl & refl & refl & refl & refl & refl & refl & refl
    & refl & refl & refl & refl & refl & refl & refl & refl & refl & refl & refl & refl & (refl, refl, refl)
    & (refl, refl, refl) & (refl, refl, refl) & (refl, refl, refl) & (refl, refl, refl) & (refl, refl, refl)
    & (refl, refl, refl) & (refl, refl, refl) & (refl, refl, refl) & (refl, refl, refl) & (refl, refl, refl)
    & (refl, refl, refl) & tt

pairs_hold : Each pair_cases
unfolding Each Holds pair_cases parted trusted_on filled_rows pair_types long_pairs deep_pair most_types too_many_types
    pairs
    first_of pair_of pairs_with leaf_of long_with calls_used rounds_used
pairs_hold =
    refl & refl & refl & refl & refl & refl & refl & refl & refl & refl & refl & refl & refl & refl & refl & refl
    & refl & refl & refl & refl & refl & refl & refl & refl & refl & refl & refl & refl & refl & refl & refl & refl
    & refl & refl & refl & refl & refl & refl & refl & refl & refl & refl & refl & refl & refl & refl & refl & refl
    & refl & refl & refl & refl & refl & refl & refl & refl & refl & refl & refl & refl & refl & refl & refl & refl
    & refl & refl & refl & refl & (refl, refl, refl) & tt

one_reader_hold : Each reader_cases
unfolding Each Holds reader_cases trusted_on two_policies readers_only filled_rows together by_himself last_reader
    each_his_own
    below_together below_by_himself with_package package_shown calls_used groups_used
one_reader_hold =
    refl & refl & refl & refl & refl & refl & refl & refl & refl & refl & refl & refl & refl & refl & refl & refl
    & refl & refl & refl & refl & refl & refl & refl & refl & refl & refl & refl & refl & refl & refl & refl & refl
    & refl & refl & refl & refl & refl & refl & refl & refl & (refl, refl, refl) & (refl, refl, refl) & refl & refl
    & refl & refl & refl & refl & refl & tt

pub cases_hold : CasesHold
cases_hold = record {
  starred = starred_hold;
  long_values = long_values_hold;
  rounds = rounds_hold;
  smallest_groups = smallest-groups_hold;
  starting_labels = starting_labels_hold;
  trust_keeping_lem = trust-keeping_hold;
  pairs = pairs_hold;
  one_reader = one_reader_hold;
}

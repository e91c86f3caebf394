-- Every case of every table holds. The tables stand by subject: the scope's starred cases first, then its two of long
-- values, then a table for each request that brought cases. `cases_hold` in proofs/CasesHold.antt shows them, a table
-- at a time.
use Rattle.simp.specs.CaseKinds.{Each}
use Rattle.simp.specs.ScopeCases.{starred_cases, long_value_cases}
use Rattle.simp.specs.RoundCases.{round_cases}
use Rattle.simp.specs.GroupCases.{group_cases}
use Rattle.simp.specs.StartCases.{start_cases}
use Rattle.simp.specs.TrustCases.{trust_cases}
use Rattle.simp.specs.PairCases.{pair_cases}
use Rattle.simp.specs.ReaderCases.{reader_cases}

pub record CasesHold : Type 0 where
  pub starred : Each starred_cases
  pub long_values : Each long_value_cases
  -- request (a)
  pub rounds : Each round_cases
  -- request (b)
  pub smallest_groups : Each group_cases
  -- request (d)
  pub starting_labels : Each start_cases
  -- request (e)
  pub trust_keeping_lem : Each trust_cases
  -- request (f)
  pub pairs : Each pair_cases
  -- request (g)
  pub one_reader : Each reader_cases

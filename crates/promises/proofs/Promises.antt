-- Every promise, filled by its proof.
use Rattle.promises.specs.Promises.{Promises}
use Rattle.sets.proofs.MeaningLaws.{masks_are_sets}
use Rattle.labels.proofs.LatticeLaws.{security_lattices, non_trivial, one_label}
use Rattle.labels.proofs.ReadingLaws.{empty_groups, closed_below, reading_downward, reads_below, two_rules}
use Rattle.labels.proofs.PolicyLaws.{policies_effective}
use Rattle.language.proofs.Theorems.{theorems}
use Rattle.language.proofs.Exactness.{least_labels}
use Rattle.language.proofs.Trust.{stricter_flow, trust_derivable}
use Rattle.sheet.proofs.MeaningLaws.{least_label_laws, same_labels_on_sheets, numbers_agree_on_sheets}
use Rattle.sheet.proofs.ReaderLaws.{reading_on_sheets}
use Rattle.text.proofs.Decimals.{number_exact}
use Rattle.text.proofs.Sets.{set_exact}
use Rattle.text.proofs.Fields.{number_field_exact, set_field_exact, line_end_exact, last_number_exact}
use Rattle.text.proofs.Lines.{lines_exact, all_lines_exact}
use Rattle.sheet_text.proofs.Theorems.{accepted_exact, repeating_exact, malformed_exact, one_sheet}
use Rattle.script_text.proofs.ScriptLaws.{script_exact}
use Rattle.memory.proofs.Exactness.{words_exactly, cell_exactly, memories_exactly, views_exactly, masks_exactly}
use Rattle.memory_text.proofs.Memories.{memory_exact}
use Rattle.checker.proofs.Verdicts.{checker_exact}
use Rattle.numbers.proofs.RowLaws.{every_table}
use Rattle.simp.proofs.EveryCall.{demand_1, demand_2}
use Rattle.simp.proofs.ThirdDemand.{demand_3}
use Rattle.simp.proofs.RoundViews.{round_view}
use Rattle.simp.proofs.GroupDemands.{smallest_groups}
use Rattle.simp.proofs.Unseen.{start_unseen}
use Rattle.simp.proofs.TrustKept.{trust_kept}
use Rattle.simp.proofs.ReadingRules.{only_reading, downward_suffices}
use Rattle.simp.proofs.CasesHold.{cases_hold}
use Rattle.scripts.proofs.Joined.{parting_exact}
use Rattle.groups.proofs.ListLaws.{groups_exact, readers_hold_one}
use Rattle.groups.proofs.RuleLaws.{reading_grows}
use Rattle.groups.proofs.SingleLaws.{single_readers}
use Rattle.parts.proofs.Apart.{joined_apart, missing_empty}
use Rattle.parts.proofs.Steps.{chunks}
use Rattle.parts.proofs.Keeping.{holds_texts}
use Rattle.desk.proofs.Exact.{group_exact}
use Rattle.desk.proofs.Orders.{same_order, show_in_order}
use Rattle.desk.proofs.Kept.{kept_enough, shows_input}

pub promises : Promises
promises = record {
  demand_1 = demand_1;
  demand_2 = demand_2;
  demand_3 = demand_3;
  round_view = round_view;
  smallest_groups = smallest_groups;
  start_unseen = start_unseen;
  trust_kept = trust_kept;
  only_reading = only_reading;
  downward_suffices = downward_suffices;
  cases_hold = cases_hold;
  every_table = every_table;
  theorems = theorems;
  least_labels = least_labels;
  stricter_flow = stricter_flow;
  trust_derivable = trust_derivable;
  checker_exact = checker_exact;
  masks_are_sets = masks_are_sets;
  security_lattices = security_lattices;
  non_trivial = non_trivial;
  one_label = one_label;
  empty_groups = empty_groups;
  closed_below = closed_below;
  reading_downward = reading_downward;
  reads_below = reads_below;
  two_rules = two_rules;
  policies_effective = policies_effective;
  groups_exact = groups_exact;
  readers_hold_one = readers_hold_one;
  reading_grows = reading_grows;
  single_readers = single_readers;
  least_label_laws = least_label_laws;
  same_labels_on_sheets = same_labels_on_sheets;
  numbers_agree_on_sheets = numbers_agree_on_sheets;
  reading_on_sheets = reading_on_sheets;
  number_exact = number_exact;
  set_exact = set_exact;
  number_field_exact = number_field_exact;
  set_field_exact = set_field_exact;
  line_end_exact = line_end_exact;
  last_number_exact = last_number_exact;
  lines_exact = lines_exact;
  all_lines_exact = all_lines_exact;
  accepted_exact = accepted_exact;
  repeating_exact = repeating_exact;
  malformed_exact = malformed_exact;
  one_sheet = one_sheet;
  script_exact = script_exact;
  parting_exact = parting_exact;
  memory_exact = memory_exact;
  words_exactly = words_exactly;
  cell_exactly = cell_exactly;
  memories_exactly = memories_exactly;
  views_exactly = views_exactly;
  masks_exactly = masks_exactly;
  joined_apart = joined_apart;
  missing_empty = missing_empty;
  chunks = chunks;
  holds_texts = holds_texts;
  group_exact = group_exact;
  same_order = same_order;
  show_in_order = show_in_order;
  kept_enough = kept_enough;
  shows_input = shows_input;
}

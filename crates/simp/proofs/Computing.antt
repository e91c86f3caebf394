-- The definitions that the cases compute with, by crate: to unfold `text_used` is to unfold all that its line names.
use Rattle.text.specs.Field as field
use Rattle.text.specs.Lines as text-lines
use Rattle.text.specs.Number as number
use Rattle.text.specs.Reading as reading
use Rattle.text.specs.Set as hex
use Rattle.logic.specs.Booleans as logic
use Rattle.sets.specs.Sets as sets
use Rattle.labels.specs.Labels as labels
use Rattle.language.specs.Evaluation as evaluation
use Rattle.language.specs.World as world
use Rattle.language.specs.Syntax as syntax
use Rattle.language.specs.Transition as transition
use Rattle.language.specs.Substitution as substitution
use Rattle.language.specs.Typing as typing
use Rattle.language.specs.Trust as trust
use Rattle.language.specs.View as masks
use Rattle.language.specs.Declarations as declarations
use Rattle.script.specs.Lines as lines
use Rattle.script.specs.Names as names
use Rattle.sheet.specs.Meaning as meaning
use Rattle.sheet.specs.Sheet as sheet
use Rattle.sheet.specs.Padding as padding
use Rattle.sheet.specs.Internal.Growth as growth
use Rattle.sheet_text.specs.Internal.Building as building
use Rattle.sheet_text.specs.Reading as sheet-lines
use Rattle.sheet_text.specs.Sheets as sheets
use Rattle.script_text.specs.Internal.Parse as parse
use Rattle.script_text.specs.Reading as script_lines
use Rattle.script_text.specs.Script as script
use Rattle.memory.specs.Memory as memory
use Rattle.memory.specs.Words as words
use Rattle.memory.specs.View as view
use Rattle.stages.specs.Calls as calls
use Rattle.scripts.specs.Parting as parting
use Rattle.rounds.specs.Answers as round-answers
use Rattle.rounds.specs.Calls as round-calls
use Rattle.groups.specs.Listing as listing
use Rattle.groups.specs.Calls as group-calls
use Rattle.simp.specs.Texts as texts

unfoldable pub text_used : Unit {0}
unfolding field.number_field field.set_field field.last_number
    number.digit number.opens_digit number.digits number.number
    reading.and_then reading.byte reading.fits
    text-lines.front text-lines.onward text-lines.lines_up_to text-lines.all_lines
    hex.hex_digit hex.hex_digits hex.hex_byte
text_used = tt

unfoldable pub logic_used : Unit {0}
unfolding logic.both logic.either
logic_used = tt

unfoldable pub sets_used : Unit {0}
unfolding sets.member sets.union sets.intersection sets.within sets.meets sets.single sets.everyone
    sets.restrict sets.every
    sets.any sets.tab
sets_used = tt

unfoldable pub labels_used : Unit {0}
unfolding labels.own labels.open_at labels.open_of labels.policy_of labels.with_policies labels.label_of
    labels.policy_on
    labels.policies_on labels.below_at
    labels.below_of labels.same_at labels.same_of labels.join_of labels.confidentiality_of labels.integrity_of
    labels.bottom_of labels.closed_at
    labels.top_of labels.reads_pooled_of labels.writes_of labels.reads_alone_of labels.reads_under labels.whole_of
    labels.effective
labels_used = tt

unfoldable pub language_used : Unit {0}
unfolding evaluation.bind evaluation.fit_if evaluation.fit evaluation.add_to evaluation.add evaluation.packed
    evaluation.opened world.wanted
    evaluation.unpacked evaluation.part_of evaluation.lookup evaluation.eval
    syntax.pick syntax.size syntax.has
    substitution.lift substitution.close_var substitution.close_e substitution.close substitution.inst
    substitution.update transition.at_seq
    transition.at_assign transition.branch_v transition.branch transition.step transition.after transition.run
    transition.iterate
    declarations.start_of declarations.nth typing.or_else typing.is_yes typing.same_ty typing.is_ty typing.has_ty
    typing.left_is typing.right_is typing.on_sum typing.pair_is typing.part_ty typing.given
    typing.type_of_value typing.type_of typing.shape typing.least typing.flow_e typing.flow typing.refusal
    trust.keeps_e trust.keeps trust.trust_keeping masks.mask masks.seen
language_used = tt

unfoldable pub script_used : Unit {0}
unfolding lines.integer_of lines.expr_lines lines.cmd_lines lines.start_lines
    names.named_e names.named names.named_start
script_used = tt

unfoldable pub sheet_used : Unit {0}
unfolding meaning.effective_if meaning.effectively
    sheet.given_types sheet.types_from sheet.ty_of sheet.type_count sheet.labels_of sheet.label_no sheet.label_count
    sheet.location_no sheet.location_count sheet.earlier_types sheet.rising sheet.each_rising sheet.each_named
    sheet.formed
    sheet.among sheet.repeated
    sheet.same_kind sheet.same_compound sheet.compound_of sheet.repeats
    padding.padded
    growth.bare_sheet growth.add_rule growth.add_compound growth.add_label growth.to_last growth.add_policy
    growth.add_location
sheet_used = tt

unfoldable pub sheet_text_used : Unit {0}
unfolding building.last_of building.least_after
    building.least_owner building.is_pooled building.rule_fits building.compound_fits building.label_fits
    building.policy_fits building.location_fits building.begin building.add_type
    building.add_line
    building.add_line_on building.add_lines building.build
    sheet-lines.number_rest sheet-lines.numbers_rest sheet-lines.label_rest sheet-lines.policy_rest sheet-lines.line_of
    sheets.build_read sheets.sheet_read sheets.judged sheets.sheet_of
sheet_text_used = tt

unfoldable pub script_text_used : Unit {0}
unfolding parse.pop_e parse.pop_c parse.on_stack parse.push_on parse.stack_of parse.only_command parse.parse
    script_lines.form_of script_lines.operands_of script_lines.line_of script_lines.start_read script_lines.opening_of
    script_lines.written_with
    script_lines.lines_after script_lines.written_of
    script.named_only script.command_of script.script_with script.script_read script.script_of
script_text_used = tt

unfoldable pub memory_used : Unit {0}
unfolding memory.cell_of memory.memory_of memory.cells memory.words_of memory.proper_head memory.proper
    memory.equal_words
    memory.exactly memory.formed_by memory.slice_refusal
    memory.refusal_by memory.as_declared memory.well_formed memory.memory_refusal
    words.head_words words.enc words.cell words.wrap words.numbered words.head_at words.packaged words.paired
    words.tagged
    words.read words.read_of
    view.view_cell view.view_by view.sees_no view.view_words view.view_refusal view.trusted_label_no
    view.trusted_location_no
    view.trusted_words
memory_used = tt

unfoldable pub simp_used : Unit {0}
unfolding calls.on_sheet calls.unless calls.strangers calls.on_script calls.untyped calls.number_of calls.check_of
    calls.ended calls.run_of calls.view_of calls.keeping_bit
    calls.trust_on calls.trust_of
    texts.bytes
simp_used = tt

-- what a check, a run, a view and an answer of simp_trust compute with
unfoldable pub calls_used : Unit {0}
unfolding logic_used text_used sets_used labels_used language_used script_used sheet_used sheet_text_used
    script_text_used memory_used simp_used
calls_used = tt

unfoldable pub rounds_used : Unit {0}
unfolding parting.to_first parting.script_texts_from parting.script_texts
    round-answers.memory_after round-answers.all_open
    round-calls.too_many round-calls.lower round-calls.lowest round-calls.run_each round-calls.turn_of
    round-calls.played_of
    round-calls.round_by
rounds_used = tt

unfoldable pub groups_used : Unit {0}
unfolding listing.is_smallest listing.smallest_from listing.smallest_of
    group-calls.groups_for group-calls.groups_refusal group-calls.groups_on group-calls.groups_of
groups_used = tt

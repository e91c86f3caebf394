-- The sheet of the scope's cases, as its text is read; and texts that are refused.
use mathlib.Core.Path.{◌≡◌, refl}
use mathlib.Core.Bool.{true}
use mathlib.Core.List.{List, [], ◌∷◌, map}
use Prim.Native.Nat.{ℕ}
use lib.ListN.{replicate}
use Rattle.logic.specs.Booleans.{both, either}
use Rattle.sets.specs.Sets.{union, every, tab, single, everyone}
use Rattle.text.specs.Reading.{and_then, byte, fits}
use Rattle.text.specs.Number.{digit, opens_digit, digits, number, decimal_on, decimal}
use Rattle.text.specs.Set.{hex_digit, hex_digits, hex_byte, hex_form}
use Rattle.text.specs.Field.{number_field, set_field, last_number}
use Rattle.text.specs.Lines.{front, onward, lines_up_to, all_lines, print_lines}
use Rattle.labels.specs.Labels.{policy, open_at, open_of, policy_of, with_policies, label_of, same_at, same_of}
use Rattle.labels.specs.declared.Rule.TheVariants.{Pooled}
use Rattle.sheet.specs.Internal.Tables.{given_parts, type_parts}
use Rattle.sheet.specs.declared.Kind.TheVariants.{Sum}
use Rattle.sheet.specs.Sheet.{Sheet, type_count, labels_of, label_count, location_count, earlier_types, rising}
use Rattle.sheet.specs.Sheet.{each_rising}
use Rattle.sheet.specs.Sheet.{each_named, formed, among, repeated, same_kind, same_compound, repeats}
use Rattle.sheet_text.specs.Lines.{rule_lines, type_line, compound_line, policy_line, location_line, each}
use Rattle.sheet_text.specs.Lines.{label_lines, lines_then, sheet_lines, line_bytes, sheet_bytes}
use Rattle.sheet_text.specs.Reading.{number_rest, numbers_rest, label_rest, policy_rest, line_of}
use Rattle.sheet.specs.Internal.Growth.{bare_sheet, add_rule, add_compound, add_label, to_last, add_policy}
use Rattle.sheet.specs.Internal.Growth.{add_location}
use Rattle.sheet_text.specs.Internal.Building.{last_of, least_after, least_owner, is_pooled, rule_fits}
use Rattle.sheet_text.specs.Internal.Building.{compound_fits, label_fits, policy_fits, location_fits, begin, add_type}
use Rattle.sheet_text.specs.Internal.Building.{add_line, add_line_on, add_lines, build}
use Rattle.sheet_text.specs.Sheets.{build_read, sheet_read, ParsedSheet, malformed, repeating, accepted, judged}
use Rattle.sheet_text.specs.Sheets.{sheet_of}

case_sheet : Sheet
case_sheet =
    record {
      principals = 3;
      rule = Pooled;
      compounds = record { kind = Sum; left = 0; right = 1 } ∷ [];
      labels = [] ∷ (policy 0 0 0 ∷ []) ∷ (policy 0 0 7 ∷ []) ∷ [];
      locations =
          record { type = 0; label = 0 } ∷ record { type = 0; label = 2 } ∷ record { type = 4; label = 0 }
          ∷ record { type = 5; label = 2 } ∷ [];
    }

case_text : List ℕ
case_text =
    80 ∷ 9 ∷ 51 ∷ 10 ∷ 84 ∷ 9 ∷ 48 ∷ 9 ∷ 49 ∷ 10 ∷ 76 ∷ 10 ∷ 76 ∷ 10
    ∷ 79 ∷ 9 ∷ 48 ∷ 9 ∷ 48 ∷ 48 ∷ 48 ∷ 48 ∷ 9 ∷ 48 ∷ 48 ∷ 48 ∷ 48 ∷ 10 ∷ 76 ∷ 10
    ∷ 79 ∷ 9 ∷ 48 ∷ 9 ∷ 48 ∷ 48 ∷ 48 ∷ 48 ∷ 9 ∷ 48 ∷ 48 ∷ 48 ∷ 55 ∷ 10
    ∷ 88 ∷ 9 ∷ 48 ∷ 9 ∷ 48 ∷ 10 ∷ 88 ∷ 9 ∷ 48 ∷ 9 ∷ 50 ∷ 10 ∷ 88 ∷ 9 ∷ 52 ∷ 9 ∷ 48 ∷ 10 ∷ 88 ∷ 9 ∷ 53 ∷ 9 ∷ 50 ∷ 10 ∷ []

-- texts and what they are parsed to: the sheet; no text; a last line without its end; a type again; a label again, once
-- as everybody listed; an owner again; a label that isn't there; `T` after `L`; 0 principals; 17; a needless zero; a
-- tab more; byte 13 before byte 10; a byte above 127; a type that comes later; a set with a principal that isn't there;
-- a set in capitals; 4294967296 for a type
texts : List (List ℕ)
texts =
    case_text
    ∷ []
    ∷ (80 ∷ 9 ∷ 51 ∷ [])
    ∷ (80 ∷ 9 ∷ 51 ∷ 10 ∷ 84 ∷ 9 ∷ 48 ∷ 9 ∷ 48 ∷ 10 ∷ [])
    ∷ (80 ∷ 9 ∷ 49 ∷ 10 ∷ 76 ∷ 10 ∷ 76 ∷ 10 ∷ 79 ∷ 9 ∷ 48 ∷ 9 ∷ 48 ∷ 48 ∷ 48 ∷ 49 ∷ 9 ∷ 48 ∷ 48 ∷ 48 ∷ 49 ∷ 10 ∷ [])
    ∷ (80 ∷ 9 ∷ 50 ∷ 10 ∷ 76 ∷ 10 ∷ 79 ∷ 9 ∷ 48 ∷ 9 ∷ 48 ∷ 48 ∷ 48 ∷ 49 ∷ 9 ∷ 48 ∷ 48 ∷ 48 ∷ 49 ∷ 10
    ∷ 79 ∷ 9 ∷ 48 ∷ 9 ∷ 48 ∷ 48 ∷ 48 ∷ 49 ∷ 9 ∷ 48 ∷ 48 ∷ 48 ∷ 49 ∷ 10 ∷ [])
    ∷ (80 ∷ 9 ∷ 50 ∷ 10 ∷ 88 ∷ 9 ∷ 48 ∷ 9 ∷ 48 ∷ 10 ∷ [])
    ∷ (80 ∷ 9 ∷ 50 ∷ 10 ∷ 76 ∷ 10 ∷ 84 ∷ 9 ∷ 48 ∷ 9 ∷ 49 ∷ 10 ∷ [])
    ∷ (80 ∷ 9 ∷ 48 ∷ 10 ∷ [])
    ∷ (80 ∷ 9 ∷ 49 ∷ 55 ∷ 10 ∷ [])
    ∷ (80 ∷ 9 ∷ 48 ∷ 50 ∷ 10 ∷ [])
    ∷ (80 ∷ 9 ∷ 9 ∷ 50 ∷ 10 ∷ [])
    ∷ (80 ∷ 9 ∷ 50 ∷ 13 ∷ 10 ∷ [])
    ∷ (80 ∷ 9 ∷ 50 ∷ 10 ∷ 204 ∷ 10 ∷ [])
    ∷ (80 ∷ 9 ∷ 50 ∷ 10 ∷ 84 ∷ 9 ∷ 48 ∷ 9 ∷ 53 ∷ 10 ∷ [])
    ∷ (80 ∷ 9 ∷ 50 ∷ 10 ∷ 76 ∷ 10 ∷ 79 ∷ 9 ∷ 48 ∷ 9 ∷ 48 ∷ 48 ∷ 48 ∷ 52 ∷ 9 ∷ 48 ∷ 48 ∷ 48 ∷ 49 ∷ 10 ∷ [])
    ∷ (80 ∷ 9 ∷ 49 ∷ 54 ∷ 10 ∷ 76 ∷ 10 ∷ 79 ∷ 9 ∷ 48 ∷ 9 ∷ 48 ∷ 48 ∷ 48 ∷ 65 ∷ 9 ∷ 48 ∷ 48 ∷ 48 ∷ 49 ∷ 10 ∷ [])
    ∷ (80 ∷ 9 ∷ 50 ∷ 10 ∷ 84 ∷ 9 ∷ 48 ∷ 9 ∷ 52 ∷ 50 ∷ 57 ∷ 52 ∷ 57 ∷ 54 ∷ 55 ∷ 50 ∷ 57 ∷ 54 ∷ 10 ∷ [])
    ∷ []

parsed_texts : List ParsedSheet
parsed_texts = accepted case_sheet ∷ malformed ∷ malformed ∷ repeating ∷ repeating ∷ replicate 13 malformed

case_printed : sheet_bytes case_sheet ≡ case_text
unfolding case_sheet case_text sheet_bytes print_lines line_bytes sheet_lines lines_then rule_lines each label_lines
    type_line
    compound_line policy_line location_line decimal decimal_on hex_form hex_byte
case_printed = refl

texts_read : map sheet_of texts ≡ parsed_texts
unfolding case_sheet case_text texts parsed_texts sheet_of judged sheet_read build_read build add_lines add_line_on
    add_line
    add_type
    begin is_pooled rule_fits compound_fits label_fits policy_fits location_fits least_owner least_after last_of
    bare_sheet
    add_rule add_compound add_label add_policy to_last add_location all_lines lines_up_to onward front line_of
    number_rest
    numbers_rest label_rest policy_rest and_then byte fits digit opens_digit
    digits number hex_digit hex_digits number_field set_field last_number both either union every tab single everyone
    open_at
    open_of policy_of with_policies label_of same_at same_of
    given_parts type_parts type_count labels_of label_count location_count among repeated same_kind same_compound
    repeats
texts_read = refl

case_formed : formed case_sheet ≡ true
unfolding case_sheet formed both earlier_types rising each_rising each_named type_count type_parts given_parts
    label_count
case_formed = refl

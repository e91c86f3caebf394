-- Scripts that are read and texts that are refused, by computing.
use mathlib.Core.Path.{◌≡◌, refl}
use mathlib.Core.Bool.{true, false}
use mathlib.Core.List.{List, [], ◌∷◌}
use mathlib.Core.Option.{none, some}
use Prim.Native.Nat.{ℕ, zero, suc}
use Rattle.text.specs.Reading.{and_then, byte, fits}
use Rattle.text.specs.Number.{digit, digits, opens_digit, number, decimal, decimal_on}
use Rattle.text.specs.Field.{number_field, last_number}
use Rattle.text.specs.Lines.{front, onward, lines_up_to, print_lines}
use Rattle.logic.specs.Booleans.{both}
use Rattle.language.specs.Syntax.{first, second, pick, loc, var, unpack, pairing, proj, Cmd, skip, assign, case, Script}
use Rattle.script.specs.Lines.{cmd_lines, expr_lines, start_lines}
use Rattle.script.specs.Names.{Counts, named, named_e, named_start}
use Rattle.script_text.specs.Bytes.{line_bytes, start_bytes, script_bytes}
use Rattle.script_text.specs.Reading.{form_of, operands_of, line_of, start_read, opening_of, written_with, lines_after}
use Rattle.script_text.specs.Reading.{written_of}
use Rattle.script_text.specs.Internal.Parse.{pop_e, pop_c, on_stack, push_on, stack_of, only_command, parse}
use Rattle.script_text.specs.Script.{named_only, command_of, script_with, script_read, script_of}

-- what reading a script computes with: to unfold it is to unfold all that its line names
unfoldable reading_used : Unit {0}
unfolding and_then byte fits digit digits opens_digit number both named named_e named_start start_lines number_field
    last_number form_of operands_of line_of front onward
    lines_up_to start_read opening_of written_with lines_after written_of pop_e pop_c on_stack push_on stack_of
    only_command parse
    named_only command_of script_with script_read
    script_of
reading_used = tt

-- six types, three labels and four locations
abbrev counts : Counts
counts = record { types = 6; labels = 3; locations = 4 }

-- `c`, `x 2`, `= 3`, `u 5 2`, `v 0`, `s`
abbrev opened : List ℕ
opened = 99 ∷ 10 ∷ 120 ∷ 9 ∷ 50 ∷ 10 ∷ 61 ∷ 9 ∷ 51 ∷ 10 ∷ 117 ∷ 9 ∷ 53 ∷ 9 ∷ 50 ∷ 10 ∷ 118 ∷ 9 ∷ 48 ∷ 10 ∷ 115 ∷ 10 ∷ []

opened_read : script_of counts opened
    ≡ some (record { opening = record { start = none }; command = case (loc 2) (assign 3 (unpack 5 2 (var 0))) skip })
unfolding reading_used
opened_read = refl

opened-printed : script_bytes
    (record { opening = record { start = none }; command = case (loc 2) (assign 3 (unpack 5 2 (var 0))) skip }) ≡ opened
unfolding decimal decimal_on line_bytes print_lines cmd_lines expr_lines start_bytes
opened-printed = refl

-- `b 2`, `s`
abbrev started : List ℕ
started = 98 ∷ 9 ∷ 50 ∷ 10 ∷ 115 ∷ 10 ∷ []

started_read : script_of counts started ≡ some (record { opening = record { start = some 2 }; command = skip })
unfolding reading_used
started_read = refl

started-printed : script_bytes (record { opening = record { start = some 2 }; command = skip }) ≡ started
unfolding decimal decimal_on line_bytes print_lines cmd_lines start_bytes
started-printed = refl

-- `b 3`, a label that is not there, before a command; `b 2` alone; twice; after the command; inside a sequence; no
-- label
refused-starts : (script_of counts (98 ∷ 9 ∷ 51 ∷ 10 ∷ 115 ∷ 10 ∷ []) ≡ none)
    × (script_of counts (98 ∷ 9 ∷ 50 ∷ 10 ∷ []) ≡ none)
    × (script_of counts (98 ∷ 9 ∷ 50 ∷ 10 ∷ 98 ∷ 9 ∷ 50 ∷ 10 ∷ 115 ∷ 10 ∷ []) ≡ none)
    × (script_of counts (115 ∷ 10 ∷ 98 ∷ 9 ∷ 50 ∷ 10 ∷ []) ≡ none)
    × (script_of counts (59 ∷ 10 ∷ 98 ∷ 9 ∷ 50 ∷ 10 ∷ 115 ∷ 10 ∷ 115 ∷ 10 ∷ []) ≡ none)
    × (script_of counts (98 ∷ 10 ∷ 115 ∷ 10 ∷ []) ≡ none)
unfolding reading_used
refused-starts = (refl, refl, refl, refl, refl, refl)

-- no text; two commands; a variable outside its binding; a location that is not there; no byte 10 at the end; a byte 13
refused : (script_of counts [] ≡ none) × (script_of counts (115 ∷ 10 ∷ 115 ∷ 10 ∷ []) ≡ none)
    × (script_of counts (99 ∷ 10 ∷ 118 ∷ 9 ∷ 48 ∷ 10 ∷ 115 ∷ 10 ∷ 115 ∷ 10 ∷ []) ≡ none)
    × (script_of counts (61 ∷ 9 ∷ 48 ∷ 10 ∷ 120 ∷ 9 ∷ 52 ∷ 10 ∷ []) ≡ none)
    × (script_of counts (115 ∷ []) ≡ none) × (script_of counts (115 ∷ 13 ∷ 10 ∷ []) ≡ none)
unfolding reading_used
refused = (refl, refl, refl, refl, refl, refl)

-- `= 3`, `p 5`, `f`, `x 2`, `g`, `x 2`
abbrev paired : List ℕ
paired = 61 ∷ 9 ∷ 51 ∷ 10 ∷ 112 ∷ 9 ∷ 53 ∷ 10 ∷ 102 ∷ 10 ∷ 120 ∷ 9 ∷ 50 ∷ 10 ∷ 103 ∷ 10 ∷ 120 ∷ 9 ∷ 50 ∷ 10 ∷ []

abbrev pair_script : Script
pair_script = record {
  opening = record { start = none };
  command = assign 3 (pairing 5 (proj first (loc 2)) (proj second (loc 2)));
}

paired_read : script_of counts paired ≡ some pair_script
unfolding reading_used
paired_read = refl

paired-printed : script_bytes pair_script ≡ paired
unfolding decimal decimal_on line_bytes print_lines cmd_lines expr_lines start_bytes pick
paired-printed = refl

-- after `= 3`: a pair of a type that is not there; a pair with one part; a first part with a number
refused-pairs : (script_of counts
    (61 ∷ 9 ∷ 51 ∷ 10 ∷ 112 ∷ 9 ∷ 54 ∷ 10 ∷ 120 ∷ 9 ∷ 50 ∷ 10 ∷ 120 ∷ 9 ∷ 50 ∷ 10 ∷ []) ≡ none)
    × (script_of counts (61 ∷ 9 ∷ 51 ∷ 10 ∷ 112 ∷ 9 ∷ 53 ∷ 10 ∷ 120 ∷ 9 ∷ 50 ∷ 10 ∷ []) ≡ none)
    × (script_of counts (61 ∷ 9 ∷ 51 ∷ 10 ∷ 102 ∷ 9 ∷ 48 ∷ 10 ∷ 120 ∷ 9 ∷ 50 ∷ 10 ∷ []) ≡ none)
unfolding reading_used
refused-pairs = (refl, refl, refl)

-- n cases, each in the left branch of the one before
nested : ℕ → Cmd
nested zero = skip
nested (suc n) = case (loc 0) (nested n) skip

depth : (named counts 0 (nested 8) ≡ true) × (named counts 0 (nested 9) ≡ false)
unfolding nested named named_e both
depth = (refl, refl)

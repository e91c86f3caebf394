-- The script of a text on a sheet, or none where refusal 4 applies.
use Rattle.std.specs.Prelude.{cond, List, ℕ}
use Rattle.std.proofs.Math.Option.{Option, none, some}
use Rattle.language.specs.Syntax.{Cmd, Opening, Script}
use Rattle.script.specs.Lines.{ScriptLine}
use Rattle.script.specs.Names.{Counts, named, named_opening}
use Rattle.script_text.specs.Reading.{Written, written_of}
use Rattle.script_text.specs.Internal.Parse.{parse}

-- a command that names only what is there, its cases at most 8 deep
unfoldable pub named_only : Counts → Option Cmd → Option Cmd
named_only k none = none
named_only k (some c) = cond (named k 0 c) (some c) none

-- the command of lines
unfoldable pub command_of : Counts → List ScriptLine → Option Cmd
command_of k ls = named_only k (parse ls)

-- an opening that names only what is there, and a command
unfoldable pub script_with : Counts → Opening → Option Cmd → Option Script
script_with k o none = none
script_with k o (some c) = cond (named_opening k o) (some (record { opening = o; command = c })) none

unfoldable pub script_read : Counts → Option Written → Option Script
script_read k none = none
script_read k (some w) = script_with k w.opening (command_of k w.lines)

-- The script of a text. None is refusal 4.
unfoldable pub script_of : Counts → List ℕ → Option Script
script_of k t = script_read k (written_of t)

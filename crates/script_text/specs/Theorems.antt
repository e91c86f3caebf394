-- What is shown of scripts.
use Rattle.std.specs.Prelude.{◌≡◌, true, ◌↔◌, List, [], ℕ, ◌+◌, ◌≤◌, length}
use Rattle.std.proofs.Math.Option.{some}
use Rattle.text.specs.Reading.{limit}
use Rattle.language.specs.Syntax.{Script}
use Rattle.script.specs.Lines.{Source, cmd_lines, opening_lines}
use Rattle.script.specs.Names.{Counts, named, named_opening, max_lines}
use Rattle.sheet.specs.Sheet.{Sheet, formed}
use Rattle.script_text.specs.Bytes.{script_bytes}
use Rattle.script_text.specs.Counts.{counts_of}
use Rattle.script_text.specs.Script.{script_of}

-- A text is that of the script p: the printed form of its opening and its command's lines, within the bounds, naming
-- only what is there.
pub record IsScript (k : Counts) (t : List ℕ) (p : Script) : Type 0 where
  pub printed : t ≡ script_bytes p
  pub source : Source p.command
  pub opened_there : named_opening k p.opening ≡ true
  pub named_there : named k 0 p.command ≡ true
  pub few : opening_lines p.opening + length (cmd_lines p.command []) ≤ max_lines
  pub short : length t ≤ limit

-- On a sheet of the form, the script is read exactly if the text is that of a script.
abbrev pub ScriptExact : Type 0
ScriptExact = (s : Sheet) → formed s ≡ true → (t : List ℕ) (p : Script)
    → (script_of (counts_of s) t ≡ some p) ↔ IsScript (counts_of s) t p

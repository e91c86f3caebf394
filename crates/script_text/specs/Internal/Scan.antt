-- What the code answers where it looks for an expression or a command at a row.
use Rattle.std.specs.Prelude.{◌≡◌, Bool, true, false, cond, List, ℕ, ◌≤◌, eqb, ltb, drop, Option, Some, None, IfSome}
use Rattle.std.specs.Prelude.{IsSomeAnd}
use Rattle.std.proofs.Math.Option.{Option as Maybe, none, some}
use Rattle.logic.specs.Booleans.{both, either}
use Rattle.script.specs.Lines.{ScriptLine}
use Rattle.script.specs.Internal.Code.{code}
use Rattle.script.specs.Internal.Balance.{closes}
use Rattle.script.specs.Internal.Pieces.{Sort, expression, command, Tree, SourceOf, lines_of}
use Rattle.script.specs.Names.{Counts, named_e, named}
use Rattle.script_text.specs.Script.{command_of}

-- Where the lines after a tree of a sort stand, if one starts at a word, its names there: it is found exactly if it is
-- there.
pub record Scans (s : Sort) (names : Tree s → Bool) (ws : List ℕ) (at : ℕ) (r : Option ℕ) : Type 0 where
  pub forward : IfSome r (λ n. at ≤ n)
  pub sound : IfSome r (λ n. (ls : List ScriptLine) → drop at ws ≡ code ls
      → (x : Tree s) × (rest : List ScriptLine) × SourceOf s x × (names x ≡ true) × (ls ≡ lines_of s x rest)
      × (drop n ws ≡ code rest))
  pub complete : (x : Tree s) (rest : List ScriptLine) → SourceOf s x → names x ≡ true
      → drop at ws ≡ code (lines_of s x rest)
      → IsSomeAnd r (λ n. drop n ws ≡ code rest)

-- an expression below d cases, all of whose names are there
abbrev pub ScansExpr : Counts → ℕ → List ℕ → ℕ → Option ℕ → Type 0
ScansExpr k d ws at r = Scans expression (named_e k d) ws at r

-- a command likewise
abbrev pub ScansCmd : Counts → ℕ → List ℕ → ℕ → Option ℕ → Type 0
ScansCmd k d ws at r = Scans command (named k d) ws at r

-- Whether the numbers of a line with operands, of an expression, name what is there, by its kind: a type where it makes
-- a left, a right or a pair, a label where it makes a pack, both where it makes an unpack. The others have none.
abbrev pub names_there : Counts → ℕ → ℕ → ℕ → Bool
names_there k kind a b =
    cond (either (eqb kind 10) (either (eqb kind 11) (eqb kind 14))) (ltb a k.types)
    (cond (eqb kind 12) (ltb a k.labels) (cond (eqb kind 13) (both (ltb a k.types) (ltb b k.labels)) true))

-- whether lines are as many as their kinds ask for
abbrev pub Balanced : List ℕ → Bool → Type 0
Balanced ws r = (ls : List ScriptLine) → ws ≡ code ls → r ≡ closes 1 ls

unfoldable pub is_some : {A : Type 0} → Maybe A → Bool
is_some none = false
is_some (some x) = true

-- whether a start is one of so many labels, if it is any
unfoldable pub start_there : ℕ → Option ℕ → Bool
start_there labels None = true
start_there labels (Some l) = ltb l labels

-- whether the code is that of one command whose names are there
abbrev pub Whole : Counts → List ℕ → Bool → Type 0
Whole k ws r = (ls : List ScriptLine) → ws ≡ code ls → r ≡ is_some (command_of k ls)

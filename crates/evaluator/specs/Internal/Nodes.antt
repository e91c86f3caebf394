-- What the functions ensure that make a value of one or two others.
use Rattle.std.specs.Prelude.{◌≡◌, ℕ, suc, ◌<◌, ◌≤◌, Bool, true, false, List, ◌∷◌, length, drop, slice_index}
use Rattle.std.specs.Prelude.{Result, Ok, Err}
use Rattle.language.specs.Syntax.{Value, pair, Part, pick, size, has}
use Rattle.language.specs.World.{World, cell_words, wanted}
use Rattle.language.specs.Evaluation.{Res, ok, long, stuck, fit, add, packed, unpacked, part_of}
use Rattle.sheet.specs.Internal.Tables.{labels_in, left_in, below_in}
use Rattle.sheet.specs.Internal.Powers.{may_write, may_read}
use Rattle.sheet.specs.Internal.TypeTest.{has_no}
use Rattle.memory.specs.Words.{enc, cell}
use Rattle.memory.specs.Memory.{cell_of}
use Rattle.script.specs.declared.Row.{Row}
use Rattle.cells.specs.Internal.Cells.{accumulator}
use Rattle.evaluator.specs.Internal.Records.{Setting, Reached}
use Rattle.evaluator.specs.declared.nodes.Failure.{Failure}
use Rattle.evaluator.specs.declared.nodes.Failure.TheVariants.{InsufficientAuth, IllegalFlow, TypeMismatch}

-- ---- answers

-- The answer to an evaluation, by its state's number (`state_number`): 0 and the value's cell; 10 where a value is too
-- long. Where no rule applies nothing is promised: no accepted script comes there.
unfoldable pub Yields : Res → ℕ → List ℕ → Type 0
Yields (ok v) state words = (state ≡ 0) × (words ≡ cell v)
Yields long state words = state ≡ 10
Yields stuck state words = Unit {0}

-- the answer's value is in the accumulator
abbrev pub Gives : Res → Reached → Type 0
Gives x r = Yields x r.state (cell_of r.cells accumulator)

-- f is applied to the value of the accumulator: the cells before, and the state and the cells after it.
abbrev pub Turns : (Value → Res) → List ℕ → ℕ → List ℕ → Type 0
Turns f before state after =
    (u : Value) → cell_words ≤ length before → cell_of before accumulator ≡ cell u
    → Yields (f u) state (cell_of after accumulator)

-- What follows the evaluation of an operand: only the accumulator changes, as Means says.
pub record Applies (before after : List ℕ) (Means : Type 0) : Type 0 where
  pub kept : drop cell_words after ≡ drop cell_words before
  pub means : Means

-- The word stands in front of a value's words to make the value that f makes.
pub record Tags (word : ℕ) (f : Value → Value) : Type 0 where
  pub words : (v : Value) (rest : List ℕ) → enc (f v) rest ≡ word ∷ enc v rest
  pub longer : (v : Value) → size (f v) ≡ suc (size v)

-- the numbers of the errors of pack and unpack
abbrev pub error_number : Failure → ℕ
error_number InsufficientAuth = 1
error_number IllegalFlow = 2
error_number TypeMismatch = 3

-- the same of an unpack's tests; 0 where all pass
abbrev pub tests_number : Result (Unit {0}) Failure → ℕ
tests_number (Ok u) = 0
tests_number (Err e) = error_number e

-- The error of an unpack, by its three tests; 0 where all pass.
unfoldable pub error_of : Bool → Bool → Bool → ℕ
error_of false b c = 1
error_of true false c = 2
error_of true true false = 3
error_of true true true = 0

-- the three tests, by the table: the wanted label l, the package's label m, and whether the content has the wanted type
unfoldable pub error_in : Setting → ℕ → ℕ → Bool → ℕ
error_in S l m fits = error_of (may_read S.powers l) (below_in S.table m l) fits

-- The table and the powers say of types, and of the labels that are there, what the world does.
pub record Tells (S : Setting) (W : World) : Type 0 where
  pub reads_is : (l : ℕ) → l < labels_in S.table → may_read S.powers l ≡ W.reads l
  pub writes_is : (l : ℕ) → l < labels_in S.table → may_write S.powers l ≡ W.writes l
  pub below_is : (l m : ℕ) → below_in S.table l m ≡ W.below l m
  pub type_is : (v : Value) (t : ℕ) → has_no S.table v (left_in S.table t) ≡ has v (wanted (W.ty t))

-- ---- what the kinds of line with an operand make of its value

-- the integer n on the left of a plus
abbrev pub Sums : ℕ → List ℕ → ℕ → List ℕ → Type 0
Sums n before state after =
    Applies before after ((u : Value) → n ≡ slice_index (cell u) 1 → Turns (add u) before state after)

abbrev pub Tagged : ℕ → List ℕ → ℕ → List ℕ → Type 0
Tagged word before state after =
    Applies before after ((f : Value → Value) → Tags word f → Turns (λ u. fit (f u)) before state after)

abbrev pub Packs : ℕ → ℕ → List ℕ → ℕ → List ℕ → Type 0
Packs powers l before state after =
    Applies before after (Turns (packed (may_write powers l) l) before state after)

abbrev pub Unpacks : Setting → ℕ → ℕ → List ℕ → ℕ → List ℕ → Type 0
Unpacks S t l before state after =
    Applies before after
    ((W : World) → Tells S W → l < labels_in S.table → Turns (unpacked W t l) before state after)

abbrev pub Projects : Part → List ℕ → ℕ → List ℕ → Type 0
Projects p before state after = Applies before after (Turns (part_of p) before state after)

-- The lines with one operand, which are applied to the value in the accumulator, and the numbers of their kinds.
pub data Op : Type 0 where
  o_left o_right o_pack o_unpack : Op
  o_part : Part → Op

unfoldable pub op_kind : Op → ℕ
op_kind o_left = 10
op_kind o_right = 11
op_kind o_pack = 12
op_kind o_unpack = 13
op_kind (o_part p) = pick p 15 16

-- what each makes of it
abbrev pub MadeBy : Op → Setting → Row → List ℕ → ℕ → List ℕ → Type 0
MadeBy o_left S row = Tagged 3
MadeBy o_right S row = Tagged 4
MadeBy o_pack S row = Packs S.powers row.a
MadeBy o_unpack S row = Unpacks S row.a row.b
MadeBy (o_part p) S row = Projects p

-- What a line makes of the value in the accumulator.
abbrev pub Applied : Setting → Row → List ℕ → ℕ → List ℕ → Type 0
Applied S row before state after = (o : Op) → row.kind ≡ op_kind o → MadeBy o S row before state after

-- ---- a pair

-- Its first part has these words, and its second is in the accumulator.
abbrev pub Pairs : List ℕ → List ℕ → ℕ → List ℕ → Type 0
Pairs words before state after =
    Applies before after
    ((u : Value) → words ≡ cell u → Turns (λ w. fit (pair u w)) before state after)

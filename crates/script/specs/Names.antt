-- What a script may name (the scope, "The three texts"): what is on the sheet, variables that a case binds; how many
-- lines it has, and how deep its cases nest.
use Rattle.std.specs.Prelude.{Bool, true, ℕ, suc, ◌^◌, ltb}
use Rattle.std.proofs.Math.Option.{Option, none, some}
use Rattle.logic.specs.Booleans.{both}
use Rattle.language.specs.Syntax.{Expr, val, loc, var, plus, left, right, pack, unpack, pairing, proj, Cmd, skip, seq}
use Rattle.language.specs.Syntax.{assign, while, case, Opening}
use Rattle.script.specs.Lines.{integer_of}

-- How many types, labels and locations a sheet has.
pub record Counts : Type 0 where
  pub types : ℕ
  pub labels : ℕ
  pub locations : ℕ

-- a script has at most this many lines
abbrev pub max_lines : ℕ
max_lines = 512

-- cases nest at most this deep
abbrev pub max_depth : ℕ
max_depth = 8

-- Below d enclosing cases an expression names only what is there; its integers are of 32 bits.
unfoldable pub named_e : Counts → ℕ → Expr → Bool
named_e k d (val v) = ltb (integer_of v) (2 ^ 32)
named_e k d (loc x) = ltb x k.locations
named_e k d (var i) = ltb i d
named_e k d (plus a b) = both (named_e k d a) (named_e k d b)
named_e k d (left t a) = both (ltb t k.types) (named_e k d a)
named_e k d (right t a) = both (ltb t k.types) (named_e k d a)
named_e k d (pack l a) = both (ltb l k.labels) (named_e k d a)
named_e k d (unpack t l a) = both (both (ltb t k.types) (ltb l k.labels)) (named_e k d a)
named_e k d (pairing t a b) = both (ltb t k.types) (both (named_e k d a) (named_e k d b))
named_e k d (proj p a) = named_e k d a

-- A command likewise. The expression of a case is outside its own binding; the two branches are inside.
unfoldable pub named : Counts → ℕ → Cmd → Bool
named k d skip = true
named k d (seq a b) = both (named k d a) (named k d b)
named k d (assign x e) = both (ltb x k.locations) (named_e k d e)
named k d (while e c) = both (named_e k d e) (named k d c)
named k d (case e a b) = both (named_e k d e) (both (ltb d max_depth) (both (named k (suc d) a) (named k (suc d) b)))

-- A start names a label that is there, if it names one, and so does an opening (request (d)).
unfoldable pub named_start : Counts → Option ℕ → Bool
named_start k none = true
named_start k (some l) = ltb l k.labels

abbrev pub named_opening : Counts → Opening → Bool
named_opening k o = named_start k o.start

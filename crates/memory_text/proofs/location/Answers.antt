-- An empty line, or a line of words.
use Rattle.std.proofs.Common.{◌≡◌, ℕ, ◌-◌, List, length, replicate, Some, None, ◌∙◌, arith, refl}
use Rattle.text.specs.Reading.{Read}
use Rattle.text.specs.Reading.Read.{got, bad}
use Rattle.text.specs.Internal.Place.{placed, placed_end}
use Rattle.language.specs.World.{cell_words}
use Rattle.memory_text.specs.Reading.{blank_or, location}
use Rattle.memory_text.proofs.location.Goals as goal

-- the answer where the line is empty, and where it isn't
module _ (s : List ℕ) (words : Read (List ℕ)) where
  empty : (x : Read Unit) (p : ℕ) → Some p ≡ placed_end s x
      → Some (replicate cell_words 0, p) ≡ placed s (blank_or x words)
  unfolding placed placed_end blank_or
  empty (got _ u) p e = let q : p ≡ length s - length u = cc in rw q
  empty bad p e = let z : ◌≡◌ {A = ℕ} 0 1 = cc in absurd (omega arith)

  filled : (x : Read Unit) → None ≡ placed_end s x → placed s words ≡ placed s (blank_or x words)
  unfolding placed placed_end blank_or
  filled (got _ u) e = let z : ◌≡◌ {A = ℕ} 0 1 = cc in absurd (omega arith)
  filled bad e = refl

pub returns-in-Some : goal.returns-in-Some
unfolding location
returns-in-Some c = empty c.args.s.now _ _ _ c.in-Some.ensures

pub returns-in-None : goal.returns-in-None
unfolding location
returns-in-None c = c.line_words.ensures ∙ filled c.args.s.now _ _ c.in-None.ensures

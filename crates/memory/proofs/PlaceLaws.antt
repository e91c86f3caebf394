-- What is read from a place on, by the word that stands there.
use mathlib.Core.Path.{◌≡◌, refl, ap, ◌∙◌}
use mathlib.Core.List.{List, [], ◌∷◌}
use Prim.Native.Nat.{ℕ, ◌+◌, ◌≤◌, ◌<◌}
use native.Mathlib.Numerals.{add-one}
use native.Mathlib.Omega.{arith}
use lib.ListN.{length, get_or, drop, drop_of_length-le, length-drop}
use lib.Seq.{drop-cons, drop-drop}
use Rattle.language.specs.Syntax.{head_size, Value, pkg, blank}
use Rattle.memory.specs.Words.{wrap, numbered, head_at, packaged, paired, read, read_of}
use Rattle.memory.specs.Internal.Post.{Numeral}
use Rattle.memory.proofs.HeadLaws.{head_from, package_none, package_some}
use Rattle.memory.proofs.WordLaws.{Side, Other, read_numeral, read_side, read_package, read_pair, read_none}

module _ (ws : List ℕ) (at : ℕ) where
  -- the words from a place on: its word and those after it; nothing past the end
  pub here : (w : ℕ) → at < length ws → get_or ws at 0 ≡ w → drop at ws ≡ w ∷ drop (at + 1) ws
  here w h e = rw (add-one, ← e) (drop-cons ws at 0 h)

  pub past : length ws ≤ at → drop at ws ≡ []
  past h = drop_of_length-le ws {i = at} h

  pub at_past : length ws ≤ at → read_of (drop at ws) ≡ (blank, [])
  unfolding read_of read
  at_past h = ap read_of (past h)

  module _ (h : at < length ws) where
    pub at_numeral : {w : ℕ} {f : ℕ → Value} → Numeral w f → get_or ws at 0 ≡ w
        → read_of (drop at ws) ≡ numbered f (drop (at + 1) ws)
    at_numeral k e = ap read_of (here _ h e) ∙ read_numeral (drop (at + 1) ws) k

    pub at_side : {w : ℕ} {f : Value → Value} → Side w f → get_or ws at 0 ≡ w
        → read_of (drop at ws) ≡ wrap f (read_of (drop (at + 1) ws))
    at_side k e = ap read_of (here _ h e) ∙ read_side (drop (at + 1) ws) k

    pub at_package : get_or ws at 0 ≡ 5 → read_of (drop at ws) ≡ packaged read_of (drop (at + 1) ws)
    at_package e = ap read_of (here 5 h e) ∙ read_package (drop (at + 1) ws)

    pub at_pair : get_or ws at 0 ≡ 6 → read_of (drop at ws) ≡ paired read_of (drop (at + 1) ws)
    at_pair e = ap read_of (here 6 h e) ∙ read_pair (drop (at + 1) ws)

    pub at_none : Other (get_or ws at 0) → read_of (drop at ws) ≡ (blank, drop (at + 1) ws)
    at_none o = ap read_of (here (get_or ws at 0) h refl) ∙ read_none (drop (at + 1) ws) (get_or ws at 0) o

  -- the head of a package, and the content after it
  pub headed : at + head_size ≤ length ws
      → packaged read_of (drop at ws) ≡ wrap (pkg (head_at ws at)) (read_of (drop (at + head_size) ws))
  headed h = package_some read_of (drop at ws) (omega (arith, length-drop at ws))
      ∙ rw (head_from ws at, drop-drop head_size at ws) refl

  pub headless : length ws ≤ at → packaged read_of (drop at ws) ≡ (blank, [])
  headless h = package_none read_of (drop at ws) (omega (arith, length-drop at ws))

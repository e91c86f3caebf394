-- Laws of the words of a package's head: what is read of them, and stored.
use mathlib.Core.Path.{◌≡◌, refl}
use mathlib.Core.List.{List, [], ◌∷◌, ◌++◌}
use Prim.Native.Nat.{ℕ, suc, ◌+◌, ◌≤◌, ◌<◌}
use native.Mathlib.Omega.{arith}
use native.Mathlib.Nat.{add-zero}
use native.Mathlib.Numerals.{add-one}
use borrow.Author.Tests.{le-leb, lt-leb}
use lib.ListN.{length, take, drop, length-drop}
use lib.Seq.{sets, get_or-drop}
use Rattle.language.specs.Syntax.{Head, head_size, pkg, blank}
use Rattle.memory.specs.Words.{head_words, Got, wrap, head_at, packaged}

module _ (h : Head) where
  pub length_head : (ws : List ℕ) → length (head_words h ws) ≡ head_size + length ws
  unfolding head_words
  length_head ws = omega arith

  pub head_append : (us ws : List ℕ) → head_words h us ++ ws ≡ head_words h (us ++ ws)
  unfolding head_words
  head_append us ws = refl

  pub head_take : (n : ℕ) (ws : List ℕ) → take (head_size + n) (head_words h ws) ≡ head_words h (take n ws)
  unfolding head_words
  head_take n ws =
      let e : head_size + n ≡ suc n = omega arith in
      rw e refl

  -- a head's words stored, and others after them
  pub head_sets : (out : List ℕ) (to : ℕ) (ws : List ℕ)
      → sets (sets out to (head_words h [])) (to + head_size) ws ≡ sets out to (head_words h ws)
  unfolding head_words
  head_sets out to ws = rw add-one refl

-- words that are enough for a head start with it
pub head_whole : (ws : List ℕ) → head_size ≤ length ws → head_words (head_at ws 0) (drop head_size ws) ≡ ws
unfolding head_words head_at
head_whole [] h = absurd (omega arith)
head_whole (w ∷ ws) h = refl

pub head_from : (ws : List ℕ) (at : ℕ) → head_at (drop at ws) 0 ≡ head_at ws at
unfolding head_at
head_from ws at = rw (get_or-drop at ws 0 0, add-zero at) refl

-- ---- a package

module _ (r : List ℕ → Got) where
  pub package_none : (ws : List ℕ) → length ws < head_size → packaged r ws ≡ (blank, [])
  unfolding packaged
  package_none ws h = rw (lt-leb _ _ h) refl

  pub package_some : (ws : List ℕ) → head_size ≤ length ws
      → packaged r ws ≡ wrap (pkg (head_at ws 0)) (r (drop head_size ws))
  unfolding packaged
  package_some ws h = rw (le-leb _ _ h) refl

  pub package_head : (h : Head) (ws : List ℕ) → packaged r (head_words h ws) ≡ wrap (pkg h) (r ws)
  unfolding head_words head_at
  package_head h ws = package_some (head_words h ws) (omega (arith, length_head h ws))

pub packaged_same : (r r' : List ℕ → Got) (ws : List ℕ) → ((us : List ℕ) → length us ≤ length ws → r us ≡ r' us)
    → packaged r ws ≡ packaged r' ws
unfolding packaged
packaged_same r r' ws h = rw (h (drop head_size ws) (omega (arith, length-drop head_size ws))) refl

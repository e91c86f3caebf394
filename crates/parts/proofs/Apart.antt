-- Texts that are joined by empty lines are parted into these again.
use Prim.Native.Nat.{ℕ, zero, suc, ◌+◌, ◌≤◌, ◌<◌}
use native.Mathlib.Omega.{arith}
use mathlib.Core.Path.{◌≡◌, refl, sym, ap, ◌∙◌}
use mathlib.Core.Bool.{Bool, true, false, cond, not, false≢true}
use mathlib.Core.List.{List, [], ◌∷◌, ◌++◌, append-nil}
use lib.ListN.{length, get_or}
use lib.Dec.{eqb, ltb}
use borrow.Author.Tests.{eq-eqb, ne_eqb, lt-ltb}
use Rattle.logic.proofs.BooleanLaws.{cases}
use Rattle.parts.specs.Parts.{parting, byte_if, text_from, text_of, no_empty_line, line_ended, joined}
use Rattle.parts.specs.Theorems.{AllWhole, JoinedApart, MissingEmpty}
use Rattle.parts.proofs.Steps.{parting_below, parting_empty, from_next, from_same}
use Rattle.logic.specs.Booleans.{both}

-- a text, where it is the one asked for
piece : Bool → List ℕ → List ℕ
piece mine t = cond mine t []

given_piece : (mine : Bool) (b : ℕ) (t u : List ℕ) → byte_if mine b (piece mine t ++ u) ≡ piece mine (b ∷ t) ++ u
unfolding byte_if piece
given_piece true b t u = refl
given_piece false b t u = refl

piece_none : (mine : Bool) → piece mine [] ≡ []
unfolding piece
piece_none true = refl
piece_none false = refl

-- the bytes of a text that is over
module _ (last i : ℕ) where
  from_past : (t : List ℕ) (j : ℕ) (start : Bool) → i < j → text_from last i j start t ≡ []
  unfolding text_from byte_if
  from_past [] j start l = refl
  from_past (b ∷ t) j start l =
      cases (parting last j start b)
      (λ e. rw e (from_past t (j + 1) true (omega arith)))
      (λ e. rw (e, ne_eqb j i (λ q. omega arith)) (from_past t j (eqb b 10) l))

  -- a byte in a text without empty lines parts nothing
  inside : (j : ℕ) (start : Bool) (b : ℕ) (t : List ℕ) → no_empty_line start (b ∷ t) ≡ true
      → (parting last j start b ≡ false) × (no_empty_line (eqb b 10) t ≡ true)
  unfolding parting no_empty_line both
  inside j true b t e = go (eqb b 10) e
    where
      go : (x : Bool) → both (not x) (no_empty_line (eqb b 10) t) ≡ true
          → (both x (ltb j last) ≡ false) × (no_empty_line (eqb b 10) t ≡ true)
      go true h = absurd (false≢true h)
      go false h = (refl, h)
  inside j false b t e = (refl, e)

  -- a text that goes on to the end, where P says that no byte of it parts
  from_whole : (j : ℕ) (P : Bool → List ℕ → Type 0)
      → ((start : Bool) (b : ℕ) (t : List ℕ) → P start (b ∷ t) → (parting last j start b ≡ false) × P (eqb b 10) t)
      → (t : List ℕ) (start : Bool) → P start t → text_from last i j start t ≡ piece (eqb j i) t
  unfolding text_from
  from_whole j P on [] start e = sym (piece_none (eqb j i))
  from_whole j P on (b ∷ t) start e =
      let h = on start b t e in
      from_same last i j start b t h.0
      ∙ ap (byte_if (eqb j i) b) (from_whole j P on t (eqb b 10) h.1 ∙ sym (append-nil (piece (eqb j i) t)))
      ∙ given_piece (eqb j i) b t []
      ∙ append-nil (piece (eqb j i) (b ∷ t))

  -- a text with an empty line after it
  from_parted : (t : List ℕ) (j : ℕ) (start : Bool) (u : List ℕ) → no_empty_line start t ≡ true
      → line_ended start t ≡ true → j < last
      → text_from last i j start (t ++ (10 ∷ u)) ≡ piece (eqb j i) t ++ text_from last i (j + 1) true u
  unfolding line_ended
  from_parted [] j start u e f l =
      from_next last i j start 10 u (parting_empty last j start 10 f refl ∙ lt-ltb j last l) ∙ rw (piece_none (eqb j i))
  from_parted (b ∷ t) j start u e f l =
      let h = inside j start b t e in
      from_same last i j start b (t ++ (10 ∷ u)) h.0
      ∙ ap (byte_if (eqb j i) b) (from_parted t j (eqb b 10) u h.1 f l)
      ∙ given_piece (eqb j i) b t (text_from last i (j + 1) true u)

-- the last text goes on to the end
never_parting : (last : ℕ) (start : Bool) (b : ℕ) → parting last last start b ≡ false
never_parting last start b =
    cases (parting last last start b) (λ e. let z = parting_below last last start b e in absurd (omega arith)) (λ e. e)

-- texts from text j on, where the last of them, text k, goes on to the end
module _ (last k : ℕ) (end : List ℕ) (few : k ≤ last)
    (rest : (i : ℕ) → text_from last i k true end ≡ piece (eqb k i) end) where
  apart : (ts : List (List ℕ)) (j : ℕ) → AllWhole ts → k ≡ j + length ts → (d i : ℕ) → i ≡ j + d
      → text_from last i j true (joined ts end) ≡ get_or (ts ++ (end ∷ [])) d []
  unfolding joined AllWhole piece
  apart [] j _ e zero i q = let p : k ≡ j = omega arith in rw (← p) (rest i ∙ rw (eq-eqb k i (omega arith)))
  apart [] j _ e (suc d) i q = let p : k ≡ j = omega arith in rw (← p) (rest i ∙ rw (ne_eqb k i (λ z. omega arith)))
  apart (t ∷ ts) j l e zero i q =
      from_parted last i t j true (joined ts end) l.0.no_empty l.0.whole (omega arith)
      ∙ rw (eq-eqb j i (omega arith), from_past last i (joined ts end) (j + 1) true (omega arith)) (append-nil t)
  apart (t ∷ ts) j l e (suc d) i q =
      from_parted last i t j true (joined ts end) l.0.no_empty l.0.whole (omega arith)
      ∙ rw (ne_eqb j i (λ z. omega arith)) (apart ts (j + 1) l.1 (omega arith) d i (omega arith))

pub joined_apart : JoinedApart
unfolding text_of
joined_apart ts end each i =
    apart (length ts) (length ts) end (omega arith) (λ i. from_whole (length ts) i (length ts) (λ _ _. Unit)
    (λ start b t _. (never_parting (length ts) start b, tt)) end true tt) ts 0 each (omega arith) i i (omega arith)

pub missing_empty : MissingEmpty
unfolding text_of
missing_empty ts end each plain last few i =
    apart last (length ts) end few (λ i. from_whole last i (length ts) (λ start t. no_empty_line start t ≡ true)
    (inside last i (length ts)) end true plain) ts 0 each (omega arith) i i (omega arith)

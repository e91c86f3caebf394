-- Writing a memory: how many words a line keeps, and forms written one after another.
use Prim.Native.Nat.{ℕ, zero, suc, ◌+◌, ◌*◌, ◌-◌, ◌/◌, ◌%◌, ◌≤◌, ◌<◌}
use native.Mathlib.Omega.{arith}
use mathlib.Core.Path.{◌≡◌, refl, sym, ap, ◌∙◌}
use mathlib.Core.List.{List, [], ◌∷◌, ◌++◌}
use lib.ListN.{length, take, drop, get_or, length-append, drop_of_length-le}
use lib.Seq.{sets, take-append_seam, drop-append_seam}
use borrow.Author.Tests.{eq-eqb, ne_eqb, le-leb, lt-leb}
use Rattle.text.specs.Number.{decimal, most}
use Rattle.text.specs.Lines.{print_lines}
use Rattle.text.specs.Internal.Writing.{written, reached}
use Rattle.text.proofs.Readings.{drop-step}
use Rattle.text.proofs.Writings.{sets_append, written_fits, reached_fits, length-decimal}
use Rattle.language.specs.World.{cell_words}
use Rattle.memory_text.specs.Printing.{cons_trimmed, trim, fields, line, rows, lines, memory_text}
use Rattle.memory_text.specs.Internal.Answers.{printed_length, printed}
use Rattle.memory_text.specs.Sizes.{word_room, line_room}
use Rattle.memory_text.specs.Internal.Writing.{Puts}
use Rattle.memory_text.proofs.Trimming.{keep_zero, keep_last, keep_more}
use Rattle.logic.specs.Booleans.{both}

-- the words up to the last that is not zero are those that a line keeps
kept_up_to : (row : List ℕ) (n : ℕ) → n ≤ length row
    → ((m : ℕ) → n ≡ suc m → get_or row m 0 ≡ 0 → ⊥)
    → ((k : ℕ) → n ≤ k → k < length row → get_or row k 0 ≡ 0)
    → trim row ≡ take n row
unfolding trim
kept_up_to [] zero h l z = refl
kept_up_to [] (suc n) h l z = absurd (omega arith)
kept_up_to (w ∷ ws) zero h l z =
    let e : trim ws ≡ [] = kept_up_to ws zero (omega arith) (λ m p. absurd (omega arith))
    (λ k a b. z (suc k) (omega arith) (omega arith)) in
    rw e (keep_zero w (z 0 (omega arith) (omega arith)))
kept_up_to (w ∷ ws) (suc zero) h l z =
    let e : trim ws ≡ [] = kept_up_to ws zero (omega arith) (λ m p. absurd (omega arith))
    (λ k a b. z (suc k) (omega arith) (omega arith)) in
    rw e (keep_last w (l 0 refl))
kept_up_to (w ∷ []) (suc (suc n)) h l z = absurd (omega arith)
kept_up_to (w ∷ v ∷ vs) (suc (suc n)) h l z =
    let e : trim (v ∷ vs) ≡ v ∷ take n vs = kept_up_to (v ∷ vs) (suc n) (omega arith)
    (λ m p. l (suc m) (ap suc p))
    (λ k a b. z (suc k) (omega arith) (omega arith)) in
    ap (cons_trimmed w) e ∙ keep_more w v (take n vs)

pub used_kept : (row : List ℕ) (n : ℕ) → n ≤ length row → (0 < n → get_or row (n - 1) 0 ≡ 0 → ⊥)
    → ((k : ℕ) → n ≤ k → k < length row → get_or row k 0 ≡ 0)
    → trim row ≡ take n row
used_kept row n h l z =
    kept_up_to row n h (λ m e x. let q : n - 1 ≡ m = omega arith in l (omega arith) (rw q x)) z

-- of a whole form from `at` on, the rest goes into the buffer as it is now
pub record Goes (whole rest : List ℕ → List ℕ) (out : List ℕ) (at : ℕ) (now : List ℕ) (place : ℕ) : Type 0 where
  pub bytes : (t : List ℕ) → sets out at (whole t) ≡ sets now place (rest t)
  pub reach : (t : List ℕ) → at + length (whole t) ≡ place + length (rest t)

pub goes_start : (form : List ℕ → List ℕ) (out : List ℕ) (at : ℕ) → Goes form form out at out at
goes_start form out at = record { bytes = λ t. refl; reach = λ t. refl }

module _ (whole rest : List ℕ → List ℕ) (out : List ℕ) (at : ℕ) (now : List ℕ) (place : ℕ)
    (g : Goes whole rest out at now place) where
  -- the bytes at the front of the rest are written
  pub goes_put : (left : List ℕ → List ℕ) (bytes now' : List ℕ) (place' : ℕ) → ((t : List ℕ) → rest t ≡ bytes ++ left t)
      → place + length bytes ≤ length now → place' ≡ reached now place bytes → now' ≡ written now place bytes
      → Goes whole left out at now' place'
  goes_put left bytes now' place' e h p w =
      let w' : now' ≡ sets now place bytes = w ∙ written_fits now place bytes h in
      let p' : place' ≡ place + length bytes = p ∙ reached_fits now place bytes h in
      rw (w', p') (record {
        bytes = λ t. g.bytes t ∙ ap (sets now place) (e t) ∙ sets_append now place bytes (left t);
        reach = λ t. omega (arith, g.reach t, ap length (e t), length-append bytes (left t));
      })

  pub goes_same : (left : List ℕ → List ℕ) → ((t : List ℕ) → rest t ≡ left t) → Goes whole left out at now place
  goes_same left e = record {
    bytes = λ t. g.bytes t ∙ ap (sets now place) (e t);
    reach = λ t. g.reach t ∙ ap (λ (l : List ℕ). place + length l) (e t);
  }

  -- a form at the front of the rest is written
  goes_form : (left form : List ℕ → List ℕ) (room : ℕ) (now' : List ℕ) (place' : ℕ)
      → ((t : List ℕ) → rest t ≡ form (left t))
      → Puts form room now place now' place' → Goes whole left out at now' place'
  goes_form left form room now' place' e p = record {
    bytes = λ t. g.bytes t ∙ ap (sets now place) (e t) ∙ p.bytes (left t);
    reach = λ t. g.reach t ∙ ap (λ (l : List ℕ). place + length l) (e t) ∙ p.reach (left t);
  }

pub goes_done : (whole : List ℕ → List ℕ) (room : ℕ) (out : List ℕ) (at : ℕ) (now : List ℕ) (place : ℕ)
    → Goes whole (λ t. t) out at now place
    → place ≤ at + room → Puts whole room out at now place
goes_done whole room out at now place g h = record { bytes = g.bytes; reach = g.reach; short = h }

-- what a field, a line and the lines begin with
pub fields-tab : (w : ℕ) (ws t : List ℕ) → fields (w ∷ ws) t ≡ (9 ∷ []) ++ (decimal w ++ fields ws t)
unfolding fields
fields-tab w ws t = refl

pub fields_none : (t : List ℕ) → fields [] t ≡ t
unfolding fields
fields_none t = refl

pub line_first : (w : ℕ) (ws t : List ℕ) → line (w ∷ ws) t ≡ decimal w ++ fields ws (10 ∷ t)
unfolding line
line_first w ws t = refl

pub line_none : (t : List ℕ) → line [] t ≡ (10 ∷ []) ++ t
unfolding line
line_none t = refl

-- the words from i on, each after a tab
module _ (ws : List ℕ) (i : ℕ) where
  pub fields_more : i < length ws → (t : List ℕ)
      → fields (drop i ws) t ≡ (9 ∷ []) ++ (decimal (get_or ws i 0) ++ fields (drop (i + 1) ws) t)
  fields_more h t = rw (drop-step ws i h) (fields-tab (get_or ws i 0) (drop (i + 1) ws) t)

  pub fields_done : length ws ≤ i → (t : List ℕ) → fields (drop i ws) t ≡ t
  fields_done h t = rw (drop_of_length-le ws h) (fields_none t)

-- a tab and the word at i are written
pub field_goes : (whole : List ℕ → List ℕ) (ws : List ℕ) (i : ℕ) (out : List ℕ) (at : ℕ) (now : List ℕ) (p : ℕ)
    (now₁ : List ℕ) (q : ℕ) (now₂ : List ℕ) (r : ℕ) → Goes whole (fields (drop i ws)) out at now p
    → q ≡ reached now p (9 ∷ []) → now₁ ≡ written now p (9 ∷ [])
    → r ≡ reached now₁ q (decimal (get_or ws i 0)) → now₂ ≡ written now₁ q (decimal (get_or ws i 0))
    → length now₁ ≡ length now → i < length ws → get_or ws i 0 ≤ most → p + word_room ≤ length now
    → Goes whole (fields (drop (i + 1) ws)) out at now₂ r × (r ≤ p + word_room)
field_goes whole ws i out at now p now₁ q now₂ r g eq e₁ er e₂ n h m room =
    let d = length-decimal (get_or ws i 0) m in
    let q' : q ≡ p + 1 = eq ∙ reached_fits now p (9 ∷ []) (omega arith) in
    let f : q + length (decimal (get_or ws i 0)) ≤ length now₁ = omega arith in
    let r' : r ≡ q + length (decimal (get_or ws i 0)) = er ∙ reached_fits now₁ q (decimal (get_or ws i 0)) f in
    let tab = goes_put whole (fields (drop i ws)) out at now p g
    (λ t. decimal (get_or ws i 0) ++ fields (drop (i + 1) ws) t) (9 ∷ []) now₁ q (fields_more ws i h)
    (omega arith)
    eq e₁ in (
      goes_put whole (λ t. decimal (get_or ws i 0) ++ fields (drop (i + 1) ws) t) out at now₁ q tab
          (fields (drop (i + 1) ws)) (decimal (get_or ws i 0)) now₂ r (λ t. refl) f er e₂,
      omega arith,
    )

-- how far a number reaches
pub number-reach : (out : List ℕ) (at w r : ℕ) → r ≡ reached out at (decimal w) → w ≤ most
    → at + 10 ≤ length out → r ≤ at + 10
number-reach out at w r e m h =
    let d = length-decimal w m in
    let r' : r ≡ at + length (decimal w) = e ∙ reached_fits out at (decimal w) (omega arith) in
    omega arith

-- a line without words
pub empty_puts : (ws out : List ℕ) (at : ℕ) (now : List ℕ) (r : ℕ) → ws ≡ []
    → r ≡ reached out at (10 ∷ []) → now ≡ written out at (10 ∷ []) → at + line_room ≤ length out
    → Puts (line ws) line_room out at now r
empty_puts ws out at now r z e w h =
    let r' : r ≡ at + 1 = e ∙ reached_fits out at (10 ∷ []) (omega arith) in
    goes_done (line ws) line_room out at now r
    (goes_put (line ws) (line ws) out at out at (goes_start (line ws) out at) (λ t. t) (10 ∷ []) now r
    (λ t. ap (λ (l : List ℕ). line l t) z ∙ line_none t) (omega arith) e w)
    (omega arith)

-- a line with words begins with the first
pub line_puts : (ws : List ℕ) (w : ℕ) (vs out : List ℕ) (at : ℕ) (o₁ : List ℕ) (p : ℕ) (o₂ : List ℕ) (q : ℕ)
    (o₃ : List ℕ) (r : ℕ)
    → ws ≡ w ∷ vs → length ws ≤ cell_words
    → p ≡ reached out at (decimal w) → o₁ ≡ written out at (decimal w)
    → Puts (fields vs) (word_room * length vs) o₁ p o₂ q
    → r ≡ reached o₂ q (10 ∷ []) → o₃ ≡ written o₂ q (10 ∷ [])
    → length o₂ ≡ length out → w ≤ most → at + line_room ≤ length out
    → Puts (line ws) line_room out at o₃ r
line_puts ws w vs out at o₁ p o₂ q o₃ r e few ep e₁ f er e₃ l m room =
    let d = length-decimal w m in
    let short = f.short in
    let p' : p ≤ at + 10 = number-reach out at w p ep m (omega arith) in
    let n : suc (length vs) ≤ cell_words = omega (arith, ap length e) in
    let r' : r ≡ q + 1 = er ∙ reached_fits o₂ q (10 ∷ []) (omega arith) in
    let first = goes_put (line ws) (line ws) out at out at (goes_start (line ws) out at)
    (λ t. fields vs (10 ∷ t)) (decimal w) o₁ p
    (λ t. ap (λ (l : List ℕ). line l t) e ∙ line_first w vs t) (omega arith) ep e₁ in
    let second = goes_form (line ws) (λ t. fields vs (10 ∷ t)) out at o₁ p first
    (λ t. 10 ∷ t) (fields vs) _ o₂ q (λ t. refl) f in
    goes_done (line ws) line_room out at o₃ r
    (goes_put (line ws) (λ t. 10 ∷ t) out at o₂ q second (λ t. t) (10 ∷ []) o₃ r (λ t. refl)
    (omega arith) er e₃)
    (omega arith)

-- the lines of the locations whose words are left
abbrev pub lines_of : List ℕ → List ℕ → List ℕ
lines_of ws t = lines (length ws / cell_words) ws

lines_first : (row rest : List ℕ) → length row ≡ cell_words → (t : List ℕ)
    → lines_of (row ++ rest) t ≡ line (trim row) (lines_of rest t)
unfolding print_lines rows
lines_first row rest h t =
    let z : length (row ++ rest) / cell_words ≡ suc (length rest / cell_words) =
    omega (arith, length-append row rest) in
    rw (z, ← h, take-append_seam row rest, drop-append_seam row rest)

pub lines_goes : (whole : List ℕ → List ℕ) (ws row rest out : List ℕ) (at : ℕ) (now : List ℕ) (p : ℕ) (now' : List ℕ)
    (p' : ℕ)
    → Goes whole (lines_of ws) out at now p → ws ≡ row ++ rest → length row ≡ cell_words
    → Puts (line (trim row)) line_room now p now' p'
    → Goes whole (lines_of rest) out at now' p'
lines_goes whole ws row rest out at now p now' p' g e h f =
    goes_form whole (lines_of ws) out at now p g (lines_of rest) (line (trim row)) line_room now' p'
    (λ t. rw e (lines_first row rest h t)) f

-- all lines are written
lines_end : (ws : List ℕ) → length ws < cell_words → lines_of ws [] ≡ []
unfolding print_lines rows
lines_end ws h = let z : length ws / cell_words ≡ 0 = omega arith in rw z

pub lines_done : (ws rest out now : List ℕ) (p : ℕ) → Goes (lines_of ws) (lines_of rest) out 0 now p
    → length rest < cell_words
    → (p ≡ length (memory_text ws)) × (now ≡ sets out 0 (memory_text ws))
unfolding memory_text
lines_done ws rest out now p g h =
    let e = lines_end rest h in
    (omega (arith, g.reach [], ap length e), sym (g.bytes [] ∙ ap (sets now p) e))

-- whether anything is written
module _ (ws out : List ℕ) where
  pub printed_all : length ws % cell_words ≡ 0 → length ws / cell_words ≤ length out / line_room
      → (printed_length ws out ≡ length (memory_text ws)) × (printed ws out ≡ sets out 0 (memory_text ws))
  unfolding printed_length printed both
  printed_all h l = rw (eq-eqb _ _ h, le-leb _ _ l) (refl, refl)

  pub printed_part : (length ws % cell_words ≡ 0 → ⊥) → (printed_length ws out ≡ 0) × (printed ws out ≡ out)
  unfolding printed_length printed both
  printed_part h = rw (ne_eqb _ _ h) (refl, refl)

  pub printed_small : length ws % cell_words ≡ 0 → length out / line_room < length ws / cell_words
      → (printed_length ws out ≡ 0) × (printed ws out ≡ out)
  unfolding printed_length printed both
  printed_small h l = rw (eq-eqb _ _ h, lt-leb _ _ l) (refl, refl)

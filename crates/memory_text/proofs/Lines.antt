-- A location is read exactly where its line stands.
use Prim.Native.Nat.{ℕ, zero, suc, ◌+◌, ◌*◌, ◌≤◌}
use native.Mathlib.Omega.{arith}
use mathlib.Core.Path.{◌≡◌, refl, sym, ap, ◌∙◌}
use mathlib.Core.Bool.{false}
use mathlib.Core.List.{List, [], ◌∷◌, ◌++◌, append_assoc}
use lib.ListN.{length, replicate, length-append}
use lib.Dec.{eqb}
use borrow.Author.Tests.{eq-eqb, ne_eqb, eqb-true, eqb-false}
use Rattle.text.specs.Reading.{Read, and_then}
use Rattle.text.specs.Reading.Read.{got, bad}
use Rattle.text.specs.Number.{opens_digit, number, decimal, most}
use Rattle.text.specs.Field.{line_end}
use Rattle.text.specs.Lines.{LineForm}
use Rattle.logic.proofs.BooleanLaws.{cond_split}
use Rattle.text.proofs.Readings.{not_bad, got_same, and_then-got, and_then-bad, and_then_split, byte_here, byte_none}
use Rattle.text.proofs.Readings.{byte-sound}
use Rattle.text.proofs.Numbers.{digit_low, opens_none, opens_byte, number_none, byte-digit}
use Rattle.text.proofs.Decimals.{number-sound, number_print, opens_decimal}
use Rattle.text.proofs.Writings.{length-decimal}
use Rattle.language.specs.World.{cell_words}
use Rattle.memory_text.specs.Sizes.{word_room, line_room}
use Rattle.memory_text.specs.Printing.{cons_trimmed, trim, fields, line, row_line}
use Rattle.sheet.specs.Padding.{padded}
use Rattle.sheet.proofs.Words.{length-padded}
use Rattle.memory_text.specs.Reading.{following, words, blank_or, filled_line, location}
use Rattle.memory_text.specs.Theorems.{Words}
use Rattle.memory_text.proofs.Trimming as trimming

-- the cases of `following`: the end of the line, a zero before it, a tab, anything else
module _ (v : ℕ) (more : List ℕ → Read (List ℕ)) where
  pub following_none : following v [] more ≡ bad
  unfolding following
  following_none = refl

  module _ (c : ℕ) (t : List ℕ) where
    pub following-zero : c ≡ 10 → v ≡ 0 → following v (c ∷ t) more ≡ bad
    unfolding following
    following-zero h z = rw (eq-eqb c 10 h, eq-eqb v 0 z)

    pub following_end : c ≡ 10 → (v ≡ 0 → ⊥) → following v (c ∷ t) more ≡ got (v ∷ []) t
    unfolding following
    following_end h z = rw (eq-eqb c 10 h, ne_eqb v 0 z)

    pub following-tab : c ≡ 9 → following v (c ∷ t) more ≡ and_then (more t) (λ vs u. got (v ∷ vs) u)
    unfolding following
    following-tab h = rw (ne_eqb c 10 (λ z. omega arith), eq-eqb c 9 h)

    pub following_other : (c ≡ 10 → ⊥) → (c ≡ 9 → ⊥) → following v (c ∷ t) more ≡ bad
    unfolding following
    following_other h k = rw (ne_eqb c 10 h, ne_eqb c 9 k)

  -- where words are read, the line ends after v or goes on
  following_split : {P : Type 0} (t vs u : List ℕ)
      → (t ≡ 10 ∷ u → (v ≡ 0 → ⊥) → v ∷ [] ≡ vs → P)
      → ((w ws : List ℕ) → t ≡ 9 ∷ w → more w ≡ got ws u → v ∷ ws ≡ vs → P)
      → following v t more ≡ got vs u → P
  unfolding following
  following_split [] vs u f g e = not_bad vs u e
  following_split (c ∷ t) vs u f g e =
      cond_split (eqb c 10) _ _ _
      (λ p. cond_split (eqb v 0) _ _ _ (λ q x. not_bad vs u x)
      (λ q x. let z = got_same (v ∷ []) vs t u x in
      let y : c ≡ 10 = eqb-true _ _ p in
      f (rw (y, z.1)) (eqb-false _ _ q) z.0))
      (λ p. cond_split (eqb c 9) _ _ _
      (λ q. and_then_split (more t) _ vs u
      (λ ws r x h. let z = got_same (v ∷ ws) vs r u h in
      let y : c ≡ 9 = eqb-true _ _ q in
      g t ws (rw y) (x ∙ ap (got ws) z.1) z.0))
      (λ q x. not_bad vs u x)) e

-- the cases of `words`
pub words_none : (t : List ℕ) → words zero t ≡ bad
unfolding words
words_none t = refl

module _ (k : ℕ) (t : List ℕ) where
  pub words_on : (v : ℕ) (u : List ℕ) → number most t ≡ got v u → words (suc k) t ≡ following v u (λ w. words k w)
  unfolding words
  words_on v u e = and_then-got _ _ v u e

  pub words_bad : number most t ≡ bad → words (suc k) t ≡ bad
  unfolding words
  words_bad e = and_then-bad _ _ e

-- the fields after the first are a tab and a line
fields-line : (v : ℕ) (vs t : List ℕ) → fields (v ∷ vs) (10 ∷ t) ≡ 9 ∷ line (v ∷ vs) t
unfolding fields line
fields-line v vs t = refl

fields_end : (t : List ℕ) → fields [] (10 ∷ t) ≡ 10 ∷ t
unfolding fields
fields_end t = refl

-- no digit follows a word
fields_open : (vs t : List ℕ) → opens_digit (fields vs (10 ∷ t)) ≡ false
unfolding fields
fields_open [] t = opens_byte 10 t ∙ digit_low 10 (omega arith)
fields_open (v ∷ vs) t = opens_byte 9 _ ∙ digit_low 9 (omega arith)

-- words that are read are at least one, in range, not zero at the end, and printed there
pub record Line (k : ℕ) (t vs u : List ℕ) : Type 0 where
  pub text : t ≡ line vs u
  pub not_empty : 1 ≤ length vs
  pub few : length vs ≤ k
  pub in_range : Words vs
  pub kept : trim vs ≡ vs

line_one : (k v : ℕ) (t u : List ℕ) → t ≡ decimal v ++ (10 ∷ u) → v ≤ most → (v ≡ 0 → ⊥) → Line (suc k) t (v ∷ []) u
unfolding line fields trim Words
line_one k v t u e h z =
    record { text = e; not_empty = omega arith; few = omega arith; in_range = (h, tt); kept = trimming.keep_last v z }

line_more : (k v : ℕ) (t w vs u : List ℕ) → t ≡ decimal v ++ (9 ∷ w) → v ≤ most → Line k w vs u
    → Line (suc k) t (v ∷ vs) u
line_more k v t w [] u e h l = let x : 1 ≤ 0 = l.not_empty in absurd (omega arith)
line_more k v t w (x ∷ vs) u e h l = record {
  text = e ∙ rw l.text (unfold line in (rw (fields-line x vs u)));
  not_empty = omega arith;
  few = let y : suc (length vs) ≤ k = l.few in omega arith;
  in_range = unfold Words in (h, l.in_range);
  kept = unfold trim in (ap (cons_trimmed v) l.kept ∙ trimming.keep_more v x vs);
}

pub words_sound : (k : ℕ) (t vs u : List ℕ) → words k t ≡ got vs u → Line k t vs u
unfolding words
words_sound zero t vs u e = not_bad vs u e
words_sound (suc k) t vs u e =
    and_then_split (number most t) _ vs u
    (λ v r f.
    let n = number-sound most t v r f in
    following_split v _ r vs u
    (λ x z y. rw (← y) (line_one k v t u (n.0 ∙ ap (λ (l : List ℕ). decimal v ++ l) x) n.1 z))
    (λ w ws x g y.
    rw (← y) (line_more k v t w ws u (n.0 ∙ ap (λ (l : List ℕ). decimal v ++ l) x) n.1 (words_sound k w ws u g)))) e

-- the first word of a line
number-line : (v : ℕ) (vs u : List ℕ) → v ≤ most → number most (line (v ∷ vs) u) ≡ got v (fields vs (10 ∷ u))
unfolding line
number-line v vs u h = number_print most v (fields vs (10 ∷ u)) h (fields_open vs u)

-- words that are printed are read
pub words_print : (k v : ℕ) (vs u : List ℕ) → length (v ∷ vs) ≤ k → Words (v ∷ vs) → trim (v ∷ vs) ≡ v ∷ vs
    → words k (line (v ∷ vs) u) ≡ got (v ∷ vs) u
unfolding Words
words_print zero v vs u h r e = absurd (omega arith)
words_print (suc k) v [] u h r e =
    words_on k (line (v ∷ []) u) v (10 ∷ u) (number-line v [] u r.0 ∙ ap (got v) (fields_end u))
    ∙ following_end v _ 10 u refl (trimming.trim_single v e)
words_print (suc k) v (w ∷ vs) u h r e =
    words_on k (line (v ∷ w ∷ vs) u) v (9 ∷ line (w ∷ vs) u)
    (number-line v (w ∷ vs) u r.0 ∙ ap (got v) (fields-line w vs u))
    ∙ following-tab v _ 9 (line (w ∷ vs) u) refl
    ∙ and_then-got _ _ (w ∷ vs) u (words_print k w vs u (omega arith) r.1 (trimming.trim_tail v w vs e))

-- the cases of `location`: an empty line, a line of words, no line
module _ (t : List ℕ) where
  pub location-blank : (u : List ℕ) → line_end t ≡ got tt u → location t ≡ got (replicate cell_words 0) u
  unfolding location blank_or
  location-blank u e = rw e

  pub location_words_lem : line_end t ≡ bad → location t ≡ filled_line t
  unfolding location blank_or
  location_words_lem e = rw e

pub location_none : location [] ≡ bad
unfolding filled_line
location_none =
    location_words_lem [] (byte_none 10) ∙ and_then-bad _ _ (words_bad 15 [] (number_none most [] opens_none))

-- an empty line, and a line of words that is not empty
line-blank : (u : List ℕ) → line_end (line [] u) ≡ got tt u
unfolding line
line-blank u = byte_here 10 10 u refl

line_words : (v : ℕ) (vs u : List ℕ) → line_end (line (v ∷ vs) u) ≡ bad
unfolding line
line_words v vs u = byte-digit 10 _ (digit_low 10 (omega arith)) (opens_decimal v (fields vs (10 ∷ u)))

-- a location that is read has 16 words in range, and its line stands there
pub location-sound : (t row u : List ℕ) → location t ≡ got row u
    → (t ≡ line (trim row) u) × (length row ≡ cell_words) × Words row
unfolding trim filled_line
location-sound t row u e = go (line_end t) refl
  where
    go : (x : Read Unit) → line_end t ≡ x → (t ≡ line (trim row) u) × (length row ≡ cell_words) × Words row
    go (got z r) f =
        let y = got_same (replicate cell_words 0) row r u (sym (location-blank t r f) ∙ e) in
        let n : trim (replicate cell_words 0) ≡ [] = trimming.trim-zeros [] cell_words in
        rw (← y.0, ← y.1, n) (unfold line in (byte-sound 10 t r z f), refl, trimming.words_zeros cell_words)
    go bad f =
        and_then_split (words cell_words t) _ row u
        (λ vs r g h.
        let y = got_same (padded cell_words vs) row r u h in
        let l = words_sound cell_words t vs r g in
        rw (← y.0, ← y.1, trimming.trim-padded cell_words vs, l.kept)
        (l.text, length-padded cell_words vs l.few, trimming.words_padded cell_words vs l.in_range))
        (sym (location_words_lem t f) ∙ e)

pub location_print : (row u : List ℕ) → length row ≡ cell_words → Words row → location (line (trim row) u) ≡ got row u
unfolding padded filled_line
location_print row u n h = go (trim row) refl
  where
    go : (vs : List ℕ) → trim row ≡ vs → location (line vs u) ≡ got row u
    go [] e =
        let y : padded cell_words [] ≡ row = ap (padded cell_words) (sym e) ∙ trimming.padded-trim row cell_words n in
        location-blank (line [] u) u (line-blank u) ∙ ap (λ (l : List ℕ). got l u) y
    go (v ∷ vs) e =
        let k : trim (v ∷ vs) ≡ v ∷ vs = rw (← e) (trimming.trim-trim row) in
        let w : Words (v ∷ vs) = rw (← e) (trimming.words_trim row h) in
        let l : length (v ∷ vs) ≤ cell_words = omega (arith, trimming.length-trim row, ap length e) in
        location_words_lem (line (v ∷ vs) u) (line_words v vs u)
        ∙ and_then-got _ _ (v ∷ vs) u (words_print cell_words v vs u l w k)
        ∙ ap (λ (l : List ℕ). got l u) (ap (padded cell_words) (sym e) ∙ trimming.padded-trim row cell_words n)

-- a line of words takes at most `word_room` bytes for each word
length_fields : (vs t : List ℕ) → Words vs → length (fields vs t) ≤ word_room * length vs + length t
unfolding fields Words
length_fields [] t h = omega arith
length_fields (v ∷ vs) t h =
    omega (arith, length-append (decimal v) (fields vs t), length-decimal v h.0, length_fields vs t h.1)

pub length-line : (vs t : List ℕ) → Words vs → length vs ≤ cell_words → length (line vs t) ≤ line_room + length t
unfolding line Words
length-line [] t h l = omega arith
length-line (v ∷ vs) t h l =
    omega (
      arith,
      length-append (decimal v) (fields vs (10 ∷ t)),
      length-decimal v h.0,
      length_fields vs (10 ∷ t) h.1,
    )

-- ---- the form of lines

-- a line's bytes come before what follows it
fields-ahead : (vs t u : List ℕ) → fields vs (t ++ u) ≡ fields vs t ++ u
unfolding fields
fields-ahead [] t u = refl
fields-ahead (v ∷ vs) t u = ap (λ (l : List ℕ). 9 ∷ (decimal v ++ l)) (fields-ahead vs t u)
    ∙ ap (◌∷◌ 9) (sym (append_assoc (decimal v) (fields vs t) u))

line-ahead : (vs u : List ℕ) → line vs u ≡ line vs [] ++ u
unfolding line
line-ahead [] u = refl
line-ahead (v ∷ vs) u =
    ap (λ (l : List ℕ). decimal v ++ l) (fields-ahead vs (10 ∷ []) u)
    ∙ sym (append_assoc (decimal v) (fields vs (10 ∷ [])) u)

-- 16 words, each in range
abbrev pub Row : List ℕ → Type 0
Row row = (length row ≡ cell_words) × Words row

-- each location is read exactly where its line stands
pub memory-lines : LineForm location row_line Row
memory-lines = record {
  exact = λ t row u. (
    λ e. let r = location-sound t row u e in (r.0, (r.1, r.2)),
    λ r. ap location r.0 ∙ location_print row u r.1.0 r.1.1,
  );
  no_end = location_none;
  ahead = λ row u. line-ahead (trim row) u;
}

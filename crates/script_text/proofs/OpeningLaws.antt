-- An opening is read exactly where its printed form stands; and what the code answers to it.
use mathlib.Core.Path.{◌≡◌, refl, sym, ap, ◌∙◌}
use mathlib.Core.Bool.{Bool, true, false}
use mathlib.Core.List.{List, [], ◌∷◌, ◌++◌, append_assoc}
use mathlib.Core.Option.{Option, none, some}
use Prim.Native.Nat.{ℕ, ◌-◌, ◌≤◌, ◌<◌}
use native.Mathlib.Omega.{arith}
use lib.Dec.{eqb}
use lib.ListN.{length, drop, get_or}
use borrow.Author.Tests.{eqb-true, eq-eqb, ne_eqb}
use Rattle.std.specs.Prelude.{Option as Optional, Some, None, option_map, is_some}
use mir.Val.{bool_byte}
use Rattle.text.specs.Reading.{Read, and_then, fits}
use Rattle.text.specs.Reading.Read.{got}
use Rattle.text.specs.Number.{decimal}
use Rattle.text.specs.Field.{last_number}
use Rattle.text.specs.Lines.{lines_up_to, print_lines}
use Rattle.text.specs.Internal.Place.{placed}
use Rattle.text.proofs.Readings.{drop-step, got_same, and_then-got, and_then_split, IsEnd, ends_print}
use Rattle.text.proofs.Places.{Within, placed_got, placed_at, placed-bad, placed_map}
use Rattle.text.proofs.Fields.{last_number-sound, last_number_print}
use Rattle.logic.proofs.BooleanLaws.{cond_split}
use Rattle.logic.proofs.OptionLaws.{none_some, some_path}
use Rattle.language.specs.Syntax.{Cmd, skip, seq, assign, while, case, Opening}
use Rattle.script.specs.Lines.{ScriptLine, cmd_lines, start_lines, opening_lines}
use Rattle.script.specs.Names.{max_lines}
use Rattle.script_text.specs.Bytes.{line_bytes, lines_bytes, start_bytes, opening_bytes}
use Rattle.script_text.specs.Reading.{line_of, last_label, start_read, opening_of, written_with, lines_after}
use Rattle.script_text.specs.Reading.{written_of}
use Rattle.script_text.specs.Internal.Decoded.{started_at, coded, coded_lines, coded_text}
use Rattle.script_text.specs.Internal.Placed.{placed_opening}
use Rattle.script_text.proofs.FoundLaws.{map_map, map_some, map_none}

-- a start that some sheet has
abbrev pub Low : Option ℕ → Type 0
Low none = Unit {0}
Low (some l) = l ≤ last_label

-- an opening takes no more lines than a script may have
pub opening-few : (o : Opening) → opening_lines o ≤ max_lines
opening-few o = go o.start
  where
    go : (x : Option ℕ) → start_lines x ≤ max_lines
    go none = unfold start_lines in omega arith
    go (some l) = unfold start_lines in omega arith

-- ---- reading

-- the text is as it was, or an opening line stands before the rest
unstarted : (t : List ℕ) (x : Option ℕ) (u : List ℕ) → got none t ≡ got x u → (t ≡ start_bytes x u) × Low x
unfolding start_bytes
unstarted t none u e = ((got_same none none t u e).1, tt)
unstarted t (some l) u e = none_some (got_same none (some l) t u e).0

started : (l : ℕ) (t w : List ℕ) → last_number last_label t ≡ got l w → (x : Option ℕ) (u : List ℕ)
    → got (some l) w ≡ got x u
    → (98 ∷ t ≡ start_bytes x u) × Low x
unfolding start_bytes
started l t w g none u e = none_some (sym (got_same (some l) none w u e).0)
started l t w g (some m) u e =
    let z = got_same (some l) (some m) w u e in
    let r = last_number-sound last_label t l w g in
    rw (← some_path z.0, ← z.1) (ap (◌∷◌ 98) r.0, r.1)

start_sound : (t : List ℕ) (x : Option ℕ) (u : List ℕ) → start_read t ≡ got x u → (t ≡ start_bytes x u) × Low x
unfolding start_read
start_sound [] x u e = unstarted [] x u e
start_sound (b ∷ t) x u e =
    cond_split (eqb b 98) _ _ _
    (λ h f.
    let y : b ≡ 98 = eqb-true b 98 h in
    and_then_split (last_number last_label t) _ x u (λ l w g k. rw y (started l t w g x u k)) f)
    (λ h f. unstarted (b ∷ t) x u f) e

pub opening-sound : (t : List ℕ) (o : Opening) (u : List ℕ) → opening_of t ≡ got o u
    → (t ≡ opening_bytes o u) × Low o.start
unfolding opening_of
opening-sound t o u e =
    and_then_split (start_read t) _ o u
    (λ x w f g. let z = got_same (record { start = x }) o w u g in let r = start_sound t x w f in rw (← z.0, ← z.1) r)
    e

-- an opening line, or none where a command's lines follow
start_print : (x : Option ℕ) → Low x → (c : Cmd)
    → start_read (start_bytes x (lines_bytes (cmd_lines c []))) ≡ got x (lines_bytes (cmd_lines c []))
unfolding start_read start_bytes
start_print (some l) h c = and_then-got _ _ l _ (last_number_print last_label l _ h)
start_print none h skip = unfold cmd_lines print_lines line_bytes in refl
start_print none h (seq a b) = unfold cmd_lines print_lines line_bytes in refl
start_print none h (assign x e) = unfold cmd_lines print_lines line_bytes in refl
start_print none h (while e c) = unfold cmd_lines print_lines line_bytes in refl
start_print none h (case e a b) = unfold cmd_lines print_lines line_bytes in refl

pub opening_print : (o : Opening) → Low o.start → (c : Cmd)
    → opening_of (opening_bytes o (lines_bytes (cmd_lines c []))) ≡ got o (lines_bytes (cmd_lines c []))
unfolding opening_of
opening_print o h c = and_then-got _ _ o.start _ (start_print o.start h c)

-- ---- the code's answer

start_ends : (x : Option ℕ) (t u : List ℕ) → t ≡ start_bytes x u → IsEnd t u
unfolding start_bytes
start_ends none t u e = ends_print t [] u e
start_ends (some l) t u e =
    ends_print t (98 ∷ 9 ∷ (decimal l ++ (10 ∷ []))) u
    (e ∙ ap (λ (w : List ℕ). 98 ∷ 9 ∷ w) (sym (append_assoc (decimal l) (10 ∷ []) u)))

opening_within : (t : List ℕ) → Within t (opening_of t)
opening_within t o u e = start_ends o.start t u (opening-sound t o u e).0

-- what is read of a text by its first byte
empty_read : (s : List ℕ) → length s ≡ 0 → start_read s ≡ got none s
unfolding start_read
empty_read [] e = refl
empty_read (b ∷ t) e = absurd (omega arith)

other_read : {s t : List ℕ} {b : ℕ} → s ≡ b ∷ t → eqb b 98 ≡ false → start_read s ≡ got none s
unfolding start_read
other_read e h = rw (e, h)

start_read_lem : {s t : List ℕ} {b : ℕ} → s ≡ b ∷ t → eqb b 98 ≡ true
    → start_read s ≡ and_then (last_number last_label t) (λ l u. got (some l) u)
unfolding start_read
start_read_lem e h = rw (e, h)

module _ (s : List ℕ) where
  -- the answer, by that to the start
  placed-start : placed_opening s (opening_of s) ≡ option_map (λ r. (started_at r.0, r.1)) (placed s (start_read s))
  unfolding opening_of
  placed-start =
      ap (option_map (λ (r : Opening × ℕ). (started_at r.0.start, r.1)))
      (placed_map s (start_read s) (λ x. record { start = x }))
      ∙ map_map _ _ _

  no_start : start_read s ≡ got none s → placed_opening s (opening_of s) ≡ Some (None, 0)
  unfolding started_at
  no_start e =
      placed-start ∙ ap (option_map (λ (r : Option ℕ × ℕ). (started_at r.0, r.1)))
      (placed_got s (start_read s) none 0 e (omega arith))

  pub opening_empty : length s ≡ 0 → placed_opening s (opening_of s) ≡ Some (None, 0)
  opening_empty e = no_start (empty_read s e)

  module _ (n : 0 < length s) where
    front : s ≡ get_or s 0 0 ∷ drop 1 s
    front = drop-step s 0 n

    pub opening_other : (get_or s 0 0 ≡ 98 → ⊥) → placed_opening s (opening_of s) ≡ Some (None, 0)
    opening_other o = no_start (other_read front (ne_eqb _ _ o))

    pub opening_label : get_or s 0 0 ≡ 98
        → placed_opening s (opening_of s)
        ≡ option_map (λ r. (Some r.0, r.1)) (placed s (last_number last_label (drop 1 s)))
    unfolding started_at
    opening_label b =
        placed-start
        ∙ ap (λ (x : Read (Option ℕ)). option_map (λ (r : Option ℕ × ℕ). (started_at r.0, r.1)) (placed s x))
        (start_read_lem front (eq-eqb _ _ b))
        ∙ ap (option_map (λ (r : Option ℕ × ℕ). (started_at r.0, r.1)))
        (placed_map s (last_number last_label (drop 1 s)) (λ l. some l))
        ∙ map_map _ _ _

  -- ---- what follows from an answer

  -- how many lines an opening takes, by its answer
  lines_of_start : (x : Option ℕ) → start_lines x ≡ bool_byte (is_some (started_at x))
  unfolding start_lines started_at
  lines_of_start none = refl
  lines_of_start (some l) = refl

  -- the lines after an opening, with its start
  coded-after : (o : Opening) (ls : Option (List ScriptLine))
      → coded_text (written_with o ls)
      ≡ option_map (λ r. (record { count = r.0; start = started_at o.start }, r.1)) (coded_lines ls)
  unfolding coded_text coded_lines written_with coded
  coded-after o none = refl
  coded-after o (some ls) = refl

  module _ (fit : fits s ≡ true) where
    pub decode_after : (x : Optional ℕ) (p : ℕ) → Some (x, p) ≡ placed_opening s (opening_of s)
        → (b : Bool) → b ≡ is_some x → (n : ℕ) → n ≡ max_lines - bool_byte b
        → coded_text (written_of s)
        ≡ option_map (λ r. (record { count = r.0; start = x }, r.1)) (coded_lines (lines_up_to line_of n (drop p s)))
    unfolding written_of lines_after
    decode_after x p e b i n m =
        map_some (λ (r : Opening × ℕ). (started_at r.0.start, r.1)) (placed s (opening_of s)) (x, p) e (λ r g h.
        let a : started_at r.0.start ≡ x = sym (ap (λ (y : Optional ℕ × ℕ). y.0) h) in
        let q : r.1 ≡ p = sym (ap (λ (y : Optional ℕ × ℕ). y.1) h) in
        let y = placed_at s 0 (opening_of s) (opening_within s) r.0 r.1 g in
        let c : max_lines - opening_lines r.0 ≡ n = rw (lines_of_start r.0.start, a, m, i) refl in
        rw (fit, y.0) (coded-after r.0 _ ∙ rw (a, q, c) refl))

    pub decode_refused : None ≡ placed_opening s (opening_of s) → coded_text (written_of s) ≡ None
    unfolding written_of lines_after coded_text
    decode_refused e = rw (fit, placed-bad s 0 (opening_of s) (map_none _ _ e))

-- a text that is too long
pub decode_long : (s : List ℕ) → fits s ≡ false → coded_text (written_of s) ≡ None
unfolding written_of coded_text
decode_long s h = rw h

-- Laws of storing a masked value's words, by the first word.
use mathlib.Core.Path.{◌≡◌, refl, sym, ap, ◌∙◌}
use mathlib.Core.Bool.{Bool, true, false}
use mathlib.Core.List.{List, [], ◌∷◌}
use Prim.Native.Nat.{ℕ, suc, ◌+◌, ◌*◌, ◌-◌, ◌≤◌, ◌<◌}
use native.Mathlib.Omega.{arith}
use native.Mathlib.Numerals.{add-one}
use lib.ListN.{length, get_or, set, drop, length-drop}
use lib.Seq.{sets}
use Rattle.sets.proofs.Walks.{sets_append}
use Rattle.language.specs.Syntax.{Head, head_size, Value, pkg, pair, blank, size}
use Rattle.language.specs.View.{seen, mask}
use Rattle.memory.specs.Words.{Got, head_words, enc, wrap, numbered, head_at, packaged, paired, read_of, value_of}
use Rattle.memory.specs.declared.masks.Cell.{Cell}
use Rattle.memory.specs.Internal.Post.{Walks, Masks, Numeral, num_int, num_err, Opened}
use Rattle.memory.proofs.HeadLaws.{head_sets}
use Rattle.memory.proofs.WordLaws.{size_pos, length-enc, enc-append, Side, to_left, to_right, Other, read_size}
use Rattle.memory.proofs.PlaceLaws.{here, past, at_past, at_numeral, at_side, at_package, at_pair, at_none}
use Rattle.memory.proofs.PlaceLaws.{headed, headless}
use Rattle.memory.proofs.ViewLaws.{mask_size}

-- a value's words stored, and others after them
enc_sets : (v : Value) (out : List ℕ) (to : ℕ) (ws : List ℕ)
    → sets (sets out to (enc v [])) (to + size v) ws ≡ sets out to (enc v ws)
enc_sets v out to ws =
    let n : size v ≡ length (enc v []) = omega (arith, length-enc v []) in
    rw n (sym (sets_append out to (enc v []) ws) ∙ ap (sets out to) (enc-append v [] ws))

module _ (shows : ℕ → Bool) (ws out : List ℕ) (to : ℕ) {left : List ℕ} {next end : ℕ} where
  read_as : {g got : Got} → g ≡ got → Masks shows ws got out to left next end → Masks shows ws g out to left next end
  read_as e m = rw e m

  -- ---- by what is read

  -- one zero word
  none : {g : Got} {us : List ℕ} → g ≡ (blank, us) → drop next ws ≡ us → left ≡ set out to 0 → end ≡ to + 1
      → Masks shows ws g out to left next end
  unfolding mask enc size
  none e d s n = rw e (record { stored = s; ends = n; after = d })

  numeral : {w i : ℕ} (f : ℕ → Value) (us : List ℕ) → Numeral w f → left ≡ set (set out to w) (to + 1) i
      → drop next ws ≡ us → end ≡ to + 1 + 1
      → Masks shows ws (f i, us) out to left next end
  unfolding mask enc size
  numeral f us num_int s d n = record { stored = s ∙ rw add-one refl; ends = omega arith; after = d }
  numeral f us num_err s d n = record { stored = s ∙ rw add-one refl; ends = omega arith; after = d }

  on_side : {w : ℕ} {f : Value → Value} {got : Got} {mid : List ℕ} → Side w f → mid ≡ set out to w
      → Masks shows ws got mid (to + 1) left next end
      → Masks shows ws (wrap f got) out to left next end
  unfolding mask enc size wrap
  on_side to_left s m =
      record { stored = m.stored ∙ rw (s, add-one) refl; ends = omega (arith, m.ends); after = m.after }
  on_side to_right s m =
      record { stored = m.stored ∙ rw (s, add-one) refl; ends = omega (arith, m.ends); after = m.after }

  -- a package: its first word, its head, and what is seen of its content
  shown : {got : Got} {mid : List ℕ} (h : Head) → shows h.label ≡ true
      → mid ≡ sets (set out to 5) (to + 1) (head_words h [])
      → Masks shows ws got mid (to + 1 + head_size) left next end
      → Masks shows ws (wrap (pkg h) got) out to left next end
  unfolding mask enc size wrap seen
  shown {got} h s e m =
      record {
        stored = m.stored
            ∙ rw (e, s) (head_sets h (set out to 5) (to + 1) (enc (mask shows got.0) []) ∙ rw add-one refl);
        ends = rw s (omega (arith, m.ends));
        after = m.after;
      }

  hidden : (got : Got) (h : Head) → shows h.label ≡ false
      → left ≡ set (sets (set out to 5) (to + 1) (head_words h [])) (to + 1 + head_size) 0
      → end ≡ to + 1 + head_size + 1 → drop next ws ≡ got.1 → Masks shows ws (wrap (pkg h) got) out to left next end
  unfolding mask enc size wrap seen
  hidden got h s e n d =
      record {
        stored = e ∙ rw s (head_sets h (set out to 5) (to + 1) (0 ∷ []) ∙ rw add-one refl);
        ends = rw s (omega arith);
        after = d;
      }

  -- a pair: its first word, its first part, and its second part after that
  in_pair : {g k : Got} {mid half : List ℕ} {next' end' : ℕ} → mid ≡ set out to 6
      → Masks shows ws g mid (to + 1) half next' end'
      → Masks shows ws k half end' left next end → Masks shows ws (wrap (pair g.0) k) out to left next end
  unfolding mask enc size wrap
  in_pair {g} {k} s m n =
      record {
        stored = n.stored ∙ rw (m.stored, m.ends, s, add-one)
            (enc_sets (mask shows g.0) (set out to 6) (suc to) (enc (mask shows k.0) []));
        ends = omega (arith, m.ends, n.ends);
        after = n.after;
      }

  -- ---- by the word at a place

  module _ (at : ℕ) where
    -- a number
    pub mask-number : {mid : List ℕ} (f : ℕ → Value) → Numeral (get_or ws at 0) f → at + 1 < length ws
        → mid ≡ set out to (get_or ws at 0)
        → left ≡ set mid (to + 1) (get_or ws (at + 1) 0) → next ≡ at + 1 + 1 → end ≡ to + 1 + 1
        → Masks shows ws (numbered f (drop (at + 1) ws)) out to left next end
    unfolding numbered
    mask-number f k h e s d n =
        rw (here ws (at + 1) _ h refl)
        (numeral f _ k (s ∙ ap (λ (l : List ℕ). set l (to + 1) (get_or ws (at + 1) 0)) e)
        (ap (λ (j : ℕ). drop j ws) d) n)

    pub mask_no_number : (f : ℕ → Value) → length ws ≤ at → left ≡ set out to 0 → next ≡ at → end ≡ to + 1
        → Masks shows ws (numbered f (drop at ws)) out to left next end
    unfolding numbered
    mask_no_number f h s d n = none (rw (past ws at h) refl) (ap (λ (j : ℕ). drop j ws) d ∙ past ws at h) s n

    -- the head of a package
    pub package-past : length ws ≤ at → left ≡ set out to 0 → next ≡ at → end ≡ to + 1
        → Masks shows ws (packaged read_of (drop at ws)) out to left next end
    package-past h s d n = none (headless ws at h) (ap (λ (j : ℕ). drop j ws) d ∙ past ws at h) s n

    pub package-hidden : {mid mid' : List ℕ} {labels : ℕ} {ok : Bool} → at + head_size ≤ length ws
        → shows (get_or ws at 0) ≡ false → mid ≡ set out to 5
        → mid' ≡ set mid (to + 1) (get_or ws at 0) → left ≡ set mid' (to + 1 + head_size) 0
        → end ≡ to + 1 + head_size + 1
        → Walks labels ws (at + head_size) (read_of (drop (at + head_size) ws)) ok next
        → Masks shows ws (packaged read_of (drop at ws)) out to left next end
    unfolding head_words head_at
    package-hidden h s e e' k n w =
        read_as (headed ws at h) (hidden _ (head_at ws at) s (k ∙ rw (e', e) refl) n w.after)

    -- how far both places move: no more is left to read, and for each word that was read two at most are
    -- stored, and one more
    module _ (m : Masks shows ws (read_of (drop at ws)) out to left next end) where
      left_over : length ws - next ≡ length (read_of (drop at ws)).1
      left_over = sym (length-drop next ws) ∙ ap length m.after

      reads_on : length ws - next ≤ length ws - at
      reads_on = omega (arith, left_over, read_size (drop at ws), size_pos (value_of (drop at ws)), length-drop at ws)

      stores-on : end + 2 * (length ws - next) ≤ to + 2 * (length ws - at) + 1
      stores-on = omega
          (arith, left_over, read_size (drop at ws), mask_size shows (value_of (drop at ws)), m.ends, length-drop at ws)

    -- a value
    pub mask_past : length ws ≤ at → left ≡ set out to 0 → next ≡ at → end ≡ to + 1
        → Masks shows ws (read_of (drop at ws)) out to left next end
    mask_past h s d n = none (at_past ws at h) (ap (λ (j : ℕ). drop j ws) d ∙ past ws at h) s n

    module _ (h : at < length ws) where
      pub mask-numeral : {w : ℕ} {f : ℕ → Value} → Numeral w f → get_or ws at 0 ≡ w
          → ((f : ℕ → Value) → Numeral (get_or ws at 0) f
          → Masks shows ws (numbered f (drop (at + 1) ws)) out to left next end)
          → Masks shows ws (read_of (drop at ws)) out to left next end
      mask-numeral k e m = read_as (at_numeral ws at h k e) (m _ (rw e k))

      pub mask-side : {w : ℕ} {f : Value → Value} {mid : List ℕ} → Side w f → get_or ws at 0 ≡ w → mid ≡ set out to w
          → Masks shows ws (read_of (drop (at + 1) ws)) mid (to + 1) left next end
          → Masks shows ws (read_of (drop at ws)) out to left next end
      mask-side k e s m = read_as (at_side ws at h k e) (on_side k s m)

      mask-pair : {mid half : List ℕ} {next' end' : ℕ} → get_or ws at 0 ≡ 6 → mid ≡ set out to 6
          → Masks shows ws (read_of (drop (at + 1) ws)) mid (to + 1) half next' end'
          → Masks shows ws (read_of (drop next' ws)) half end' left next end
          → Masks shows ws (read_of (drop at ws)) out to left next end
      unfolding paired
      mask-pair e s m n = read_as (at_pair ws at h e) (in_pair s m (rw m.after at n))

      pub mask_none : Other (get_or ws at 0) → left ≡ set out to 0 → next ≡ at + 1 → end ≡ to + 1
          → Masks shows ws (read_of (drop at ws)) out to left next end
      mask_none o s d n = none (at_none ws at h o) (ap (λ (j : ℕ). drop j ws) d) s n

-- a package that is shown, whose head's words are stored
pub package-shown : (shows : ℕ → Bool) (ws out : List ℕ) (to at : ℕ) {left mid : List ℕ} {end : ℕ}
    → at + head_size ≤ length ws → shows (get_or ws at 0) ≡ true → mid ≡ set out to 5
    → left ≡ set mid (to + 1) (get_or ws at 0) → end ≡ to + 1 + head_size → Opened shows ws at out to left end
unfolding head_words head_at
package-shown shows ws out to at h s e k n =
    record {
      head = k ∙ ap (λ (l : List ℕ). set l (to + 1) (get_or ws at 0)) e;
      place = n;
      content = headed ws at h;
      seen = s;
    }

-- a package, whose head's words were stored first
module _ (shows : ℕ → Bool) (ws out : List ℕ) (to at : ℕ) (h : at < length ws) (k : get_or ws at 0 ≡ 5)
    {mid : List ℕ} {e : ℕ} where
  pub mask_open : {left : List ℕ} {next end : ℕ} → Opened shows ws (at + 1) out to mid e
      → Masks shows ws (read_of (drop (at + 1 + head_size) ws)) mid e left next end
      → Masks shows ws (read_of (drop at ws)) out to left next end
  mask_open o m = read_as shows ws out to (at_package ws at h k ∙ o.content)
      (shown shows ws out to (head_at ws (at + 1)) o.seen o.head (rw o.place at m))

  pub mask-closed : {n : ℕ} → Masks shows ws (packaged read_of (drop (at + 1) ws)) out to mid n e
      → Masks shows ws (read_of (drop at ws)) out to mid n e
  mask-closed m = read_as shows ws out to (at_package ws at h k) m

-- ---- the last part of a value

-- The rest of the value that starts at `at` is its last part, which starts at `next` and is to be stored in `mid`
-- from `end` on.
pub record Last (shows : ℕ → Bool) (ws : List ℕ) (at : ℕ) (out : List ℕ) (to : ℕ) (mid : List ℕ)
    (next end : ℕ) : Type 0 where
  pub later : length ws - next < length ws - at
  pub room : end + 2 * (length ws - next) ≤ to + 2 * (length ws - at)
  pub whole : (left : List ℕ) (i j : ℕ) → Masks shows ws (read_of (drop next ws)) mid end left i j
      → Masks shows ws (read_of (drop at ws)) out to left i j

-- What was stored leaves `cell`, and the last part starts at `next`.
module _ (shows : ℕ → Bool) (ws out : List ℕ) (to at : ℕ) (h : at < length ws) {cell left : Cell} {next start : ℕ}
    (s : cell ≡ left) (z : next ≡ start) where
  abbrev Rest : Type 0
  Rest = Last shows ws at out to cell.words next cell.end

  as_left : Last shows ws at out to left.words start left.end → Rest
  as_left l = rw (s, z) l

  pub last_side : {w : ℕ} {f : Value → Value} → Side w f → get_or ws at 0 ≡ w → start ≡ at + 1
      → left.words ≡ set out to w → left.end ≡ to + 1 → Rest
  last_side k e b p n = as_left (record {
    later = omega arith;
    room = omega arith;
    whole = λ l i j m. mask-side shows ws out to at h k e p (rw (b, n) at m);
  })

  -- the content of a package that is shown
  pub last_content : get_or ws at 0 ≡ 5 → start ≡ at + 1 + head_size
      → Opened shows ws (at + 1) out to left.words left.end → Rest
  last_content k b o = as_left (record {
    later = omega arith;
    room = omega (arith, o.place);
    whole = λ l i j m. mask_open shows ws out to at h k o (rw b at m);
  })

  -- the second part of a pair
  pub last_second : {half : List ℕ} {first : ℕ} → get_or ws at 0 ≡ 6 → half ≡ set out to 6 → first ≡ to + 1
      → Masks shows ws (read_of (drop (at + 1) ws)) half first left.words start left.end → Rest
  last_second {half = half} k p e m' =
      let m = rw e at m' in
      as_left (record {
        later = omega (arith, reads_on shows ws half (to + 1) (at + 1) m);
        room = omega (arith, stores-on shows ws half (to + 1) (at + 1) m);
        whole = λ l i j n. mask-pair shows ws out to at h k p m n;
      })

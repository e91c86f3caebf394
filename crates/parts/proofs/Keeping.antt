-- The buffer holds what is kept of each text.
use Prim.Native.Nat.{ℕ, suc, ◌+◌, ◌*◌, ◌≤◌, ◌<◌}
use native.Mathlib.Omega.{arith}
use mathlib.Core.Path.{◌≡◌, refl, sym, ap, ◌∙◌}
use mathlib.Core.Bool.{true, false}
use mathlib.Core.List.{List, [], ◌∷◌, ◌++◌, append_assoc, append-nil}
use lib.ListN.{length, take, drop, get_or, set, length-set, length-take, length-drop, replicate, get_or-eq_default}
use lib.ListN.{get_or-replicate}
use lib.Seq.{take_all, take-append-le, get_or-set_same, get_or-set_other}
use lib.Dec.{eqb, ltb}
use borrow.Author.Tests.{ltb-true, ltb-false, eqb-true, eqb-false}
use Rattle.logic.proofs.BooleanLaws.{cases}
use Rattle.parts.specs.Parts.{parting, byte_if, text_from, text_of, keep, kept_of}
use Rattle.parts.specs.Feeding.{texts, beginning, Held, held, count, turned, stored, fed, text_held}
use Rattle.parts.specs.Theorems.{HoldsTexts}
use Rattle.parts.proofs.Steps.{parting_below, stored_full, stored_room, stepped_on, stepped_in, from_next}
use Rattle.parts.proofs.Steps.{from_same}
use Rattle.parts.proofs.Places.{place_same, place_other}

-- what holds between two bytes of the input
record Sound (last : ℕ) (h : Held) : Type 0 where
  inside : h.state.text ≤ last
  places : length h.state.kept ≡ texts
  few : (i : ℕ) → count h.state i ≤ keep
  long : suc last * keep ≤ length h.buffer

-- what is held of text i
abbrev held_text : Held → ℕ → List ℕ
held_text h i = text_held h.state h.buffer i

held_text-few : (last : ℕ) (h : Held) → Sound last h → (i : ℕ) → length (held_text h i) ≤ keep
unfolding text_held
held_text-few last h s i = omega (arith, length-take (count h.state i) (drop (i * keep) h.buffer), s.few i)

sound-turned : (last : ℕ) (h : Held) → Sound last h → h.state.text < last → Sound last (turned h)
unfolding turned
sound-turned last h s l = record { inside = omega arith; places = s.places; few = s.few; long = s.long }

-- one number of a list, raised by one
raised : (ks : List ℕ) (j : ℕ) → (i : ℕ) → get_or ks i 0 ≤ keep → get_or ks j 0 < keep → j < length ks
    → get_or (set ks j (get_or ks j 0 + 1)) i 0 ≤ keep
raised ks j i h l p =
    cases (eqb i j)
    (λ e. let q : i ≡ j = eqb-true _ _ e in rw q (rw (get_or-set_same ks j (get_or ks j 0 + 1) 0 p) (omega arith)))
    (λ e. rw (get_or-set_other ks j i (get_or ks j 0 + 1) 0 (eqb-false _ _ e)) h)

-- a byte of the text that goes on
module _ (last : ℕ) (h : Held) (s : Sound last h) (b : ℕ) (below : last < texts) where
  abbrev j : ℕ
  j = h.state.text

  abbrev n : ℕ
  n = count h.state j

  -- the byte is stored where there is room
  by_room : (P : Held → Type 0)
      → (n < keep → P (held (record { text = j; start = eqb b 10; kept = set h.state.kept j (n + 1) })
      (set h.buffer (j * keep + n) b)))
      → (keep ≤ n → P (held (record { text = j; start = eqb b 10; kept = h.state.kept }) h.buffer))
      → P (stored h b)
  by_room P f g =
      let l : j < texts = omega (arith, s.inside) in
      cases (ltb n keep)
      (λ e. rw (stored_room h.state h.buffer b l (ltb-true _ _ e)) (f (ltb-true _ _ e)))
      (λ e. rw (stored_full h.state h.buffer b l (ltb-false _ _ e)) (g (ltb-false _ _ e)))

  placed : j < length h.state.kept
  placed = omega (arith, s.inside, s.places)

  sound-stored : Sound last (stored h b)
  sound-stored = by_room (Sound last)
      (λ l. record {
        inside = s.inside;
        places = length-set h.state.kept j (n + 1) ∙ s.places;
        few = λ i. raised h.state.kept j i (s.few i) l placed;
        long = omega (arith, length-set h.buffer (j * keep + n) b, s.long);
      })
      (λ l. record { inside = s.inside; places = s.places; few = s.few; long = s.long })

  stored_start : ((stored h b).state.text ≡ j) × ((stored h b).state.start ≡ eqb b 10)
  stored_start =
      by_room (λ g. (g.state.text ≡ j) × (g.state.start ≡ eqb b 10)) (λ l. (refl, refl)) (λ l. (refl, refl))

  -- of the text itself, with whatever follows
  held_text_mine : (t : List ℕ) → take keep (held_text (stored h b) j ++ t) ≡ take keep (held_text h j ++ (b ∷ t))
  unfolding text_held
  held_text_mine t =
      let xs = take n (drop (j * keep) h.buffer) in
      by_room (λ g. take keep (held_text g j ++ t) ≡ take keep (held_text h j ++ (b ∷ t)))
      (λ l. rw (get_or-set_same h.state.kept j (n + 1) 0 placed)
      (rw (place_same h.buffer (j * keep) n b (omega (arith, s.inside, s.long)))
      (ap (take keep) (append_assoc xs (b ∷ []) t))))
      (λ l.
      let d : keep ≤ length xs = omega (
        arith,
        length-take n (drop (j * keep) h.buffer),
        length-drop (j * keep) h.buffer,
        s.few j,
        s.inside,
        s.long,
      ) in
      take-append-le keep xs t d ∙ sym (take-append-le keep xs (b ∷ t) d))

  -- of another text
  held_text_other : (i : ℕ) → (j ≡ i → ⊥) → held_text (stored h b) i ≡ held_text h i
  unfolding text_held
  held_text_other i d = by_room (λ g. held_text g i ≡ held_text h i)
      (λ l. rw (get_or-set_other h.state.kept j i (n + 1) 0 (λ q. d (sym q)))
      (place_other h.buffer i j (count h.state i) n b d (s.few i) l))
      (λ l. refl)

  held_text-stored : (i : ℕ) (t : List ℕ)
      → take keep (held_text (stored h b) i ++ t) ≡ take keep (held_text h i ++ byte_if (eqb j i) b t)
  unfolding byte_if
  held_text-stored i t =
      cases (eqb j i)
      (λ e. let q : j ≡ i = eqb-true _ _ e in rw (e, ← q) (held_text_mine t))
      (λ e. rw (e, held_text_other i (eqb-false _ _ e)))

-- what is held of text i, and then its bytes in the rest of the input
abbrev upto : ℕ → ℕ → Held → List ℕ → List ℕ
upto last i h t = take keep (held_text h i ++ text_from last i h.state.text h.state.start t)

upto-turned : (last i : ℕ) (h : Held) (b : ℕ) (t : List ℕ) → parting last h.state.text h.state.start b ≡ true
    → upto last i (turned h) t ≡ upto last i h (b ∷ t)
unfolding turned text_held
upto-turned last i h b t e =
    ap (λ (u : List ℕ). take keep (held_text h i ++ u)) (sym (from_next last i h.state.text h.state.start b t e))

upto-stored : (last i : ℕ) (h : Held) (b : ℕ) (t : List ℕ) → Sound last h → last < texts
    → parting last h.state.text h.state.start b ≡ false
    → upto last i (stored h b) t ≡ upto last i h (b ∷ t)
upto-stored last i h b t s l e =
    let q = stored_start last h s b l in
    rw (q.0, q.1)
    (held_text-stored last h s b l i (text_from last i h.state.text (eqb b 10) t)
    ∙ ap (λ (u : List ℕ). take keep (held_text h i ++ u))
    (sym (from_same last i h.state.text h.state.start b t e)))

held_after : (last i : ℕ) → last < texts → (t : List ℕ) (h : Held) → Sound last h
    → held_text (fed last h t) i ≡ upto last i h t
unfolding fed text_from
held_after last i l [] h s =
    sym (take_all keep (held_text h i ++ []) (rw (append-nil (held_text h i)) (held_text-few last h s i))
    ∙ append-nil (held_text h i))
held_after last i l (b ∷ t) h s =
    cases (parting last h.state.text h.state.start b)
    (λ e.
    ap (λ (g : Held). held_text (fed last g t) i) (stepped_on last h b e)
    ∙ held_after last i l t (turned h)
    (sound-turned last h s (parting_below last h.state.text h.state.start b e))
    ∙ upto-turned last i h b t e)
    (λ e.
    ap (λ (g : Held). held_text (fed last g t) i) (stepped_in last h b e)
    ∙ held_after last i l t (stored h b) (sound-stored last h s b l)
    ∙ upto-stored last i h b t s l e)

-- nothing is kept at the beginning
none_kept : (i : ℕ) → count beginning i ≡ 0
unfolding beginning
none_kept i =
    cases (ltb i 8)
    (λ e. get_or-replicate {A = ℕ} 8 i 0 0 (ltb-true _ _ e))
    (λ e. get_or-eq_default {A = ℕ} (replicate 8 0) 0 {n = i} (ltb-false _ _ e))

sound-beginning : (last : ℕ) (buffer : List ℕ) → suc last * keep ≤ length buffer → Sound last (held beginning buffer)
unfolding beginning
sound-beginning last buffer l =
    record { inside = omega arith; places = refl; few = λ i. omega (arith, none_kept i); long = l }

held_text-beginning : (buffer : List ℕ) (i : ℕ) → held_text (held beginning buffer) i ≡ []
unfolding text_held
held_text-beginning buffer i = rw (none_kept i)

pub holds_texts : HoldsTexts
unfolding kept_of text_of beginning
holds_texts last buffer input l long i _ =
    held_after last i l input (held beginning buffer) (sound-beginning last buffer long)
    ∙ ap (λ (u : List ℕ). take keep (u ++ text_from last i 0 true input)) (held_text-beginning buffer i)

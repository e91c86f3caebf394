-- What is kept of the texts is enough.
use Prim.Native.Nat.{ℕ, ◌+◌, ◌*◌, ◌≤◌, ◌<◌}
use native.Mathlib.Omega.{arith}
use mathlib.Core.Path.{◌≡◌, refl, sym, ap, ◌∙◌}
use mathlib.Core.Bool.{false}
use mathlib.Core.List.{List}
use Rattle.std.specs.Prelude.{Option, Some, None}
use lib.Dec.{leb}
use lib.ListN.{length, take}
use lib.Seq.{take_all, length-take-le}
use borrow.Author.Tests.{lt-leb, leb-true, leb-false}
use Rattle.text.specs.Reading.{fits, limit}
use Rattle.text.specs.Set.{set_digits}
use Rattle.logic.proofs.BooleanLaws.{cases}
use Rattle.parts.specs.Parts.{keep, text_of, kept_of}
use Rattle.parts.specs.Feeding.{beginning, Held, held, fed, text_held}
use Rattle.parts.proofs.Keeping.{holds_texts}
use Rattle.sheet_text.specs.Sheets.{sheet_read, sheet_of}
use Rattle.memory_text.specs.Reading.{memory}
use Rattle.stages.specs.Calls.{view_of}
use Rattle.desk.specs.Fields.{group_of}
use Rattle.desk.specs.Given.{given_of}
use Rattle.desk.specs.Show.{viewed, show_of}
use Rattle.desk.specs.Inputs.{show_texts, shown_for, show_held}
use Rattle.desk.specs.Theorems.{KeptEnough, ShowsInput}
use Rattle.desk.proofs.Exact.{group_length}

-- a text that is not too long is kept whole, and one that is too long stays so
kept_cases : {P : Type 0} (t : List ℕ) → (take keep t ≡ t → P) → (fits t ≡ false → fits (take keep t) ≡ false → P) → P
unfolding fits
kept_cases t f g =
    cases (leb (length t) limit)
    (λ e. let l : length t ≤ limit = leb-true _ _ e in f (take_all keep t (omega arith)))
    (λ e. let l : limit < length t = leb-false _ _ e in
    g e (lt-leb (length (take keep t)) limit (omega (arith, length-take-le keep t (omega arith)))))

sheet_kept : (t : List ℕ) → sheet_of (take keep t) ≡ sheet_of t
unfolding sheet_of sheet_read
sheet_kept t = kept_cases t (λ e. ap sheet_of e) (λ a b. rw (a, b))

memory_kept : (t : List ℕ) → memory (take keep t) ≡ memory t
unfolding memory
memory_kept t = kept_cases t (λ e. ap memory e) (λ a b. rw (a, b))

-- the text of a group is short
group_kept : (t : List ℕ) → group_of (take keep t) ≡ group_of t
group_kept t =
    cases (leb (length t) keep)
    (λ e. ap group_of (take_all keep t (leb-true _ _ e)))
    (λ e.
    let l : keep < length t = leb-false _ _ e in
    no_group (take keep t) (omega (arith, length-take-le keep t (omega arith))) ∙ sym (no_group t (omega arith)))
  where
    no_group : (u : List ℕ) → set_digits + 1 < length u → group_of u ≡ None
    no_group u l = go (group_of u) refl
      where
        go : (o : Option ℕ) → group_of u ≡ o → o ≡ None
        go None e = refl
        go (Some g) e = let z = group_length u g e in absurd (omega arith)

given_kept : (text group : List ℕ) → given_of (take keep text) (take keep group) ≡ given_of text group
unfolding given_of
given_kept text group = rw (memory_kept text, group_kept group)

pub kept_enough : KeptEnough
unfolding show_of viewed view_of
kept_enough sheet text group = rw (given_kept text group, sheet_kept sheet)

-- the texts of an input, as the buffer holds them
module _ (buffer input : List ℕ) (long : 3 * keep ≤ length buffer) where
  abbrev filled : Held
  filled = fed 2 (held beginning buffer) input

  text_kept : (i : ℕ) → i ≤ 2 → text_held filled.state filled.buffer i ≡ take keep (text_of 2 i input)
  unfolding kept_of
  text_kept i h = holds_texts 2 buffer input (omega arith) long i h

pub shows_input : ShowsInput
unfolding show_held shown_for show_texts
shows_input buffer input l =
    let text = text_kept buffer input l in
    rw (text 0 (omega arith), text 1 (omega arith), text 2 (omega arith))
    (kept_enough (text_of 2 0 input) (text_of 2 1 input) (text_of 2 2 input))

-- What is put into the buffer.
use Prim.Native.Nat.{ℕ, ◌+◌, ◌%◌, ◌≤◌, ◌<◌}
use native.Mathlib.Omega.{arith}
use mathlib.Core.Path.{◌≡◌, refl, sym, ap, ◌∙◌}
use mathlib.Core.List.{List, [], ◌∷◌, ◌++◌}
use lib.ListN.{length, take, drop, length-append}
use lib.Seq.{length-take-le, take_at}
use borrow.Author.Tests.{le-leb, lt-leb}
use Rattle.text.specs.Number.{decimal, most}
use Rattle.text.specs.Internal.Writing.{written, reached}
use Rattle.text.proofs.Writings.{reached_fits, length-decimal}
use Rattle.memory_text.specs.Printing.{memory_text}
use Rattle.memory_text.specs.Internal.Answers.{printed_length, printed}
use Rattle.memory_text.proofs.Writes.{goes_start, goes_put, printed_all}
use Rattle.language.specs.World.{cell_words}
use Rattle.memory_text.specs.Sizes.{memory_words, word_room, memory_room}
use Rattle.desk.specs.Output.{output_room, number_line, put, put_length}
use Rattle.desk.specs.Internal.Post.{PutAll}

-- whether the buffer has room
module _ (out bytes now : List ℕ) (r : ℕ) where
  pub put_all : output_room ≤ length out → PutAll out bytes now r → (r ≡ put_length out bytes) × (now ≡ put out bytes)
  unfolding put put_length
  put_all h p = rw (le-leb _ _ h) (p.length_is, p.held)

pub put_none : (out bytes : List ℕ) → length out < output_room → (0 ≡ put_length out bytes) × (out ≡ put out bytes)
unfolding put put_length
put_none out bytes h = rw (lt-leb _ _ h) (refl, refl)

-- a number and the end of its line, written from the start on
pub line_puts : (out : List ℕ) (n : ℕ) (o₁ : List ℕ) (p : ℕ) (o₂ : List ℕ) (r : ℕ)
    → p ≡ reached out 0 (decimal n) → o₁ ≡ written out 0 (decimal n)
    → r ≡ reached o₁ p (10 ∷ []) → o₂ ≡ written o₁ p (10 ∷ [])
    → length o₁ ≡ length out → n ≤ most → word_room ≤ length out → PutAll out (number_line n) o₂ r
unfolding number_line
line_puts out n o₁ p o₂ r ep e₁ er e₂ l m h =
    let d = length-decimal n m in
    let form : List ℕ → List ℕ = λ t. decimal n ++ (10 ∷ t) in
    let p' : p ≡ 0 + length (decimal n) = ep ∙ reached_fits out 0 (decimal n) (omega arith) in
    let start = goes_start form out 0 in
    let first = goes_put form form out 0 out 0 start (λ t. 10 ∷ t) (decimal n) o₁ p (λ t. refl) (omega arith) ep e₁ in
    let second = goes_put form (λ t. 10 ∷ t) out 0 o₁ p first (λ t. t) (10 ∷ []) o₂ r (λ t. refl) (omega arith) er e₂ in
    record { length_is = omega (arith, second.reach []); held = sym (second.bytes []) }

-- a memory that is printed whole
pub memory_puts : (out w x now : List ℕ) (r : ℕ) → w ≡ x → r ≡ printed_length w out → now ≡ printed w out
    → length x % cell_words ≡ 0 → length x ≤ memory_words → memory_room ≤ length out → PutAll out (memory_text x) now r
memory_puts out w x now r e er en h l room =
    let p = printed_all x out h (omega arith) in
    record {
      length_is = er ∙ ap (λ (u : List ℕ). printed_length u out) e ∙ p.0;
      held = en ∙ ap (λ (u : List ℕ). printed u out) e ∙ p.1;
    }

-- other words for the same bytes
pub put_same : (out bytes bytes' now : List ℕ) (r : ℕ) → bytes ≡ bytes' → PutAll out bytes now r
    → PutAll out bytes' now r
put_same out bytes bytes' now r e p = rw e at p

-- the first n places of w, replaced by as many
module _ (n : ℕ) (x w : List ℕ) (e : length x ≡ length (take n w)) (h : n ≤ length w) where
  pub front_length : length x ≡ n
  front_length = e ∙ length-take-le n w h

  pub front_is : take n (x ++ drop n w) ≡ x
  front_is = take_at x (drop n w) n front_length

  pub front_fits : n ≤ length (x ++ drop n w)
  front_fits = omega (arith, length-append x (drop n w), front_length)

  pub front-count : n ≡ length (take n (x ++ drop n w))
  front-count = sym (length-take-le n (x ++ drop n w) front_fits)

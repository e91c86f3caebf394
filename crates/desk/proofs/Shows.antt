-- The view of a memory text, as the code makes it.
use Prim.Native.Nat.{ℕ, zero, suc, ◌≤◌}
use native.Mathlib.Nat.{le_of_suc-le-suc, not-suc-le-zero}
use mathlib.Core.Path.{◌≡◌, sym, ap, ◌∙◌, refl}
use mathlib.Core.List.{List, ◌∷◌}
use lib.ListN.{length, take, replicate}
use borrow.Author.Tests.{ne_eqb}
use Rattle.memory_text.specs.Printing.{memory_text}
use Rattle.stages.specs.Answers.{Viewed}
use Rattle.stages.specs.Calls.{view_of}
use Rattle.memory_text.specs.Sizes.{memory_words}
use Rattle.desk.specs.declared.Given.{Given}
use Rattle.desk.specs.Numbers.{other_number, earlier, as_text}
use Rattle.desk.specs.Given.{given_words}
use Rattle.desk.specs.Internal.Post.{Whole}
use Rattle.desk.specs.Output.{number_line}
use Rattle.desk.specs.Show.{view_text, viewed}
use Rattle.desk.proofs.Givens.{words_length}

-- the first of many zeros
pub take-zeros : (n m : ℕ) → n ≤ m → take n (replicate m 0) ≡ replicate {A = ℕ} n 0
take-zeros zero m h = refl
take-zeros (suc n) zero h = absurd (not-suc-le-zero h)
take-zeros (suc n) (suc m) h = ap {B = List ℕ} (λ (l : List ℕ). 0 ∷ l) (take-zeros n m (le_of_suc-le-suc h))

-- a view that was made in an array of zeros
module _ (sheet : List ℕ) (g : Given) (answer : ℕ) (view : List ℕ) (w : Whole g)
    (e : ◌≡◌ {A = Viewed} (record { answer = answer; view = view })
    (view_of sheet (given_words g) g.group (take g.count (replicate memory_words 0))))
    (k : ℕ) (ek : k ≡ earlier (as_text answer) (other_number g.other)) where
  view_is : viewed sheet g ≡ view_text k view
  unfolding viewed
  view_is =
      let q : view_of sheet (given_words g) g.group (replicate (length (given_words g)) 0)
      ≡ record { answer = answer; view = view }
      = ap (view_of sheet (given_words g) g.group)
      (rw (words_length g w) (sym (take-zeros g.count memory_words w.few))) ∙ sym e in
      rw (q, ek)

  pub view-shown : k ≡ 0 → memory_text view ≡ viewed sheet g
  unfolding view_text
  view-shown z = sym (view_is ∙ rw z)

  pub view-number : (k ≡ 0 → ⊥) → number_line k ≡ viewed sheet g
  unfolding view_text
  view-number z = sym (view_is ∙ rw (ne_eqb k 0 z))

-- Show gives its numbers in their order: its table against that of the view which it prints (demand 2).
use Prim.Native.Nat.{ℕ}
use mathlib.Core.Path.{◌≡◌, refl, sym, ap, ◌∙◌, subst}
use mathlib.Core.Logic.{◌⊎◌, inl, inr, ⊎_elim}
use mathlib.Core.List.{List, [], ◌∷◌}
use Rattle.std.specs.Prelude.{Option, Some, None}
use Rattle.std.specs.Option.{unwrap_or}
use lib.ListN.{length, replicate, length-replicate}
use Rattle.text.specs.Reading.{Read}
use Rattle.text.specs.Reading.Read.{got, bad}
use Rattle.text.proofs.Readings.{not_bad}
use Rattle.std.proofs.lemmas.Option.{none-some}
use Rattle.numbers.specs.Rows.{Row, ◌when◌, numbers, First}
use Rattle.numbers.specs.Calls.{AnswerBy}
use Rattle.numbers.proofs.RowLaws.{exactly}
use Rattle.memory.specs.View.{view_words}
use Rattle.memory_text.specs.Printing.{memory_text}
use Rattle.memory_text.specs.Reading.{memory}
use Rattle.memory_text.specs.Theorems.{IsMemory}
use Rattle.memory_text.proofs.Memories.{memory_exact, memory-sound}
use Rattle.stages.specs.Answers.{Viewed, refused_view}
use Rattle.stages.specs.Calls.{view_of}
use Rattle.simp.specs.Judgements.{OfSheet, Strangers, OtherSize, IllFormed, view_table}
use Rattle.simp.proofs.Judged.{its}
use Rattle.simp.proofs.SecondDemand.{view-exactly}
use Rattle.desk.specs.Fields.{group_of}
use Rattle.desk.specs.Numbers.{rank_of, earlier, unread, other_number, as_text}
use Rattle.desk.specs.Given.{words_read, given_from, given_of}
use Rattle.desk.specs.Output.{number_line}
use Rattle.desk.specs.Show.{view_text, viewed, show_of}
use Rattle.desk.specs.Order.{IsGroup, OfGroup, OfMemory, NoGroup, NoMemory, show_rows, show_table}
use Rattle.desk.specs.Theorems.{SameOrder, ShowInOrder}
use Rattle.desk.proofs.Exact.{group_exact}
use Rattle.desk.proofs.Givens.{given_words_lem}

-- what is printed of a view, beside the number of a text that isn't of its form
abbrev said : ℕ → Viewed → List ℕ
said other v = view_text (earlier (as_text v.answer) other) v.view

-- a text is that of one group, and of one memory
one_group : {t : List ℕ} {g g' : ℕ} → IsGroup t g → IsGroup t g' → g' ≡ g
one_group {t} {g} {g'} i i' = let p = (group_exact t g).1 i in let q = (group_exact t g').1 i' in cc

one_memory : {t ws us : List ℕ} → IsMemory t ws → IsMemory t us → us ≡ ws
one_memory {t} {ws} {us} i i' = let p = (memory_exact ws t).1 i in let q = (memory_exact us t).1 i' in cc

-- where none of show's numbers applies, and the rows past those of the sheet, and of the group
module _ (sheet text group : List ℕ) where
  abbrev Prints : List ℕ → Type 0
  Prints out = OfSheet sheet (λ s. OfGroup group (λ g. OfMemory text (λ ws. out ≡ memory_text (view_words s g ws))))

  abbrev memory_rows : List Row
  memory_rows = 8 when (NoMemory text ⊎ OfMemory text (λ ws. OtherSize sheet ws ⊎ IllFormed sheet ws)) ∷ []

  abbrev group_rows : List Row
  group_rows = 3 when (NoGroup group ⊎ OfGroup group (Strangers sheet)) ∷ memory_rows

module _ (sheet text group ws : List ℕ) (g : ℕ) where
  abbrev zeros : List ℕ
  zeros = replicate (length ws) 0

  abbrev view : Viewed
  view = view_of sheet ws g zeros

  -- where none of the view's numbers applies
  abbrev Views : Viewed → Type 0
  Views v = OfSheet sheet (λ s. v ≡ record { answer = 0; view = view_words s g ws })

  abbrev past_3 : List Row
  past_3 = 7 when (OtherSize sheet ws ⊎ OtherSize sheet zeros) ∷ 8 when IllFormed sheet ws ∷ []

  abbrev past_2 : List Row
  past_2 = 3 when Strangers sheet g ∷ past_3

  abbrev Seen : List Row → Type 0
  Seen rows = First (refused_view zeros) Views rows view

  abbrev Said : List Row → ℕ → Type 0
  Said rows other = First number_line (Prints sheet text group) rows (said other view)

  -- 1 and 2 come before the number of a text
  sheet_first : (o : Option ℕ) (m : Read (List ℕ))
      → (said (other_number (unread o m)) (refused_view zeros 1) ≡ number_line 1)
      × (said (other_number (unread o m)) (refused_view zeros 2) ≡ number_line 2)
  unfolding view_text earlier rank_of as_text unread other_number
  sheet_first None m = (refl, refl)
  sheet_first (Some a) bad = (refl, refl)
  sheet_first (Some a) (got us r) = (refl, refl)

  on_sheet_lem : (o : Option ℕ) (m : Read (List ℕ))
      → (Seen past_2 → Said (group_rows sheet text group) (other_number (unread o m)))
      → Said (show_rows sheet text group) (other_number (unread o m))
  unfolding First
  on_sheet_lem o m k = go ((view-exactly sheet ws g zeros view).0 refl)
    where
      go : AnswerBy (view_table sheet ws g zeros) view → Said (show_rows sheet text group) (other_number (unread o m))
      go (inl (a, e)) = inl (a, ap (said (other_number (unread o m))) e ∙ (sheet_first o m).0)
      go (inr (n, inl (a, e))) = inr (n, inl (a, ap (said (other_number (unread o m))) e ∙ (sheet_first o m).1))
      go (inr (n, inr (l, h))) = inr (n, inr (l, k h))

  -- a group that isn't of its form
  no_group : NoGroup group → Seen past_2 → Said (group_rows sheet text group) 3
  unfolding First view_text earlier rank_of as_text
  no_group n (inl (a, e)) = inl (inl n, ap (said 3) e)
  no_group n (inr (m, inl (a, e))) = inl (inl n, ap (said 3) e)
  no_group n (inr (m, inr (l, inl (a, e)))) = inl (inl n, ap (said 3) e)
  no_group n (inr (m, inr (l, inr (k, h)))) = inl (inl n, ap (said 3) h.2)

  -- a group that is
  module _ (i : IsGroup group g) where
    three_first : (m : Read (List ℕ)) → said (other_number (unread (Some g) m)) (refused_view zeros 3) ≡ number_line 3
    unfolding view_text earlier rank_of as_text unread other_number
    three_first bad = refl
    three_first (got us r) = refl

    on_group : (m : Read (List ℕ))
        → (Seen past_3 → Said (memory_rows sheet text group) (other_number (unread (Some g) m))) → Seen past_2
        → Said (group_rows sheet text group) (other_number (unread (Some g) m))
    unfolding First
    on_group m k (inl (a, e)) = inl (inr (g, i, a), ap (said (other_number (unread (Some g) m))) e ∙ three_first m)
    on_group m k (inr (n, h)) =
        inr (⊎_elim (λ l. l g i) (λ o. n (subst (Strangers sheet) (one_group i o.1) o.2)), k h)

    -- a memory that isn't of its form
    no_memory : NoMemory text → Seen past_3 → Said (memory_rows sheet text group) 8
    unfolding First view_text earlier rank_of as_text
    no_memory n (inl (a, e)) = inl (inl n, ap (said 8) e)
    no_memory n (inr (m, inl (a, e))) = inl (inl n, ap (said 8) e)
    no_memory n (inr (m, inr (l, h))) = inl (inl n, ap (said 8) h.2)

    -- and one that is
    on_memory : IsMemory text ws → Seen past_3 → Said (memory_rows sheet text group) 0
    unfolding First view_text earlier rank_of as_text
    on_memory j (inl (inl a, e)) = inl (inr (ws, j, inl a), ap (said 0) e)
    on_memory j (inl (inr (s, f, a), e)) =
        inl (inr (ws, j, inl (s, f, λ z. a (length-replicate {A = ℕ} (length ws) 0 ∙ z))), ap (said 0) e)
    on_memory j (inr (m, inl (a, e))) = inl (inr (ws, j, inr a), ap (said 0) e)
    on_memory j (inr (m, inr (l, (s, f, e)))) =
        inr (
          ⊎_elim (λ n. n ws j) (λ o.
              ⊎_elim (λ a. m (inl (subst (OtherSize sheet) (one_memory j o.1) a)))
              (λ a. l (subst (IllFormed sheet) (one_memory j o.1) a)) o.2),
          (s, f, (g, i, (ws, j, ap (said 0) e))),
        )

-- what show prints, by what its texts are read as
module _ (sheet text group : List ℕ) where
  abbrev printed : Option ℕ → Read (List ℕ) → List ℕ
  printed o m =
      said (other_number (unread o m))
      (view_of sheet (words_read m) (unwrap_or o 0) (replicate (length (words_read m)) 0))

  show_by : show_of sheet text group ≡ printed (group_of group) (memory text)
  unfolding show_of viewed given_of given_from
  show_by = rw (given_words_lem (memory text) (group_of group))

  by_texts : (o : Option ℕ) → group_of group ≡ o → (m : Read (List ℕ)) → memory text ≡ m
      → AnswerBy (show_table sheet text group) (printed o m)
  unfolding words_read unread other_number
  by_texts None e m q =
      on_sheet_lem sheet text group (words_read m) 0 None m
      (no_group sheet text group (words_read m) 0 (λ g i. none-some _ (sym e ∙ (group_exact group g).1 i)))
  by_texts (Some g) e bad q =
      on_sheet_lem sheet text group [] g (Some g) bad
      (on_group sheet text group [] g ((group_exact group g).0 e) bad
      (no_memory sheet text group [] g ((group_exact group g).0 e)
      (λ us i. not_bad us [] (sym q ∙ (memory_exact us text).1 i))))
  by_texts (Some g) e (got ws r) q =
      let s = memory-sound ws text r q in
      on_sheet_lem sheet text group ws g (Some g) (got ws r)
      (on_group sheet text group ws g ((group_exact group g).0 e) (got ws r)
      (on_memory sheet text group ws g ((group_exact group g).0 e) (s.0, s.1)))

pub same_order : SameOrder
unfolding numbers
same_order sheet memory group view = refl

pub show_in_order : ShowInOrder
show_in_order sheet text group =
    exactly number_line (Prints sheet text group) (Prints sheet text group) (show_of sheet text group)
    (show_rows sheet text group)
    (λ n (s, f, (g, i, (ws, j, e))) out. (
      λ z. (s, f, (g, i, (ws, j, sym z ∙ e))),
      λ o.
          let o' = its (λ s. OfGroup group (λ g. OfMemory text (λ ws. out ≡ memory_text (view_words s g ws)))) f o in
          let p = one_group i o'.1 in
          let q = one_memory j o'.2.1 in
          e ∙ sym (o'.2.2 ∙ rw (p, q)),
    ))
    (rw (show_by sheet text group) (by_texts sheet text group (group_of group) refl (memory text) refl))

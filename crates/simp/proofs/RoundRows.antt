-- The stages of a round against the rows of its table.
use mathlib.Core.Logic.{inl, inr}
use mathlib.Core.Path.{◌≡◌, refl, subst}
use mathlib.Core.Bool.{true, false}
use mathlib.Core.List.{List, [], ◌∷◌}
use Prim.Native.Nat.{ℕ, ◌≤◌}
use native.Mathlib.Omega.{arith}
use lib.Dec.{eqb, ltb}
use lib.ListN.{length}
use borrow.Author.Tests.{ltb-true, ltb-false, le-ltb}
use Rattle.logic.proofs.BooleanLaws.{cases}
use Rattle.sheet.specs.Sheet.{Sheet}
use Rattle.memory.specs.Memory.{memory_refusal}
use Rattle.stages.specs.Calls.{on_sheet, unless, untyped, number_of}
use Rattle.scripts.specs.Parting.{script_texts, most_scripts}
use Rattle.rounds.specs.Answers.{RanRound, refused_round, round_from, Gate}
use Rattle.rounds.specs.Calls.{too_many, lowest, run_each, turn_of, played_of, round_by}
use Rattle.numbers.specs.Rows.{Row, ◌when◌, First, numbers}
use Rattle.numbers.proofs.RowLaws.{by_rows, not_one}
use Rattle.simp.specs.Judgements.{OnSheet, Principals, NoScript, IllTyped, IllLabelled}
use Rattle.simp.specs.Rounds.{TooMany, OneOf, round_rows}
use Rattle.simp.proofs.Numbers.{no_strangers, sized_0}
use Rattle.simp.proofs.Judged.{read, past_all, past_2, past_3, past_4, past_6, past_8}
use Rattle.simp.proofs.SecondDemand.{unless_0}
use Rattle.simp.proofs.Lowest.{Judged, table, over_all, stage}

-- ---- 4, 5 and 6 over all scripts

-- when 4, 5 and 6 apply to a script
abbrev WhenScript : List ℕ → ℕ → List ℕ → Type 0
WhenScript sheet k t = elim (eqb k 4)
    [ true ↦ NoScript sheet t | false ↦ elim (eqb k 5) [ true ↦ IllTyped sheet t | false ↦ IllLabelled sheet t ] ]

script_judged : {sheet : List ℕ} {s : Sheet} → OnSheet sheet s → (t : List ℕ)
    → Judged (table (4 ∷ 5 ∷ 6 ∷ []) (λ k. WhenScript sheet k t)) (number_of s t)
unfolding number_of
script_judged {sheet} {s} h t =
    past_4 (λ k. k) (λ r. r ≡ 0) h _ t _ λ c i.
    subst (First (λ k. k) (λ r. r ≡ 0) _) (unless_0 (untyped s c))
    (past_6 (λ k. k) (λ r. r ≡ 0) h _ t c 0 i λ d. past_all (λ k. k) (λ r. r ≡ 0) refl)

module _ {A : Type 0} (refuse : ℕ → A) (Else : A → Type 0) where
  past_scripts : {sheet : List ℕ} {s : Sheet} → OnSheet sheet s → (rows : List Row) (ts : List (List ℕ)) (go : A)
      → (lowest (number_of s) ts ≡ 0 → First refuse Else rows go)
      → First refuse Else
      (4 when OneOf (NoScript sheet) ts ∷ 5 when OneOf (IllTyped sheet) ts ∷ 6 when OneOf (IllLabelled sheet) ts ∷ rows)
      (unless refuse (lowest (number_of s) ts) go)
  past_scripts {sheet} {s} h rows ts go k =
      stage refuse Else 0 (4 ∷ 5 ∷ 6 ∷ []) (omega arith, (omega arith, (omega arith, tt)))
      (λ j. OneOf (WhenScript sheet j) ts) rows (lowest (number_of s) ts) go
      (over_all (4 ∷ 5 ∷ 6 ∷ []) (omega arith, (omega arith, (omega arith, tt))) (WhenScript sheet) (number_of s)
      (script_judged h) ts) k

  -- 11
  past_11 : (scripts : List ℕ) (rows : List Row) (go : A)
      → (length (script_texts scripts) ≤ most_scripts → First refuse Else rows go)
      → First refuse Else (11 when TooMany scripts ∷ rows) (unless refuse (too_many (script_texts scripts)) go)
  unfolding First unless too_many
  past_11 scripts rows go k =
      cases (ltb most_scripts (length (script_texts scripts)))
      (λ e. rw e (inl (ltb-true _ _ e, refl)))
      (λ e. let l : length (script_texts scripts)
      ≤ most_scripts = ltb-false _ _ e in rw e (inr (λ m. omega arith, k l)))

-- ---- none applies

pub record RoundStarts (sheet scripts memory : List ℕ) (authority : ℕ) : Type 0 where
  pub its_sheet : Sheet
  pub on_sheet_lem : OnSheet sheet its_sheet
  pub principals : Principals its_sheet authority
  pub few : length (script_texts scripts) ≤ most_scripts
  pub accepted : lowest (number_of its_sheet) (script_texts scripts) ≡ 0
  pub unrefused : memory_refusal its_sheet memory ≡ 0

module _ (gate : Gate) (sheet scripts memory : List ℕ) (authority budget : ℕ) where
  pub round-starts : First (refused_round memory) (λ _. RoundStarts sheet scripts memory authority)
      (round_rows sheet scripts memory authority)
      (round_by gate sheet scripts memory authority budget)
  unfolding round_by played_of
  round-starts =
      let R = refused_round memory in
      let E : RanRound → Type 0 = λ _. RoundStarts sheet scripts memory authority in
      past_2 R E sheet _ _ λ s h.
      past_3 R E h _ authority _ λ a.
      past_11 R E scripts _ _ λ f.
      past_scripts R E h _ (script_texts scripts) _ λ n.
      past_8 R E h _ memory _ λ z w.
      past_all R E
      (record {
        its_sheet = s;
        on_sheet_lem = h;
        principals = a;
        few = f;
        accepted = n;
        unrefused = sized_0 s memory z w;
      })

  -- a round that answers 0 has started
  pub round-started : (round_by gate sheet scripts memory authority budget).answer ≡ 0
      → RoundStarts sheet scripts memory authority
  unfolding numbers
  round-started =
      by_rows (refused_round memory) _ (λ (r : RanRound). r.answer ≡ 0 → RoundStarts sheet scripts memory authority)
      (round_rows sheet scripts memory authority)
      (λ k i g h. absurd (not_one 0 i refl h)) (λ r n st h. st) _ round-starts

  -- and is then refused by no number
  pub started-round : RoundStarts sheet scripts memory authority
      → round_by gate sheet scripts memory authority budget
      ≡ round_from memory (run_each (turn_of gate sheet authority budget) 0 memory (script_texts scripts))
  unfolding round_by played_of on_sheet unless too_many
  started-round st =
      rw (
        read st.on_sheet_lem,
        no_strangers st.its_sheet authority st.principals,
        le-ltb _ _ st.few,
        st.accepted,
        st.unrefused,
      ) refl

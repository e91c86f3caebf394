-- Scripts in turn, and the places of a round.
use mathlib.Core.Path.{◌≡◌, refl, sym, ap, ◌∙◌, subst}
use mathlib.Core.List.{List, [], ◌∷◌, ◌++◌, map}
use Prim.Native.Nat.{ℕ, zero, suc, ◌+◌, ◌-◌, ◌≤◌, ◌<◌}
use native.Mathlib.Omega.{arith}
use lib.Dec.{ltb}
use lib.ListN.{length, get_or, replicate, length-map, length-replicate, get_or-replicate, get_or-map, get_or-append}
use lib.ListN.{get_or-eq_default}
use lib.Seq.{ext_get_or, get_or-append-add}
use borrow.Author.Tests.{ltb-true, ltb-false}
use Rattle.logic.proofs.BooleanLaws.{cases}
use Rattle.sheet.specs.Padding.{padded}
use Rattle.sheet.proofs.Words.{length-padded}
use Rattle.stages.specs.Answers.{Ran, refused_run}
use Rattle.scripts.specs.Parting.{most_scripts}
use Rattle.rounds.specs.Answers.{RanRound, memory_after, round_from}
use Rattle.rounds.specs.Calls.{run_each}
use Rattle.simp.specs.Rounds.{InTurn, no_turn, a_turn, Places, InPlace}

-- ---- words filled up with zeros

pub zeros_at : (k j : ℕ) → get_or (replicate {A = ℕ} k 0) j 0 ≡ 0
zeros_at k j =
    cases (ltb j k)
    (λ e. get_or-replicate {A = ℕ} k j 0 0 (ltb-true _ _ e))
    (λ e. let m : k ≤ j = ltb-false _ _ e in
    get_or-eq_default (replicate {A = ℕ} k 0) 0 (omega (arith, m, length-replicate {A = ℕ} k 0)))

module _ (n : ℕ) (xs : List ℕ) where
  pub padded_place : (i : ℕ) → get_or (padded n xs) i 0 ≡ get_or xs i 0
  unfolding padded
  padded_place i =
      cases (ltb i (length xs))
      (λ e. get_or-append xs (replicate (n - length xs) 0) 0 i (ltb-true _ _ e))
      (λ e. let l : length xs ≤ i = ltb-false _ _ e in past i l ∙ sym (get_or-eq_default xs 0 l))
    where
      past : (i : ℕ) → length xs ≤ i → get_or (xs ++ replicate (n - length xs) 0) i 0 ≡ 0
      past i l =
          let e : i ≡ length xs + (i - length xs) = omega arith in
          ap (λ (j : ℕ). get_or (xs ++ replicate (n - length xs) 0) j 0) e
          ∙ get_or-append-add xs (replicate (n - length xs) 0) (i - length xs) 0
          ∙ zeros_at (n - length xs) (i - length xs)

-- words with so many places, that are these in the first of them and zero past them
padded_is : (n : ℕ) (xs ws : List ℕ) → length xs ≤ n → length ws ≡ n → ((i : ℕ) → get_or ws i 0 ≡ get_or xs i 0)
    → ws ≡ padded n xs
padded_is n xs ws l e h =
    ext_get_or 0 ws (padded n xs) (e ∙ sym (length-padded n xs l)) (λ i _. h i ∙ sym (padded_place n xs i))

-- ---- turns

pub turns_map : {P Q : ℕ → List ℕ → List ℕ → Ran → Type 0} → ((i : ℕ) (t m : List ℕ) (r : Ran) → P i t m r → Q i t m r)
    → {i : ℕ} {memory : List ℕ} {ts : List (List ℕ)} {after : List ℕ} → InTurn P i memory ts after
    → InTurn Q i memory ts after
turns_map f no_turn = no_turn
turns_map f (a_turn r p rest) = a_turn r (f _ _ _ _ p) (turns_map f rest)

-- the run of no script
abbrev nothing : Ran
nothing = refused_run [] 0

-- what runs answer from place i on stands in its places
abbrev pub PlacedFrom : RanRound → ℕ → List Ran → Type 0
PlacedFrom R i rs = (j : ℕ) → j < length rs → InPlace R (i + j) (get_or rs j nothing)

module _ (R : RanRound) (i : ℕ) (r : Ran) (rs : List Ran) where
  placed_first : PlacedFrom R i (r ∷ rs) → InPlace R i r
  placed_first p = let e : i + 0 ≡ i = omega arith in subst (λ (k : ℕ). InPlace R k r) e (p 0 (omega arith))

  placed_rest : PlacedFrom R i (r ∷ rs) → PlacedFrom R (suc i) rs
  placed_rest p j l =
      let e : i + suc j ≡ suc i + j = omega arith in
      subst (λ (k : ℕ). InPlace R k (get_or rs j nothing)) e (p (suc j) (omega arith))

  placed_more : InPlace R i r → PlacedFrom R (suc i) rs → PlacedFrom R i (r ∷ rs)
  placed_more q p zero l = let e : i ≡ i + 0 = omega arith in subst (λ (k : ℕ). InPlace R k r) e q
  placed_more q p (suc j) l =
      let e : suc i + j ≡ i + suc j = omega arith in
      subst (λ (k : ℕ). InPlace R k (get_or rs j nothing)) e (p j (omega arith))

module _ (run : ℕ → List ℕ → List ℕ → Ran) where
  module _ (R : RanRound) where
    -- turns whose runs stand in their places
    pub turns_placed : (P : ℕ → List ℕ → List ℕ → Ran → Type 0) {i : ℕ} {memory : List ℕ}
        {ts : List (List ℕ)} {after : List ℕ}
        → InTurn (λ j t m r. (r ≡ run j t m) × P j t m r) i memory ts after → PlacedFrom R i (run_each run i memory ts)
        → InTurn (λ j t m r. InPlace R j r × P j t m r) i memory ts after
    unfolding run_each
    turns_placed P no_turn p = no_turn
    turns_placed P (a_turn {i} {memory} {t} {ts} r (e, q) rest) p =
        let p' : PlacedFrom R i (r ∷ run_each run (suc i) r.memory ts) = rw e p in
        a_turn r (placed_first R i r (run_each run (suc i) r.memory ts) p', q)
        (turns_placed P rest (placed_rest R i r (run_each run (suc i) r.memory ts) p'))

    -- and what they say of their runs
    pub placed_turns : {i : ℕ} {memory : List ℕ} {ts : List (List ℕ)} {after : List ℕ}
        → InTurn (λ j t m r. InPlace R j r × (r ≡ run j t m)) i memory ts after
        → PlacedFrom R i (run_each run i memory ts) × (after ≡ memory_after memory (run_each run i memory ts))
    unfolding run_each memory_after
    placed_turns no_turn = ((λ j l. absurd (omega arith)), refl)
    placed_turns (a_turn {i} {memory} {t} {ts} {after} r (q, e) rest) =
        let h = placed_turns rest in
        subst (λ (x : Ran). PlacedFrom R i (x ∷ run_each run (suc i) x.memory ts)
        × (after ≡ memory_after x.memory (run_each run (suc i) x.memory ts))) e
        (placed_more R i r (run_each run (suc i) r.memory ts) q h.0, h.1)

-- ---- a round of runs

-- its places
module _ (memory : List ℕ) (rs : List Ran) (few : length rs ≤ most_scripts) where
  its_place : (f : Ran → ℕ) → f nothing ≡ 0 → (i : ℕ)
      → get_or (padded most_scripts (map f rs)) i 0 ≡ f (get_or rs i nothing)
  its_place f z i = padded_place most_scripts (map f rs) i ∙ (let g = get_or-map f rs i nothing in rw z at g)

  pub round_placed : PlacedFrom (round_from memory rs) 0 rs
  round_placed j l =
      let e : 0 + j ≡ j = omega arith in
      rw e (record { its_answer = its_place (λ r. r.answer) refl j; its_steps = its_place (λ r. r.steps) refl j })

  pub round_places : Places (length rs) (round_from memory rs)
  round_places =
      let past : (f : Ran → ℕ) → f nothing ≡ 0 → (i : ℕ) → length rs ≤ i
      → get_or (padded most_scripts (map f rs)) i 0 ≡ 0 =
      λ f z i l. its_place f z i ∙ ap f (get_or-eq_default rs nothing l) ∙ z in
      record {
        answer_places =
            length-padded most_scripts (map (λ r. r.answer) rs) (omega (arith, length-map rs (λ r. r.answer)));
        step_places = length-padded most_scripts (map (λ r. r.steps) rs) (omega (arith, length-map rs (λ r. r.steps)));
        past_last = λ i l. (past (λ r. r.answer) refl i l, past (λ r. r.steps) refl i l);
      }

  same_round : {a : ℕ} {x y m x' y' m' : List ℕ} → a ≡ 0 → x ≡ x' → y ≡ y' → m ≡ m'
      → ◌≡◌ {A = RanRound} (record { answer = a; answers = x; steps = y; memory = m })
      (record { answer = 0; answers = x'; steps = y'; memory = m' })
  same_round e f g h = rw (e, f, g, h) refl

  -- and there is no other with these places
  pub round_is : (R : RanRound) → R.answer ≡ 0 → Places (length rs) R → PlacedFrom R 0 rs
      → R.memory ≡ memory_after memory rs → R ≡ round_from memory rs
  round_is R a p q m =
      let here : (f : Ran → ℕ) → f nothing ≡ 0 → (ws : List ℕ)
      → ((j : ℕ) → j < length rs → get_or ws j 0 ≡ f (get_or rs j nothing))
      → ((j : ℕ) → length rs ≤ j → get_or ws j 0 ≡ 0) → length ws ≡ most_scripts → ws ≡ padded most_scripts (map f rs) =
      λ f z ws u v w. padded_is most_scripts (map f rs) ws (omega (arith, length-map rs f)) w (λ i.
      cases (ltb i (length rs))
      (λ e. u i (ltb-true _ _ e) ∙ sym (let g = get_or-map f rs i nothing in rw z at g))
      (λ e. let l : length rs ≤ i = ltb-false _ _ e in
      v i l ∙ sym (get_or-eq_default (map f rs) 0 (omega (arith, length-map rs f))))) in
      let at : (j : ℕ) → j < length rs → InPlace R j (get_or rs j nothing) = λ j l. let e : 0 + j ≡ j = omega arith in
      subst (λ (k : ℕ). InPlace R k (get_or rs j nothing)) e (q j l) in
      same_round a
      (here (λ r. r.answer) refl R.answers (λ j l. (at j l).its_answer) (λ j l. (p.past_last j l).0)
      p.answer_places)
      (here (λ r. r.steps) refl R.steps (λ j l. (at j l).its_steps) (λ j l. (p.past_last j l).1) p.step_places)
      m

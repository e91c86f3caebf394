-- Two rounds of the same scripts, each script done in both: what a script of a kind keeps between two memories, rounds
-- of such scripts keep. One round: what each of its scripts leaves as it is, it leaves.
use mathlib.Core.Path.{◌≡◌, refl, sym, ap, ◌∙◌, subst}
use mathlib.Core.List.{List, [], ◌∷◌, map}
use Prim.Native.Nat.{ℕ, suc, ◌+◌}
use native.Mathlib.Omega.{arith}
use lib.ListN.{get_or}
use Rattle.stages.specs.Answers.{Ran}
use Rattle.stages.specs.Calls.{run_of}
use Rattle.scripts.specs.Parting.{script_texts, most_scripts}
use Rattle.rounds.specs.Answers.{RanRound, memory_after, Gate}
use Rattle.rounds.specs.Calls.{run_each, turn_of, round_by}
use Rattle.simp.specs.Rounds.{Open, EachOpen}
use Rattle.simp.specs.RoundView.{EachDone}
use Rattle.simp.proofs.RoundRows.{round-started, started-round}
use Rattle.simp.proofs.Turns.{padded_place}
use Rattle.simp.proofs.RoundDemands.{by_zero, turn_open, turn_closed, by_gate}
use Rattle.simp.proofs.EveryCall.{demand_1}

-- what scripts answer from place i on
abbrev answered : List Ran → List ℕ
answered rs = map (λ r. r.answer) rs

-- a round that is done in each script: the runs that it is made of
module _ (gate : Gate) (sheet scripts memory : List ℕ) (authority budget : ℕ)
    (h : EachDone gate (round_by gate sheet scripts memory authority budget)) where
  abbrev runs : List Ran
  runs = run_each (turn_of gate sheet authority budget) 0 memory (script_texts scripts)

  is_runs : (round_by gate sheet scripts memory authority budget).memory ≡ memory_after memory runs
  is_runs = ap (λ (r : RanRound). r.memory)
      (started-round gate sheet scripts memory authority budget
      (round-started gate sheet scripts memory authority budget h.not_refused))

  each_done : (j : ℕ) → Open gate (0 + j) → get_or (answered runs) j 0 ≡ 0
  each_done j o =
      let e = started-round gate sheet scripts memory authority budget
      (round-started gate sheet scripts memory authority budget h.not_refused) in
      let z : 0 + j ≡ j = omega arith in
      sym (padded_place most_scripts (answered runs) j) ∙ sym (ap (λ (r : RanRound). get_or r.answers j 0) e)
      ∙ h.each j (subst (Open gate) z o)

-- Same: what two memories have in common. P: the scripts whose done runs keep it.
module _ (gate : Gate) (sheet : List ℕ) (authority budget budget' : ℕ) (Same : List ℕ → List ℕ → Type 0)
    (P : List ℕ → Type 0)
    (kept : (t m m' : List ℕ) → P t → Same m m' → (run_of sheet t m authority budget).answer ≡ 0
    → (run_of sheet t m' authority budget').answer ≡ 0
    → Same (run_of sheet t m authority budget).memory (run_of sheet t m' authority budget').memory) where
  -- the script in place i, with either budget
  abbrev one : ℕ → List ℕ → List ℕ → Ran
  one = turn_of gate sheet authority budget

  abbrev two : ℕ → List ℕ → List ℕ → Ran
  two = turn_of gate sheet authority budget'

  turn_kept : (i : ℕ) (t m m' : List ℕ) → (Open gate i → P t) → Same m m' → (Open gate i → (one i t m).answer ≡ 0)
      → (Open gate i → (two i t m').answer ≡ 0)
      → Same (one i t m).memory (two i t m').memory
  turn_kept i t m m' p h d d' =
      by_gate gate sheet authority budget i t m
      (λ o.
      let e = turn_open gate sheet authority budget i t m o in
      let e' = turn_open gate sheet authority budget' i t m' o in
      let z = sym (ap (λ (r : Ran). r.answer) e) ∙ d o in
      let z' = sym (ap (λ (r : Ran). r.answer) e') ∙ d' o in
      rw (e, e') (kept t m m' (p o) h z z'))
      (λ n. rw (turn_closed gate sheet authority budget i t m n, turn_closed gate sheet authority budget' i t m' n) h)

  each_kept : (i : ℕ) (m m' : List ℕ) (ts : List (List ℕ)) → EachOpen P gate i ts → Same m m'
      → ((j : ℕ) → Open gate (i + j) → get_or (answered (run_each one i m ts)) j 0 ≡ 0)
      → ((j : ℕ) → Open gate (i + j) → get_or (answered (run_each two i m' ts)) j 0 ≡ 0)
      → Same (memory_after m (run_each one i m ts)) (memory_after m' (run_each two i m' ts))
  unfolding run_each memory_after EachOpen
  each_kept i m m' [] p h d d' = h
  each_kept i m m' (t ∷ ts) p h d d' =
      let here : i ≡ i + 0 = omega arith in
      let next : (j : ℕ) → suc i + j ≡ i + suc j = λ j. omega arith in
      each_kept (suc i) (one i t m).memory (two i t m').memory ts p.1
      (turn_kept i t m m' p.0 h (λ o. d 0 (subst (Open gate) here o)) (λ o. d' 0 (subst (Open gate) here o)))
      (λ j o. d (suc j) (subst (Open gate) (next j) o)) (λ j o. d' (suc j) (subst (Open gate) (next j) o))

  pub rounds_keep : (scripts memory memory' : List ℕ) → EachOpen P gate 0 (script_texts scripts) → Same memory memory'
      → EachDone gate (round_by gate sheet scripts memory authority budget)
      → EachDone gate (round_by gate sheet scripts memory' authority budget')
      → Same (round_by gate sheet scripts memory authority budget).memory
      (round_by gate sheet scripts memory' authority budget').memory
  rounds_keep scripts memory memory' p h d d' =
      rw (is_runs gate sheet scripts memory authority budget d, is_runs gate sheet scripts memory' authority budget' d')
      (each_kept 0 memory memory' (script_texts scripts) p h
      (each_done gate sheet scripts memory authority budget d)
      (each_done gate sheet scripts memory' authority budget' d'))

-- what holds of every script holds of those that are open
pub of_each : {P : List ℕ → Type 0} (gate : Gate) → ((t : List ℕ) → P t) → (i : ℕ) (ts : List (List ℕ))
    → EachOpen P gate i ts
unfolding EachOpen
of_each gate f i [] = tt
of_each gate f i (t ∷ ts) = (λ o. f t, of_each gate f (suc i) ts)

-- look: what is made of a memory. P: the scripts that leave it, whatever they answer.
module _ {A : Type 0} (look : List ℕ → A) (sheet : List ℕ) (authority budget : ℕ) (P : List ℕ → Type 0)
    (leaves : (t m : List ℕ) → P t → look (run_of sheet t m authority budget).memory ≡ look m) (gate : Gate) where
  turn_leaves : (i : ℕ) (t m : List ℕ) → (Open gate i → P t)
      → look (turn_of gate sheet authority budget i t m).memory ≡ look m
  turn_leaves i t m p =
      by_gate gate sheet authority budget i t m
      (λ o. rw (turn_open gate sheet authority budget i t m o) (leaves t m (p o)))
      (λ n. rw (turn_closed gate sheet authority budget i t m n) refl)

  each_leaves : (i : ℕ) (m : List ℕ) (ts : List (List ℕ)) → EachOpen P gate i ts
      → look (memory_after m (run_each (turn_of gate sheet authority budget) i m ts)) ≡ look m
  unfolding run_each memory_after EachOpen
  each_leaves i m [] p = refl
  each_leaves i m (t ∷ ts) p =
      each_leaves (suc i) (turn_of gate sheet authority budget i t m).memory ts p.1 ∙ turn_leaves i t m p.0

  pub round-leaves : (scripts memory : List ℕ) → EachOpen P gate 0 (script_texts scripts)
      → look (round_by gate sheet scripts memory authority budget).memory ≡ look memory
  round-leaves scripts memory p =
      by_zero (round_by gate sheet scripts memory authority budget).answer
      (λ z.
      let e = started-round gate sheet scripts memory authority budget
      (round-started gate sheet scripts memory authority budget z) in
      ap (λ (r : RanRound). look r.memory) e ∙ each_leaves 0 memory (script_texts scripts) p)
      (λ n. ap look ((demand_1.round gate sheet scripts memory authority budget).kept n))

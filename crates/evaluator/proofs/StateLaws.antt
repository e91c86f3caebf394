-- What the cells hold, after the accumulator, a location or a binding changes.
use Rattle.std.proofs.Common.{◌≡◌, ℕ, zero, suc, ◌+◌, ◌-◌, ◌<◌, ◌≤◌, Bool, true, false, cond, eqb, List, ◌∷◌, length}
use Rattle.std.proofs.Common.{drop, refl, ap, ◌∙◌, subst, arith, length-drop, eqb-true}
use borrow.Author.Tests.{eqb-false}
use Rattle.language.specs.Syntax.{Value}
use Rattle.language.specs.World.{Mem, cell_words}
use Rattle.language.specs.Substitution.{Env, update}
use Rattle.language.specs.Evaluation.{lookup}
use Rattle.script.specs.Names.{max_depth}
use Rattle.memory.specs.Words.{cell}
use Rattle.memory.specs.Memory.{cell_of}
use Rattle.cells.specs.Internal.Cells.{cell_count, load_of, store_of}
use Rattle.evaluator.specs.Internal.Cells.{first_location, work_words, Binds, bound_none, bound_more, CellsHold}
use Rattle.evaluator.specs.Internal.Nodes.{Yields}
use Rattle.cells.proofs.CellLaws.{there, cell_agree, load_there, length_store, cell-stored, cell_other}

pub binds_kept : {a b : List ℕ} {depth : ℕ} {ρ : Env} → ((k : ℕ) → k < depth → cell_of b (suc k) ≡ cell_of a (suc k))
    → Binds a depth ρ → Binds b depth ρ
binds_kept h bound_none = bound_none
binds_kept h (bound_more {depth = d} e bs) =
    bound_more (h d (omega arith) ∙ e) (binds_kept (λ k l. h k (omega arith)) bs)

module _ {work : List ℕ} {locations depth : ℕ} {M : Mem} {ρ : Env} (held : CellsHold work locations depth M ρ) where
  -- there is a cell for each of the locations, and for each depth
  pub cell_in : (k : ℕ) → k < 73 → k < cell_count work
  cell_in k h = there work k (omega (arith, held.whole))

  pub room_here : cell_words ≤ length work
  room_here = omega (arith, held.whole)

  -- the accumulator may change
  pub holds_kept : (work' : List ℕ) → drop cell_words work' ≡ drop cell_words work → CellsHold work' locations depth M ρ
  holds_kept work' e =
      record {
        whole = omega (arith, held.whole, length-drop 16 work, length-drop 16 work', ap (λ (l : List ℕ). length l) e);
        few = held.few;
        memory = λ x h. cell_agree work' work (9 + x) (omega arith) e ∙ held.memory x h;
        shallow = held.shallow;
        bindings = binds_kept (λ k l. cell_agree work' work (suc k) (omega arith) e) held.bindings;
      }

  -- a location is given a value
  pub holds_put : {words work' : List ℕ} (x : ℕ) (v : Value) → x < locations → words ≡ cell v
      → length words ≡ cell_words
      → work' ≡ store_of work (first_location + x) words → CellsHold work' locations depth (update M x v) ρ
  unfolding update
  holds_put {words} {work'} x v h w n e =
      record {
        whole = ap (λ (l : List ℕ). length l) e ∙ length_store work (9 + x) words n ∙ held.whole;
        few = held.few;
        memory = λ y l. ap (λ (u : List ℕ). cell_of u (9 + y)) e ∙ at y l (eqb x y) refl;
        shallow = held.shallow;
        bindings = binds_kept
            (λ k l. ap (λ (u : List ℕ). cell_of u (suc k)) e
            ∙ cell_other work (9 + x) words n (suc k) (λ q. omega (arith, held.shallow)))
            held.bindings;
      }
    where
      at : (y : ℕ) → y < locations → (b : Bool) → eqb x y ≡ b
          → cell_of (store_of work (9 + x) words) (9 + y) ≡ cell (cond b v (M y))
      at y l true q =
          rw (← (eqb-true x y q)) (cell-stored work (9 + x) words n (cell_in (9 + x) (omega (arith, held.few))) ∙ w)
      at y l false q = cell_other work (9 + x) words n (9 + y) (λ z. eqb-false x y q (omega arith)) ∙ held.memory y l

  -- a case binds a value
  pub holds_bind : {words work' : List ℕ} (v : Value) → depth < max_depth → words ≡ cell v → length words ≡ cell_words
      → work' ≡ store_of work (suc depth) words → CellsHold work' locations (suc depth) M (v ∷ ρ)
  holds_bind {words} {work'} v h w n e =
      record {
        whole = ap (λ (l : List ℕ). length l) e ∙ length_store work (suc depth) words n ∙ held.whole;
        few = held.few;
        memory = λ y l. ap (λ (u : List ℕ). cell_of u (9 + y)) e
            ∙ cell_other work (suc depth) words n (9 + y) (λ q. omega arith) ∙ held.memory y l;
        shallow = h;
        bindings = bound_more
            (ap (λ (u : List ℕ). cell_of u (suc depth)) e
            ∙ cell-stored work (suc depth) words n (cell_in (suc depth) (omega arith)) ∙ w)
            (binds_kept (λ k l. ap (λ (u : List ℕ). cell_of u (suc k)) e
            ∙ cell_other work (suc depth) words n (suc k) (λ q. omega arith)) held.bindings);
      }

unbind : {work : List ℕ} {depth : ℕ} {v : Value} {ρ : Env} → Binds work (suc depth) (v ∷ ρ) → Binds work depth ρ
unbind (bound_more e bs) = bs

-- a case is left
pub holds_leave : {work : List ℕ} {locations depth : ℕ} {M : Mem} {v : Value} {ρ : Env}
    → CellsHold work locations (suc depth) M (v ∷ ρ) → CellsHold work locations depth M ρ
holds_leave held =
    record {
      whole = held.whole;
      few = held.few;
      memory = held.memory;
      shallow = omega (arith, held.shallow);
      bindings = unbind held.bindings;
    }

-- the value that a variable names
pub bound-answers : {work : List ℕ} {depth : ℕ} {ρ : Env} → Binds work depth ρ → length work ≡ work_words
    → depth ≤ max_depth → (i : ℕ)
    → Yields (lookup ρ i) 0 (load_of work (depth - i))
unfolding Yields lookup
bound-answers bound_none n h i = tt
bound-answers {work} (bound_more {depth = d} e bs) n h zero =
    let z : suc d - 0 ≡ suc d = omega arith in
    (refl, ap (load_of work) z ∙ load_there work (suc d) (there work (suc d) (omega arith)) ∙ e)
bound-answers {work} (bound_more {depth = d} {ρ = ρ} e bs) n h (suc i) =
    let z : d - i ≡ suc d - suc i = omega arith in
    subst (λ (k : ℕ). Yields (lookup ρ i) 0 (load_of work k)) z (bound-answers bs n (omega arith) i)

-- A done run of an accepted script leaves values as the sheet declares them.
use mathlib.Core.Path.{◌≡◌, refl}
use mathlib.Core.Bool.{true}
use mathlib.Core.List.{List, []}
use Prim.Native.Nat.{ℕ, suc, ◌<◌}
use borrow.Author.Tests.{ltb-true}
use Rattle.logic.proofs.BooleanLaws.{both_left, both_right}
use Rattle.language.specs.Syntax.{Value, int, Expr, Cmd, Script}
use Rattle.language.specs.World.{Mem}
use Rattle.language.specs.Transition.{Out, done, spent, over, wrong, iterate}
use Rattle.language.specs.Typing.{shape}
use Rattle.language.proofs.Invariants.{UsesE, u_val, u_loc, u_var, u_plus, u_left, u_right, u_pack, u_unpack, u_pair}
use Rattle.language.proofs.Invariants.{u_proj, Uses, u_skip, u_seq, u_assign, u_while, u_case, keeps, Fits, Anywhere}
use Rattle.language.proofs.Invariants.{fits_kept}
use Rattle.language.proofs.Outcome.{fits_cmd}
use Rattle.language.proofs.TypeSoundness.{type_soundness}
use Rattle.script.specs.Lines.{SourceE, s_int, s_loc, s_var, s_plus, s_left, s_right, s_pack, s_unpack, s_pair, s_proj}
use Rattle.script.specs.Lines.{Source, s_skip, s_seq, s_assign, s_while, s_case}
use Rattle.script.specs.Names.{Counts, named_e, named}
use Rattle.sheet.specs.Sheet.{Sheet, location_count, label_count}
use Rattle.sheet.specs.Meaning.{shapes_of, world_of, world_for}
use Rattle.script_text.specs.Counts.{counts_of}
use Rattle.memory.specs.Memory.{memory_of, proper, memory_refusal}
use Rattle.memory.specs.Theorems.{Declared}
use Rattle.memory.proofs.Exactness.{memories_exactly}
use Rattle.memory.proofs.ProperLaws.{proper_kept}
use Rattle.stages.specs.Calls.{untyped, ended, accepted_run}
use Rattle.stages.proofs.StageLaws.{accepted-shape}

-- A script uses integers alone, and packs at labels of the sheet.
module _ (P : Value → Type 0) (of-int : (n : ℕ) → P (int n)) (k : Counts) where
  abbrev Named : ℕ → Type 0
  Named l = l < k.labels

  uses_expr : (d : ℕ) {e : Expr} → SourceE e → named_e k d e ≡ true → UsesE P Named e
  unfolding named_e
  uses_expr d (s_int {n}) h = u_val (of-int n)
  uses_expr d s_loc h = u_loc
  uses_expr d s_var h = u_var
  uses_expr d (s_plus a b) h = u_plus (uses_expr d a (both_left _ _ h)) (uses_expr d b (both_right _ _ h))
  uses_expr d (s_left a) h = u_left (uses_expr d a (both_right _ _ h))
  uses_expr d (s_right a) h = u_right (uses_expr d a (both_right _ _ h))
  uses_expr d (s_pack {l} a) h = u_pack (ltb-true l k.labels (both_left _ _ h)) (uses_expr d a (both_right _ _ h))
  uses_expr d (s_unpack a) h = u_unpack (uses_expr d a (both_right _ _ h))
  uses_expr d (s_pair a b) h =
      let r = both_right _ _ h in
      u_pair (uses_expr d a (both_left _ _ r)) (uses_expr d b (both_right _ _ r))
  uses_expr d (s_proj a) h = u_proj (uses_expr d a h)

  uses : (d : ℕ) {c : Cmd} → Source c → named k d c ≡ true → Uses P Named c
  unfolding named
  uses d s_skip h = u_skip
  uses d (s_seq a b) h = u_seq (uses d a (both_left _ _ h)) (uses d b (both_right _ _ h))
  uses d (s_assign e) h = u_assign (uses_expr d e (both_right _ _ h))
  uses d (s_while e c) h = u_while (uses_expr d e (both_left _ _ h)) (uses d c (both_right _ _ h))
  uses d (s_case e a b) h =
      let r = both_right _ _ (both_right _ _ h) in
      u_case (uses_expr d e (both_left _ _ h)) (uses (suc d) a (both_left _ _ r)) (uses (suc d) b (both_right _ _ r))

int-proper : (labels n : ℕ) → proper labels (int n) ≡ true
unfolding proper
int-proper labels n = refl

-- What a done run leaves is as the sheet declares it.
pub left_declared : (s : Sheet) (c : Cmd) → Source c → named (counts_of s) 0 c ≡ true → shape (shapes_of s) [] c ≡ true
    → (authority b l : ℕ) (M M' : Mem) → Declared s M
    → iterate (world_of s authority) b M c ≡ done M' l → Declared s M'
left_declared s c src names t authority b l M M' d h =
    let W = world_of s authority in
    let k = counts_of s in
    record {
      typed = (type_soundness (shapes_of s) W (λ n. refl)).done_typed c t M d.typed b l M' h;
      fitting = keeps Fits Anywhere fits_kept W b l M M' c (fits_cmd (shapes_of s) [] c t) d.fitting h;
      named =
          keeps (λ v. proper (label_count s) v ≡ true) (λ n. n < label_count s)
          (proper_kept (label_count s)) W b l M M' c
          (uses (λ v. proper (label_count s) v ≡ true) (int-proper (label_count s)) k 0 src names) d.named h;
    }

-- So a memory that isn't refused stays so, however the run ends.
pub left_unrefused : (s : Sheet) (p : Script) → Source p.command → named (counts_of s) 0 p.command ≡ true
    → untyped s p ≡ 0
    → (memory : List ℕ) (authority budget : ℕ) → memory_refusal s memory ≡ 0
    → memory_refusal s (accepted_run s memory authority budget p).memory ≡ 0
unfolding ended
left_unrefused s p src names t memory authority budget m =
    go (iterate (world_for s authority p) budget (memory_of memory) p.command) refl
  where
    go : (o : Out) → iterate (world_for s authority p) budget (memory_of memory) p.command ≡ o
        → memory_refusal s (ended (location_count s) budget memory o).memory ≡ 0
    go (done M l) e =
        (memories_exactly s).accepted M (left_declared s p.command src names (accepted-shape s p t) authority budget l
        (memory_of memory) M ((memories_exactly s).values memory m) e)
    go spent e = m
    go (over l) e = m
    go wrong e = m

-- A whole run: the memory copied into the cells, the script's command, and the memory copied back.
use mathlib.Core.Path.{◌≡◌, refl, sym, ap, subst, ◌∙◌}
use mathlib.Core.Bool.{true}
use mathlib.Core.List.{List, [], ◌++◌, append_assoc}
use Prim.Native.Nat.{ℕ, zero, ◌+◌, ◌*◌, ◌-◌, ◌≤◌, ◌<◌}
use native.Mathlib.Omega.{arith}
use borrow.Rule.Slice.PartMut.{put_mid}
use Rattle.std.proofs.lemmas.Slice.{put_mid-paste}
use lib.ListN.{length-replicate, replicate, length, take, drop, take-append-drop, length-drop}
use lib.Seq.{take_all, drop-drop, drop-append-add, length-take-le, paste, length-paste}
use Rattle.language.specs.Syntax.{Cmd}
use Rattle.language.specs.World.{Mem, cell_words}
use Rattle.language.specs.Transition.{Out, iterate}
use Rattle.language.proofs.Substitution.{close_none}
use Rattle.script.specs.Lines.{Source, cmd_lines}
use Rattle.script.specs.Internal.Code.{code}
use Rattle.script.specs.Names.{Counts, named}
use Rattle.sheet.specs.Sheet.{Sheet, label_count, location_count, max_labels, formed, max_locations}
use Rattle.sheet.specs.Internal.Tables.{labels_in, table_of}
use Rattle.sheet.specs.Internal.Powers.{powers_in}
use Rattle.sheet.specs.Meaning.{world_of}
use Rattle.sheet.proofs.MeaningLaws.{below_in_lem, reads_in_lem, writes_in_lem}
use Rattle.sheet.proofs.NumberLaws.{has_wanted}
use Rattle.sheet.proofs.FormLaws.{formed_facts, locations-few}
use Rattle.sheet.proofs.TableLaws.{labels_in_lem}
use Rattle.sheet.proofs.PowerLaws.{writes_by, reads_by_lem}
use Rattle.memory.specs.Words.{cell}
use Rattle.memory.specs.Memory.{cell_of, memory_of, words_of, as_declared, well_formed}
use Rattle.memory.proofs.CellsLaws.{cells_ext, cells_all}
use Rattle.memory.proofs.MemoryLaws.{value_words}
use Rattle.evaluator.specs.Internal.Cells.{first_location, work_words, CellsHold, bound_none}
use Rattle.evaluator.specs.Internal.Nodes.{Tells}
use Rattle.interpreter.specs.Internal.Post.{Target, Finishes, finish_done, finish_spent, finish_over}
use Rattle.interpreter.specs.Internal.Post.{Stepped, finish_wrong, Execs}
use Rattle.interpreter.specs.Internal.Run.{RunLeaves, Runs}
use Rattle.cells.proofs.CellLaws.{cell-front}

-- ---- a sheet's table, and an authority's powers by it, say what the sheet means

tells-sheet : (s : Sheet) → formed s ≡ true → (authority : ℕ)
    → Tells (record { table = table_of s; powers = powers_in (table_of s) authority }) (world_of s authority)
unfolding label_count
tells-sheet s fm authority =
    let few : labels_in (table_of s) ≤ max_labels = omega (arith, labels_in_lem s, (formed_facts s fm).few_labels) in
    record {
      reads_is = λ l h. reads_by_lem (table_of s) authority l few h ∙ reads_in_lem s fm authority l;
      writes_is = λ l h. writes_by (table_of s) authority l few h ∙ writes_in_lem s fm authority l;
      below_is = below_in_lem s fm;
      type_is = λ v t. has_wanted s fm v t;
    }

-- ---- cells of a part of a list

cell_shifted : (p x : List ℕ) (j i : ℕ) → length p ≡ cell_words * j → cell_of (p ++ x) (j + i) ≡ cell_of x i
unfolding cell_of
cell_shifted p x j i e =
    let n : 16 * (j + i) ≡ length p + 16 * i = omega arith in
    ap (take 16) (ap (λ (m : ℕ). drop m (p ++ x)) n ∙ drop-append-add p x (16 * i))

cell_dropped : (ws : List ℕ) (j i : ℕ) → cell_of (drop (cell_words * j) ws) i ≡ cell_of ws (j + i)
unfolding cell_of
cell_dropped ws j i =
    let n : 16 * j + 16 * i ≡ 16 * (j + i) = omega arith in
    ap (take 16) (drop-drop (16 * i) (16 * j) ws ∙ ap (λ (m : ℕ). drop m ws) n)

cell_taken : (ws : List ℕ) (n x : ℕ) → cell_words * x + cell_words ≤ n → n ≤ length ws
    → cell_of (take n ws) x ≡ cell_of ws x
cell_taken ws n x h l =
    sym (cell-front (take n ws) (drop n ws) x (omega (arith, length-take-le n ws l)))
    ∙ ap (λ (u : List ℕ). cell_of u x) (take-append-drop n ws)

-- ---- the memory

-- the cells before a run, and with the memory's words stored
abbrev pub no_cells : List ℕ
no_cells = replicate work_words 0

pub cells-whole : length no_cells ≡ work_words
cells-whole = length-replicate {A = ℕ} work_words 0

pub memory-stored : (memory words : List ℕ) → words ≡ memory
    → put_mid (cell_words * first_location) (cell_words * first_location + length memory - cell_words * first_location)
    no_cells words
    ≡ paste no_cells (cell_words * first_location) memory (length memory)
memory-stored memory words e =
    put_mid-paste 144 (144 + length memory - 144) no_cells words memory (length memory) e (omega arith) refl

-- each location of a well-formed memory holds its value's words
memory-cell : (s : Sheet) (memory : List ℕ) → length memory ≡ cell_words * location_count s
    → well_formed s memory ≡ true
    → (x : ℕ) → x < location_count s
    → cell_of memory x ≡ cell (memory_of memory x)
unfolding well_formed
memory-cell s memory n wf x h = sym (value_words (location_count s) (label_count s) (as_declared s) memory n wf x h)

module _ (work memory : List ℕ) (whole : length work ≡ work_words) (locations : ℕ)
    (n : length memory ≡ cell_words * locations) (few : locations ≤ 64) where
  pub copied_in : (work' : List ℕ) → work' ≡ paste work (cell_words * first_location) memory (length memory) → (M : Mem)
      → ((x : ℕ) → x < locations → cell_of memory x ≡ cell (M x)) → CellsHold work' locations 0 M []
  copied_in work' e M h =
      record {
        whole = ap (λ (l : List ℕ). length l) e
            ∙ length-paste work 144 memory (length memory) (omega arith) (omega arith) ∙ whole;
        few = few;
        memory = λ x l. ap (λ (u : List ℕ). cell_of u (9 + x)) e ∙ there x l ∙ h x l;
        shallow = omega arith;
        bindings = bound_none;
      }
    where
      there : (x : ℕ) → x < locations → cell_of (paste work 144 memory (length memory)) (9 + x) ≡ cell_of memory x
      there x l =
          let q : List ℕ = drop (144 + length memory) work in
          ap (λ (u : List ℕ). cell_of u (9 + x)) (append_assoc (take 144 work) (take (length memory) memory) q)
          ∙ cell_shifted (take 144 work) (take (length memory) memory ++ q) 9 x (length-take-le 144 work (omega arith))
          ∙ ap (λ (u : List ℕ). cell_of (u ++ q) x) (take_all (length memory) memory (omega arith))
          ∙ cell-front memory q x (omega arith)

  pub copied_out : (work' memory' : List ℕ) (M : Mem) → CellsHold work' locations 0 M []
      → memory' ≡ take (length memory) (drop (cell_words * first_location) work')
      → memory' ≡ words_of locations M
  unfolding words_of
  copied_out work' memory' M held e =
      let part : List ℕ = take (length memory) (drop 144 work') in
      let d : length memory ≤ length (drop 144 work') = omega (arith, held.whole, length-drop 144 work') in
      e ∙ sym (cells_all locations part (length-take-le (length memory) (drop 144 work') d ∙ n))
      ∙ cells_ext locations (λ (x : ℕ). cell_of part x) (λ (x : ℕ). cell (M x))
      (λ x l. cell_taken (drop 144 work') (length memory) x (omega arith) d ∙ cell_dropped work' 9 x ∙ held.memory x l)

-- ---- the run

-- where the run of a whole script comes out
abbrev whole_target : List ℕ → ℕ → Target
whole_target ws locations = record { code = ws; rest = []; locations = locations; depth = 0; env = [] }

module _ (memory : List ℕ) (budget : ℕ) {ws cells : List ℕ} {locations : ℕ} {d : Stepped} where
  done_at : {memory' : List ℕ} {o : Out} → d.state ≡ 0 → Finishes (whole_target ws locations) d cells o
      → ((M : Mem) → CellsHold cells locations 0 M [] → memory' ≡ words_of locations M)
      → RunLeaves locations budget memory o 0 (budget - d.left) memory'
  unfolding RunLeaves
  done_at z (finish_done {M = M} s l held n) k = (refl, ap (λ (i : ℕ). budget - i) l, k M held)
  done_at z (finish_spent s l) k = absurd (omega arith)
  done_at z (finish_over s l) k = absurd (omega arith)
  done_at z finish_wrong k = tt

  kept_at : {o : Out} → (d.state ≡ 0 → ⊥) → Finishes (whole_target ws locations) d cells o
      → RunLeaves locations budget memory o (d.state) (budget - d.left) memory
  unfolding RunLeaves
  kept_at z (finish_done s l held n) = absurd (z s)
  kept_at z (finish_spent s l) = (s, omega arith, refl)
  kept_at z (finish_over s l) = (s, ap (λ (i : ℕ). budget - i) l, refl)
  kept_at z finish_wrong = tt

-- a memory of more locations than a sheet has
pub run_large : {ws table memory : List ℕ} {authority budget : ℕ} → cell_words * max_locations < length memory
    → Runs ws table memory authority budget 4 0 memory
run_large h =
    record {
      long = refl;
      untouched = λ z. refl;
      within = omega arith;
      means = λ s k c fm te le ke src nm w n wf. absurd (omega (arith, locations-few s fm));
    }

module _ (authority : ℕ) {ws table : List ℕ} {budget : ℕ} (work memory : List ℕ) (whole : length work ≡ work_words)
    {start : List ℕ}
    (e : start ≡ paste work (cell_words * first_location) memory (length memory)) {d : Stepped} {cells : List ℕ}
    {powers : ℕ} (may : powers ≡ powers_in table authority)
    (x : Execs (record { table = table; powers = powers })
    (record { code = ws; at = 0; depth = 0; cells = start }) budget d cells) where
  -- how the command's run ends
  run_ends : (s : Sheet) (k : Counts) (c : Cmd) → formed s ≡ true → table ≡ table_of s → k.labels ≡ label_count s
      → k.locations ≡ location_count s → Source c → named k 0 c ≡ true
      → ws ≡ code (cmd_lines c []) → length memory ≡ cell_words * location_count s → well_formed s memory ≡ true
      → Finishes (whole_target ws (location_count s)) d cells
      (iterate (world_of s authority) budget (memory_of memory) c)
  run_ends s k c fm te le ke src nm w n wf =
      let held = copied_in work memory whole (location_count s) n (locations-few s fm) start e (memory_of memory)
      (memory-cell s memory n wf) in
      let t : Tells (record { table = table; powers = powers }) (world_of s authority) =
      rw (may, te) (tells-sheet s fm authority) in
      let m = x.means (record { world = world_of s authority; counts = k; env = [] }) (memory_of memory) c []
      (record { tells = t; labels = le ∙ sym (ap labels_in te ∙ labels_in_lem s fm); cells = rw ke held })
      (record { source = src; names = nm; lines = w }) in
      subst (λ (u : Cmd). Finishes (whole_target ws (location_count s)) d cells
      (iterate (world_of s authority) budget (memory_of memory) u)) (close_none zero c) (rw ke at m)

  pub run_done : {memory' : List ℕ} → d.state ≡ 0 → length memory' ≡ length memory
      → memory' ≡ take (length memory) (drop (cell_words * first_location) cells)
      → Runs ws table memory authority budget 0 (budget - d.left) memory'
  run_done {memory'} z l p =
      record {
        long = l;
        untouched = λ q. absurd (q refl);
        within = omega arith;
        means = λ s k c fm te le ke src nm w n wf.
            done_at memory budget z (run_ends s k c fm te le ke src nm w n wf)
            (λ M held. copied_out work memory whole (location_count s) n (locations-few s fm) cells memory' M held p);
      }

  pub run_kept : (d.state ≡ 0 → ⊥)
      → Runs ws table memory authority budget (d.state) (budget - d.left) memory
  run_kept z =
      record {
        long = refl;
        untouched = λ q. refl;
        within = omega arith;
        means = λ s k c fm te le ke src nm w n wf. kept_at memory budget z (run_ends s k c fm te le ke src nm w n wf);
      }

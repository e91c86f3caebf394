-- The theorems of specs/Theorems.
use mathlib.Core.Logic.{◌↔◌}
use mathlib.Core.Path.{◌≡◌, sym, ap, ap₂, ◌∙◌, fun_ext}
use mathlib.Core.Bool.{Bool, true}
use mathlib.Core.List.{List}
use Prim.Native.Nat.{ℕ, ◌*◌, ◌<◌, ◌≤◌}
use native.Mathlib.Omega.{arith}
use borrow.Author.Tests.{eq-eqb}
use Rattle.sets.proofs.Walks.{by_below}
use lib.ListN.{length, get_or-eq_default}
use Rattle.language.specs.Syntax.{t_int, has}
use Rattle.language.specs.World.{Mem, cell_words}
use Rattle.language.specs.View.{seen, mask, mask_mem}
use Rattle.language.specs.Declarations.{WellTyped, Fitting}
use Rattle.sheet.specs.Sheet.{Sheet, Location, ty_of, label_count, location_no, location_count, formed}
use Rattle.sheet.specs.Internal.Tables.{table_of, type_in, home_in, reads_in}
use Rattle.sheet.specs.Meaning.{shapes_of, reads_no}
use Rattle.sheet.proofs.TypeLaws.{ty_0}
use Rattle.sheet.proofs.TableLaws.{types_in_lem, labels_in_lem, locations_in_lem, type_in_lem, home_in_lem}
use Rattle.sheet.proofs.MeaningLaws.{reads_in_lem}
use Rattle.sheet.proofs.NumberLaws.{type_in_there, has_no_lem}
use Rattle.memory.specs.Words.{cell, value_of}
use Rattle.memory.specs.Memory.{memory_of, words_of, formed_by, slice_refusal, refusal_by, as_declared, well_formed}
use Rattle.memory.specs.Memory.{memory_refusal}
use Rattle.memory.specs.View.{view_by, sees_no, view_words, view_refusal}
use Rattle.memory.specs.Internal.InTable.{view_leaves, as_declared_in, well_formed_in, refusal_in, sees_in, view_in}
use Rattle.memory.specs.Internal.InTable.{view_refusal_in, view_leaves_in, TableAgrees}
use Rattle.memory.specs.Theorems.{WordsExactly, CellExactly, Declared, MemoriesExactly, MasksExactly}
use Rattle.memory.specs.Theorems.{ViewsExactly}
use Rattle.memory.proofs.WordLaws.{read_enc, read_exact, cell_inj, length-cell}
use Rattle.memory.proofs.CellsLaws.{cells_ext, cells_inj}
use Rattle.memory.proofs.MemoryLaws.{exact_parts, cell_holds, value_past, value_passes, value_proper, value_fits}
use Rattle.memory.proofs.MemoryLaws.{words_back, length_words, values_back, words_formed, unrefused-length}
use Rattle.memory.proofs.MemoryLaws.{unrefused-formed}
use Rattle.memory.proofs.ViewLaws.{seen_size, mask_size, view-cell}

pub words_exactly : WordsExactly
words_exactly = record { read_back = read_enc; no_other = read_exact; one_value = cell_inj }

pub cell_exactly : CellExactly
cell_exactly labels test ws = (
  λ h. let (p, q, e) = exact_parts labels test ws (value_of ws) h in (value_of ws, p, q, e),
  λ k. cell_holds labels test ws k.0 k.1 k.2 k.3,
)

-- ---- memories

module _ (s : Sheet) where
  -- a number past the last location has the type int
  past_type : (x : ℕ) → location_count s ≤ x → ty_of s (location_no s x).type ≡ t_int
  unfolding location_no location_count
  past_type x h = ap (λ (l : Location). ty_of s l.type)
      (get_or-eq_default s.locations (record { type = 0; label = 0 }) h) ∙ ty_0 s

  module _ (ws : List ℕ) (h : memory_refusal s ws ≡ 0) where
    pub whole : length ws ≡ cell_words * location_count s
    unfolding memory_refusal
    whole = unrefused-length (location_count s) (well_formed s ws) ws h

    well_formed_lem : formed_by (location_count s) (label_count s) (as_declared s) ws ≡ true
    unfolding memory_refusal well_formed
    well_formed_lem = unrefused-formed (location_count s) (well_formed s ws) ws h

    pub fitting_values : Fitting (memory_of ws)
    fitting_values = value_fits (location_count s) (label_count s) (as_declared s) ws whole well_formed_lem

    typed_values : WellTyped (shapes_of s) (memory_of ws)
    unfolding as_declared has
    typed_values x =
        by_below x (location_count s)
        (value_passes (location_count s) (label_count s) (as_declared s) ws whole well_formed_lem x)
        (λ k. ap₂ has (value_past ws x (omega (arith, whole))) (past_type x k))

    pub declared_values : Declared s (memory_of ws)
    declared_values =
        record {
          typed = typed_values;
          fitting = fitting_values;
          named = value_proper (location_count s) (label_count s) (as_declared s) ws whole well_formed_lem;
        }

    pub words_of_values : words_of (location_count s) (memory_of ws) ≡ ws
    words_of_values = words_back (location_count s) (label_count s) (as_declared s) ws whole well_formed_lem

  module _ (M : Mem) (d : Declared s M) where
    pub words_accepted : memory_refusal s (words_of (location_count s) M) ≡ 0
    unfolding memory_refusal refusal_by slice_refusal well_formed as_declared
    words_accepted =
        simp (
          eq-eqb _ _ (length_words (location_count s) M (λ x l. d.fitting x)),
          words_formed (location_count s) M (λ x l. d.fitting x) (label_count s) (as_declared s)
              (λ x l. d.named x) (λ x l. d.typed x),
        )

    pub declared_back : (x : ℕ) → x < location_count s → memory_of (words_of (location_count s) M) x ≡ M x
    declared_back = values_back (location_count s) M (λ x l. d.fitting x)

pub memories_exactly : MemoriesExactly
memories_exactly s = record {
  values = declared_values s;
  words = words_of_values s;
  accepted = words_accepted s;
  values_back = declared_back s;
}

-- ---- views

module _ (n : ℕ) (sees shows : ℕ → Bool) where
  -- the view is the words of the masked memory
  pub view_words_lem : (M : Mem) → view_by n sees shows M ≡ words_of n (mask_mem sees shows M)
  unfolding view_by words_of mask_mem
  view_words_lem M = cells_ext n _ _ (λ x l. view-cell (sees x) (mask shows (M x)))

  masked_fits : (M : Mem) → Fitting M → Fitting (mask_mem sees shows M)
  unfolding mask_mem
  masked_fits M h x =
      seen_size (sees x) (mask shows (M x)) cell_words (omega (arith, mask_size shows (M x), h x)) (omega arith)

  module _ (M N : Mem) (h : Fitting M) (k : Fitting N) where
    pub masks_of_view : view_by n sees shows M ≡ view_by n sees shows N → (x : ℕ) → x < n
        → mask_mem sees shows M x ≡ mask_mem sees shows N x
    unfolding words_of
    masks_of_view e x l =
        cell_inj _ _
        (cells_inj n (λ (y : ℕ). cell (mask_mem sees shows M y)) (λ (y : ℕ). cell (mask_mem sees shows N y))
        (λ y m. length-cell (mask_mem sees shows M y) (masked_fits M h y))
        (λ y m. length-cell (mask_mem sees shows N y) (masked_fits N k y))
        (sym (view_words_lem M) ∙ e ∙ view_words_lem N) x l)

  pub view_of_masks : (M N : Mem) → ((x : ℕ) → x < n → mask_mem sees shows M x ≡ mask_mem sees shows N x)
      → view_by n sees shows M ≡ view_by n sees shows N
  unfolding words_of
  view_of_masks M N e = view_words_lem M ∙ cells_ext n _ _ (λ x l. ap cell (e x l)) ∙ sym (view_words_lem N)

module _ (s : Sheet) (sees shows : ℕ → Bool) where
  abbrev Masked : Mem → Mem
  Masked M = mask_mem sees shows M

  -- what is shown of a memory on the sheet
  abbrev Shown : Mem → List ℕ
  Shown M = view_by (location_count s) sees shows M

  module _ (ws us : List ℕ) (h : memory_refusal s ws ≡ 0) (k : memory_refusal s us ≡ 0) where
    -- past the last location both memories have the integer 0
    all_masks : ((x : ℕ) → x < location_count s → Masked (memory_of ws) x ≡ Masked (memory_of us) x) → (x : ℕ)
        → Masked (memory_of ws) x ≡ Masked (memory_of us) x
    unfolding mask_mem
    all_masks e x =
        by_below x (location_count s) (e x)
        (λ m. ap (λ v. seen (sees x) (mask shows v))
        (value_past ws x (omega (arith, whole s ws h)) ∙ sym (value_past us x (omega (arith, whole s us k)))))

    same_words_lem : (Shown (memory_of ws) ≡ Shown (memory_of us))
        ↔ ((x : ℕ) → Masked (memory_of ws) x ≡ Masked (memory_of us) x)
    same_words_lem = (
      λ e. all_masks (masks_of_view (location_count s) sees shows (memory_of ws) (memory_of us) (fitting_values s ws h)
          (fitting_values s us k) e),
      λ e. view_of_masks (location_count s) sees shows (memory_of ws) (memory_of us) (λ x l. e x),
    )

  same_of_values : (M N : Mem) → Declared s M → Declared s N → ((x : ℕ) → Masked M x ≡ Masked N x)
      → Shown (memory_of (words_of (location_count s) M)) ≡ Shown (memory_of (words_of (location_count s) N))
  unfolding mask_mem
  same_of_values M N d e h =
      view_of_masks (location_count s) sees shows _ _
      (λ x l. ap (λ v. seen (sees x) (mask shows v)) (declared_back s M d x l) ∙ h x
      ∙ ap (λ v. seen (sees x) (mask shows v))
      (sym (declared_back s N e x l)))

pub masks_exactly : MasksExactly
masks_exactly s sees shows =
    record {
      same_words_lem = same_words_lem s sees shows;
      same_of_values = same_of_values s sees shows;
      no_longer = mask_size shows;
    }

pub views_exactly : ViewsExactly
unfolding view_words
views_exactly s g =
    let m = masks_exactly s (sees_no s g) (reads_no s g) in
    record { same_view = m.same_words_lem; same_of_values = m.same_of_values; no_longer = m.no_longer }

-- ---- the table

module _ (s : Sheet) (fm : formed s ≡ true) where
  fits_in_table : as_declared_in (table_of s) ≡ as_declared s
  unfolding as_declared_in as_declared
  fits_in_table = fun_ext λ x. fun_ext λ v.
      has_no_lem s fm v (type_in (table_of s) x) (rw (types_in_lem s fm) at (type_in_there s fm x))
      ∙ ap (λ (n : ℕ). has v (ty_of s n)) (type_in_lem s fm x)

  refusal-in-table : (ws : List ℕ) → refusal_in (table_of s) ws ≡ memory_refusal s ws
  unfolding refusal_in well_formed_in memory_refusal well_formed
  refusal-in-table ws = rw (locations_in_lem s fm, labels_in_lem s fm, fits_in_table)

  view-in-table : (g : ℕ) (ws : List ℕ) → view_in (table_of s) g ws ≡ view_words s g ws
  unfolding view_in view_words sees_in sees_no
  view-in-table g ws =
      let a : reads_in (table_of s) g ≡ reads_no s g = fun_ext λ l. reads_in_lem s fm g l in
      let b : sees_in (table_of s) g ≡ sees_no s g =
      fun_ext λ x. reads_in_lem s fm g (home_in (table_of s) x) ∙ ap (reads_no s g) (home_in_lem s fm x) in
      rw (locations_in_lem s fm, a, b)

  pub table_agrees : TableAgrees s
  unfolding view_refusal_in view_refusal view_leaves_in view_leaves
  table_agrees =
      record {
        refusal = refusal-in-table;
        reads = reads_in_lem s fm;
        view = view-in-table;
        view_refusal_lem = λ ws len. rw (locations_in_lem s fm, refusal-in-table ws);
        view_leaves_lem = λ g ws before. rw (locations_in_lem s fm, refusal-in-table ws, view-in-table g ws);
      }

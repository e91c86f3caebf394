-- What is claimed of words, memories and views, as types. The proofs are `words_exactly`, `cell_exactly`,
-- `memories_exactly`, `views_exactly` and `masks_exactly` (proofs/Exactness.antt).
use Rattle.std.specs.Prelude.{◌↔◌, ◌≡◌, Bool, true, List, ℕ, ◌<◌, ◌≤◌}
use Rattle.language.specs.Syntax.{Value, size}
use Rattle.language.specs.World.{Mem}
use Rattle.language.specs.View.{mask, mask_mem}
use Rattle.language.specs.Declarations.{WellTyped, Fitting}
use Rattle.sheet.specs.Sheet.{Sheet, label_count, location_count}
use Rattle.sheet.specs.Meaning.{shapes_of, reads_no}
use Rattle.memory.specs.Words.{enc, cell, read_of, value_of}
use Rattle.memory.specs.Memory.{memory_of, words_of, proper, holds_by, memory_refusal}
use Rattle.memory.specs.View.{view_by, sees_no, view_words}

-- Reading gives back the value whose words stand there, and what it gives that is proper stands there; a cell is
-- that of one value.
pub record WordsExactly : Type 0 where
  pub read_back : (v : Value) (rest : List ℕ) → read_of (enc v rest) ≡ (v, rest)
  pub no_other : (labels : ℕ) (ws : List ℕ) → proper labels (value_of ws) ≡ true → enc (value_of ws) (read_of ws).1 ≡ ws
  pub one_value : (v w : Value) → cell v ≡ cell w → v ≡ w

-- A location's words pass exactly if they are the cell of a proper value that passes the test.
abbrev pub CellExactly : Type 0
CellExactly = (labels : ℕ) (test : Value → Bool) (ws : List ℕ)
    → (holds_by labels test ws ≡ true) ↔ ((v : Value) × (proper labels v ≡ true) × (test v ≡ true) × (cell v ≡ ws))

-- The values of a memory are as the sheet declares them.
pub record Declared (s : Sheet) (M : Mem) : Type 0 where
  pub typed : WellTyped (shapes_of s) M
  pub fitting : Fitting M
  pub named : (x : ℕ) → proper (label_count s) (M x) ≡ true

-- A slice is accepted exactly if it is the words of values as declared.
pub record MemoryExactly (s : Sheet) : Type 0 where
  pub values : (ws : List ℕ) → memory_refusal s ws ≡ 0 → Declared s (memory_of ws)
  pub words : (ws : List ℕ) → memory_refusal s ws ≡ 0 → words_of (location_count s) (memory_of ws) ≡ ws
  pub accepted : (M : Mem) → Declared s M → memory_refusal s (words_of (location_count s) M) ≡ 0
  pub values_back : (M : Mem) → Declared s M → (x : ℕ) → x < location_count s
      → memory_of (words_of (location_count s) M) x ≡ M x

abbrev pub MemoriesExactly : Type 0
MemoriesExactly = (s : Sheet) → MemoryExactly s

-- Two memories give a group the same view exactly if their masked values are equal. A mask is no longer than the value.
pub record ViewExactly (s : Sheet) (g : ℕ) : Type 0 where
  pub same_view : (ws us : List ℕ) → memory_refusal s ws ≡ 0 → memory_refusal s us ≡ 0
      → (view_words s g ws ≡ view_words s g us)
      ↔ ((x : ℕ)
      → mask_mem (sees_no s g) (reads_no s g) (memory_of ws) x ≡ mask_mem (sees_no s g) (reads_no s g) (memory_of us) x)
  pub same_of_values : (M N : Mem) → Declared s M → Declared s N
      → ((x : ℕ) → mask_mem (sees_no s g) (reads_no s g) M x ≡ mask_mem (sees_no s g) (reads_no s g) N x)
      → view_words s g (words_of (location_count s) M) ≡ view_words s g (words_of (location_count s) N)
  pub no_longer : (v : Value) → size (mask (reads_no s g) v) ≤ size v

abbrev pub ViewsExactly : Type 0
ViewsExactly = (s : Sheet) (g : ℕ) → ViewExactly s g

-- By any rule of who sees which label: the words that are shown of two well-formed memories are equal exactly if their
-- masked values are, and what is shown of a value takes no more words than the value. It is so of views (`view_words`),
-- and of what is left where a group is distrusted (`trusted_words`).
pub record MaskExactly (s : Sheet) (sees shows : ℕ → Bool) : Type 0 where
  pub same_words_lem : (ws us : List ℕ) → memory_refusal s ws ≡ 0 → memory_refusal s us ≡ 0
      → (view_by (location_count s) sees shows (memory_of ws) ≡ view_by (location_count s) sees shows (memory_of us))
      ↔ ((x : ℕ) → mask_mem sees shows (memory_of ws) x ≡ mask_mem sees shows (memory_of us) x)
  pub same_of_values : (M N : Mem) → Declared s M → Declared s N
      → ((x : ℕ) → mask_mem sees shows M x ≡ mask_mem sees shows N x)
      → view_by (location_count s) sees shows (memory_of (words_of (location_count s) M))
      ≡ view_by (location_count s) sees shows (memory_of (words_of (location_count s) N))
  pub no_longer : (v : Value) → size (mask shows v) ≤ size v

abbrev pub MasksExactly : Type 0
MasksExactly = (s : Sheet) (sees shows : ℕ → Bool) → MaskExactly s sees shows

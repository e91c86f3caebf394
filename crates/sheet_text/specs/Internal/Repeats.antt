-- What the code looks for to find a repeat in a table: the same words.
use Rattle.std.specs.Prelude.{Bool, List, ℕ, ◌-◌, ◌≤◌, eqb, drop}
use Rattle.std.specs.Cmp.Lexicographic.{pointwise}
use Rattle.std.specs.Simd.{first_chunks}
use Rattle.logic.specs.Booleans.{either}
use Rattle.labels.specs.Internal.Tables.{label_size}
use Rattle.sheet.specs.Sheet.{max_labels, repeated}
use Rattle.sheet.specs.Internal.Tables.{max_types, parts_place, label_place, types_in, labels_in}

-- the types and the labels of a table have room in it, and the types without parts are there
pub record CountsFit (t : List ℕ) : Type 0 where
  pub types_from : 3 ≤ types_in t
  pub types_to : types_in t ≤ max_types
  pub labels_to : labels_in t ≤ max_labels

-- two lists of words are the same
abbrev pub same_words : List ℕ → List ℕ → Bool
same_words x y = pointwise eqb y x

-- of n lists of `size` words each, from the word at `at` on, one comes again
abbrev pub comes_again : ℕ → ℕ → ℕ → List ℕ → Bool
comes_again size n at t = repeated same_words (first_chunks size n (drop at t))

-- a sum or a pair, the first of which is type 3, or a label comes again
unfoldable pub repeats_in : List ℕ → Bool
repeats_in t =
    either (comes_again 2 (types_in t - 3) (parts_place 3) t) (comes_again label_size (labels_in t) (label_place 0) t)

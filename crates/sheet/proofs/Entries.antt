-- Reading an entry or a label of a table, within its list and past it.
use mathlib.Core.Path.{◌≡◌}
use mathlib.Core.List.{List}
use Prim.Native.Nat.{ℕ, ◌+◌, ◌*◌, ◌<◌, ◌≤◌}
use borrow.Author.Tests.{lt-ltb, le-ltb}
use lib.ListN.{get_or}
use Rattle.labels.specs.Labels.{bottom_of}
use Rattle.labels.specs.Internal.Tables.{label_at}
use Rattle.sheet.specs.Internal.Tables.{label_place, labels_in, everyone_in, entry_in, label_in}

module _ (t : List ℕ) (count base i : ℕ) where
  pub entry_there : i < count → entry_in t count base i ≡ get_or t (base + 2 * i) 0
  unfolding entry_in
  entry_there h = simp (lt-ltb _ _ h)

  pub entry_past : count ≤ i → entry_in t count base i ≡ 0
  unfolding entry_in
  entry_past h = simp (le-ltb _ _ h)

module _ (t : List ℕ) (l : ℕ) {count : ℕ} (counted : count ≡ labels_in t) where
  pub label_there : l < count → label_in t l ≡ label_at t (label_place l)
  unfolding label_in
  label_there h = simp (lt-ltb _ _ (rw counted at h))

  pub label_past : {all : ℕ} → all ≡ everyone_in t → count ≤ l → label_in t l ≡ bottom_of all
  unfolding label_in
  label_past e h = rw e (simp (le-ltb _ _ (rw counted at h)))

-- Labels in a table of words: the sets of readers of one label, owner by owner, then its sets of writers.
use Rattle.std.specs.Prelude.{cond, List, ◌++◌, ℕ, ◌+◌, leb, length, get_or, take, drop}
use Rattle.sets.specs.Sets.{tab}
use Rattle.labels.specs.declared.Label.{Label}
use Rattle.labels.specs.Labels.{owners}

-- the number of words that a label takes
abbrev pub label_size : ℕ
label_size = owners + owners

-- a label as words
unfoldable pub label_words : Label → List ℕ
label_words a = a.readers ++ a.writers

-- one set for each owner, from the word at `at` on; a word past the end counts as 0
unfoldable pub sets_at : List ℕ → ℕ → List ℕ
sets_at t at = tab owners (λ (o : ℕ). get_or t (at + o) 0)

-- the label whose words start at the word `at`
unfoldable pub label_at : List ℕ → ℕ → Label
label_at t at = record { readers = sets_at t at; writers = sets_at t (at + owners) }

-- the table with a label's words stored from the word `at` on; unchanged where they don't fit
unfoldable pub label_put : List ℕ → ℕ → Label → List ℕ
label_put t at a = cond (leb (at + label_size) (length t)) (take at t ++ label_words a ++ drop (at + label_size) t) t

-- What the private functions over a value's words ensure.
use Rattle.std.specs.Prelude.{◌≡◌, Bool, true, List, [], ℕ, ◌+◌, ◌-◌, ◌≤◌, length, set, drop}
use Rattle.std.proofs.lemmas.List.Edits.{sets}
use Rattle.language.specs.Syntax.{head_size, Value, int, err, pkg, size}
use Rattle.language.specs.View.{mask}
use Rattle.memory.specs.Words.{Got, head_words, enc, wrap, head_at, packaged, read_of}
use Rattle.memory.specs.Memory.{proper}

-- The place after the value whose words start at `at`.
unfoldable pub end_of : List ℕ → ℕ → ℕ
end_of ws at = at + (length (drop at ws) - length (read_of (drop at ws)).1)

-- Where the words ws are read as `got` from `at` on: whether the value is proper, and the place after it, which is `at`
-- where nothing is left.
pub record Walks (labels : ℕ) (ws : List ℕ) (at : ℕ) (got : Got) (ok : Bool) (next : ℕ) : Type 0 where
  pub forward : at ≤ next
  pub bounded : next ≤ at + (length ws - at)
  pub told : ok ≡ proper labels got.0
  pub after : drop next ws ≡ got.1

-- Where the words ws are read as `got`: the words of its mask are stored in `out` from `to` on, which leaves `left`;
-- `end` is the place after them, and `next` the place after the words that were read.
pub record Masks (shows : ℕ → Bool) (ws : List ℕ) (got : Got) (out : List ℕ) (to : ℕ) (left : List ℕ)
    (next end : ℕ) : Type 0 where
  pub stored : left ≡ sets out to (enc (mask shows got.0) [])
  pub ends : end ≡ to + size (mask shows got.0)
  pub after : drop next ws ≡ got.1

-- the first word of a value that one number makes
pub data Numeral : ℕ → (ℕ → Value) → Type 0 where
  num_int : Numeral 1 int
  num_err : Numeral 2 err

-- A package whose head stands at `at`: its content is shown, and its words are to follow.
pub record Opened (shows : ℕ → Bool) (ws : List ℕ) (at : ℕ) (out : List ℕ) (to : ℕ) (left : List ℕ)
    (end : ℕ) : Type 0 where
  pub head : left ≡ sets (set out to 5) (to + 1) (head_words (head_at ws at) [])
  pub place : end ≡ to + 1 + head_size
  pub content : packaged read_of (drop at ws) ≡ wrap (pkg (head_at ws at)) (read_of (drop (at + head_size) ws))
  pub seen : shows (head_at ws at).label ≡ true

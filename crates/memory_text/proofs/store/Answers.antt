-- The words of the location stand where they were copied to.
use Rattle.std.proofs.Common.{◌≡◌, ◌+◌, ◌-◌, length, arith, rules, refl, append_assoc}
use Rattle.std.proofs.lemmas.List.Edits.{sets-eq}
use lib.Seq.{drop-drop}
use Rattle.language.specs.World.{cell_words}
use Rattle.memory_text.proofs.store.Goals as goal

pub returns : goal.returns
returns c =
    let a = c.args in
    let k : length a.row.now ≡ cell_words = search rules in
    let z : a.at + cell_words - a.at ≡ length a.row.now = omega arith in
    rw (c.copy_from_slice.ensures.after, z, sets-eq a.row.now a.words.now a.at (omega (arith, k)))
    (rw (append_assoc, drop-drop (length a.row.now) a.at a.words.now) refl)
